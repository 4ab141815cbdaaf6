-- What the office hands to the hub.
use Rattle.std.specs.Prelude.{◌≡◌, ◌-◌, ◌^◌, ◌<◌, true}
use Rattle.chat_model.specs.Ascending.{is_ascending_by}
use Rattle.chat_model.specs.declared.deal.Deal.{Deal}
use Rattle.chat_model.specs.declared.ids.DealNo.{DealNo}

-- the hub can deal this as the deal of the number: its users ascend, and a number follows it
pub record CanBeDealt (k : DealNo) (d : Deal) : Type 0 where
  pub number : d.number ≡ k
  pub ascending : is_ascending_by (λ u. u.0) d.users ≡ true
  pub not_last : d.number.0 < 2 ^ 64 - 1
