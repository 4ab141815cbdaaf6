use Rattle.std.proofs.Common.{◌≡◌, List, refl, ◌∙◌}
use Rattle.std.specs.Prelude.{count_by}
use Rattle.chat_model.specs.declared.event.Stamped.{Stamped}
use Rattle.notice_ledger.specs.Past.Values.{deal_count, makes_deal}
use Rattle.notice_ledger.proofs.messages.next_deal.Goals as goal

sends_counted : (j : List Stamped) → count_by (λ s. makes_deal s.event) j ≡ deal_count j
unfolding deal_count
sends_counted j = refl

pub returns : goal.returns
returns c = c.send_count.ensures ∙ sends_counted c.args.past.now
