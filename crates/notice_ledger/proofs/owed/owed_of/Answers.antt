use Rattle.std.proofs.Common.{◌≡◌, List, sym, ap, ◌∙◌, subst}
use Rattle.std.specs.Prelude.{IfOk}
use Rattle.notice_ledger.specs.declared.owed.Owed.{Owed}
use Rattle.notice_ledger.specs.declared.facts.Heard.{Heard}
use Rattle.notice_ledger.specs.Past.Triggers.{mentions_of}
use Rattle.notice_ledger.specs.Plain.{owed_to_all}
use Rattle.notice_ledger.proofs.OwedLemmas.{IsHeard, owed_of_heard}
use Rattle.notice_ledger.proofs.owed.owed_of.Goals as goal

pub returns : goal.returns
returns c =
    let j = c.args.past.now in let s = c.args.stamped.now in
    let h : Heard = record { number = c.next_message.result; deal = c.next_deal.result; sender = c.args.sender; to = c.args.to; mentioned = c.in_ok-mentions.field-0; bots = c.in_ok-bots.field-0 } in
    let heard : IsHeard j c.args.text.now h = record { number = c.next_message.ensures; deal = c.next_deal.ensures; mentioned = c.in_ok-mentions.ensures ∙ ap (mentions_of j) c.as_str.ensures; bots = c.in_ok-bots.ensures } in
    subst (λ (ns : List Owed). IfOk c.owed_to_all.result (λ owed. owed.items ≡ ns))
    (ap (owed_to_all j h) (c.deref.ensures.value ∙ c.in_ok-users.ensures) ∙ sym (owed_of_heard j s h c.args.text.now heard))
    c.owed_to_all.ensures
