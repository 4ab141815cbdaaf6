use Rattle.std.proofs.Common.{◌≡◌, Option, max, refl, sym, ap, ◌∙◌, subst}
use Rattle.std.specs.Prelude.{IfSome}
use Rattle.std.proofs.lemmas.List.{append-nil}
use Rattle.chat_model.specs.declared.event.Stamped.{Stamped}
use Rattle.chat_model.specs.declared.event.Event.TheVariants.{Restart}
use Rattle.keeper.specs.declared.keeper.Kept.{Kept}
use Rattle.notice_ledger.specs.Journal.{stamp}
use Rattle.notice_ledger.specs.Deals.{absorbed_since_start, is_fresh}
use Rattle.office.specs.Office.{KeptStandsFor}
use Rattle.office.proofs.Offices.{restart_lawful}
use Rattle.office.proofs.Reaching.{absorbed-started, fresh-more}
use Rattle.office.proofs.office.Office.start.Goals as goal

pub record_event-requires-clause-office : goal.record_event-requires-clause-office
record_event-requires-clause-office g c =
    let P : Option Kept → Type 0 = λ told. IfSome told (KeptStandsFor c.in-Ok.field-0.journal.items) in
    record { tables = c.in-Ok.ensures.tables; kept = subst P (sym c.load_kept.ensures.stays) c.in-Ok.ensures.kept }

pub record_event-requires-clause-lawful : goal.record_event-requires-clause-lawful
record_event-requires-clause-lawful g c =
    let j = c.in-Ok.field-0.journal.items in
    let stamped : c.later.result ≡ stamp j c.args.now = c.later.ensures ∙ ap (max c.args.now) (c.last_stamp.ensures j c.in-Ok.ensures.tables) in
    restart_lawful j c.args.now c.later.result stamped

pub invariant_of-result : goal.invariant_of-result
invariant_of-result g c =
    let j = c.in-Ok.field-0.journal.items in
    let start : Stamped = record { at = c.later.result; event = Restart } in
    let stamped : c.later.result ≡ stamp j c.args.now = c.later.ensures ∙ ap (max c.args.now) (c.last_stamp.ensures j c.in-Ok.ensures.tables) in
    record {
      tables = c.in-Ok-record_event.ensures.office.tables;
      kept = c.in-Ok-record_event.ensures.office.kept;
      unused_is = sym (ap is_fresh c.in-Ok-record_event.ensures.ok ∙ fresh-more j start (restart_lawful j c.args.now c.later.result stamped));
    }

pub returns-in-Ok-record_event-clause-reached : goal.returns-in-Ok-record_event-clause-reached
returns-in-Ok-record_event-clause-reached g c =
    let j = c.in-Ok.field-0.journal.items in
    let start : Stamped = record { at = c.later.result; event = Restart } in
    let stamped : c.later.result ≡ stamp j c.args.now = c.later.ensures ∙ ap (max c.args.now) (c.last_stamp.ensures j c.in-Ok.ensures.tables) in
    append-nil (absorbed_since_start c.record_event.new.journal.items)
    ∙ (ap absorbed_since_start c.in-Ok-record_event.ensures.ok ∙ absorbed-started j start (restart_lawful j c.args.now c.later.result stamped) refl)
