use Rattle.std.proofs.Common.{◌≡◌, List, [], ◌∷◌, ◌++◌, Option, sym, ap, ◌∙◌, subst}
use Rattle.std.specs.Prelude.{IfErr, option_map}
use Rattle.std.proofs.lemmas.Result.{err_from_is_err_and}
use Rattle.chat_model.specs.Counts.{HasRisen}
use Rattle.office.specs.declared.answer.StepFault.{StepFault}
use Rattle.office.specs.declared.answer.StepFault.TheVariants.{KeeperFault}
use Rattle.chat_model.specs.declared.event.Stamped.{Stamped}
use Rattle.chat_model.specs.declared.row.RowChange.{RowChange}
use Rattle.keeper.specs.declared.keeper.Kept.{Kept}
use Rattle.keeper.specs.Kept.{committed}
use Rattle.book_tables.specs.Prepared.{changes_of}
use Rattle.office.specs.Office.{IsOffice}
use Rattle.office.proofs.Offices.{office_after}
use Rattle.office.proofs.office.record_event.Goals as goal

pub make_ready-requires : goal.make_ready-requires
make_ready-requires g c = record { lawful = c.requires.lawful; tables = c.requires.office.tables }

pub apply-requires : goal.apply-requires
apply-requires g c =
    let ready = c.in_ok-prepared.ensures.ready in
    record {
      room = ready.room;
      prepared = (c.args.journal.now.items, c.args.stamped, c.make_ready.ensures.tables, c.requires.lawful, ready.prepared);
    }

pub returns-in_err-prepared-clause-office : goal.returns-in_err-prepared-clause-office
returns-in_err-prepared-clause-office g c =
    subst (λ (j : List Stamped). IsOffice (g.K.Keeper.kept c.args.keeper.now) j c.make_ready.new.tables) (sym c.make_ready.ensures.journal)
    (record { tables = c.make_ready.ensures.tables; kept = c.requires.office.kept })

pub returns-in_err-commit-clause-office : goal.returns-in_err-commit-clause-office
returns-in_err-commit-clause-office g c =
    subst (λ (j : List Stamped). IsOffice (g.K.Keeper.kept c.commit.new.keeper) j c.make_ready.new.tables) (sym c.make_ready.ensures.journal)
    (subst (λ (k : Option Kept). IsOffice k c.args.journal.now.items c.make_ready.new.tables) (sym c.in_err-commit.ensures.err)
    (record { tables = c.make_ready.ensures.tables; kept = c.requires.office.kept }))

pub returns-clause-office : goal.returns-clause-office
returns-clause-office g c =
    let told = g.K.Keeper.kept c.args.keeper.now in let s = c.args.stamped in let j = c.args.journal.now.items in
    let p = c.in_ok-prepared.prepared in let ready = c.in_ok-prepared.ensures.ready in
    subst (λ (x : List Stamped). IsOffice (g.K.Keeper.kept c.commit.new.keeper) x c.apply.new.self) (sym (c.push_reserved.ensures.items ∙ ap (λ x. x ++ s ∷ []) c.make_ready.ensures.journal))
    (subst (λ (k : Option Kept). IsOffice k (j ++ s ∷ []) c.apply.new.self) (sym (c.in_ok-commit.ensures.ok ∙ ap (λ (x : List RowChange). option_map (committed s x) told) c.changes.ensures))
    (office_after c.apply.new.self j s told (changes_of p) c.requires.office.kept ready.changes
    (c.apply.ensures j s c.make_ready.ensures.tables c.requires.lawful ready.prepared)))

-- what `?` hands on is the fault of the commit
pub returns-in_err-commit-clause-fault : goal.returns-in_err-commit-clause-fault
returns-in_err-commit-clause-fault g c =
    let found = err_from_is_err_and c.from_residual-in_err-commit.result c.from_residual-in_err-commit.ensures.1 in
    subst (λ r. IfErr r (λ (e : StepFault). e ≡ KeeperFault → HasRisen (g.K.Keeper.faults c.args.keeper.now) (g.K.Keeper.faults c.commit.new.keeper))) (sym found.1)
    (λ is. c.in_err-commit.ensures.fault (sym found.2 ∙ is))
