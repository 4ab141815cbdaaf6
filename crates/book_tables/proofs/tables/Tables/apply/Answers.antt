use Rattle.std.proofs.Common.{List, ℕ, sym, subst}
use Rattle.chat_model.specs.declared.event.Stamped.{Stamped}
use Rattle.notice_ledger.specs.Lawful.{lawful}
use Rattle.notice_ledger.proofs.LawfulLemmas.{lawful-next}
use Rattle.notice_ledger.proofs.PushesWait.{lawful-pushes}
use Rattle.book_tables.specs.declared.tables.Tables.{Tables}
use Rattle.book_tables.specs.Applied.{IsApplied}
use Rattle.book_tables.specs.Tables.{Holds}
use Rattle.book_tables.proofs.After.{holds_after, applied_at}
use Rattle.book_tables.proofs.Sound.{sound_prepared, fits_prepared}
use Rattle.book_tables.proofs.tables.Tables.apply.Goals as goal

pub make-requires-clause-sound : goal.make-requires-clause-sound
make-requires-clause-sound c = sound_prepared c.args.self.now c.args.prepared c.requires.prepared

pub make-requires-clause-fits : goal.make-requires-clause-fits
make-requires-clause-fits c = fits_prepared c.args.self.now c.args.prepared c.requires.prepared

pub returns : goal.returns
returns c = λ j s h next fits.
    let new : Tables = record c.make.new.self { last = c.args.prepared.at } in
    subst (λ (k : List Stamped). Holds new k) (sym (lawful-next j s next))
    (holds_after c.args.self.now new (lawful j) (lawful-pushes j) h s next c.args.prepared.effect fits.effect (subst (λ (n : ℕ). IsApplied c.args.self.now new n c.args.prepared.effect) fits.at (applied_at c.args.self.now c.make.new.self c.args.prepared.at c.args.prepared.effect c.make.ensures)) fits.at)
