use Rattle.office.proofs.office.make_ready.Goals as goal

pub prepare-requires : goal.prepare-requires
prepare-requires c = (c.args.journal.now.items, c.requires.tables, c.requires.lawful)
