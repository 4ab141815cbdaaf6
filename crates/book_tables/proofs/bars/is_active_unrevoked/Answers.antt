use Rattle.std.proofs.Common.{◌∙◌}
use Rattle.chat_model.specs.declared.trigger.Way.TheVariants.{Push}
use Rattle.book_tables.specs.Bars.{is_unbarred_of}
use Rattle.book_tables.proofs.Barring.{some-passes}
use Rattle.book_tables.proofs.bars.is_active_unrevoked.Goals as goal

pub returns : goal.returns
returns c = λ order numbered. c.is_some.ensures ∙ some-passes (is_unbarred_of c.args.pair Push) c.args.active.now _ (c.unbarred_of_pair.ensures order numbered)
