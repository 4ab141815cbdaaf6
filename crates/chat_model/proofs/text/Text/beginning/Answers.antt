use Rattle.std.proofs.Common.{rules}
use Rattle.std.proofs.lemmas.Iterator.{YieldsList-from_chars, YieldsList-from_take, text_from_collect}
use Rattle.chat_model.specs.Texts.{beginning}
use Rattle.chat_model.proofs.text.Text.beginning.Goals as goal

pub returns : goal.returns
unfolding beginning
returns c =
    let begun = text_from_collect _ c.collect.ensures.ran (YieldsList-from_take _ (YieldsList-from_chars c.args.self.now (search rules) cc) c.take.ensures.count) in
    search (rules, begun)
