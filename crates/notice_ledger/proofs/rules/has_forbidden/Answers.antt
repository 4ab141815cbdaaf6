use Rattle.std.proofs.Common.{rules, tests}
use Rattle.std.proofs.lemmas.Iterator.{YieldsList-from_chars}
use Rattle.std.proofs.lemmas.Iterator.Search.{any_from_yields_List}
use Rattle.notice_ledger.specs.Texts.{is_forbidden}
use Rattle.notice_ledger.proofs.rules.has_forbidden.Goals as goal

pub returns : goal.returns
returns c = any_from_yields_List is_forbidden _ _ _ c.any.ensures.ran (YieldsList-from_chars c.args.name.now c.utf8.name cc) (λ x b q k. search (rules, tests))
