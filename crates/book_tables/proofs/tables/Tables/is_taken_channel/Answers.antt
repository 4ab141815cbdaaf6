use Rattle.std.proofs.Common.{List, ℕ, ap, ◌∙◌}
use Rattle.std.specs.List.{list_any}
use Rattle.std.specs.Str.{str_eq_ignore_ascii_case}
use Rattle.book_tables.proofs.Standing.{channel-taken}
use Rattle.book_tables.proofs.tables.Tables.is_taken_channel.Goals as goal

pub returns : goal.returns
returns c = λ past h. c.is_channel_name.ensures ∙ (ap (λ (names : List (List ℕ)). list_any (str_eq_ignore_ascii_case c.args.name.now) names) c.deref.ensures.value ∙ channel-taken c.args.self.now past h c.args.name.now)
