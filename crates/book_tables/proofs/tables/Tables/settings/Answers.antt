use Rattle.std.proofs.Common.{ap, ◌∙◌}
use Rattle.std.specs.Prelude.{Option}
use Rattle.std.specs.Option.{option_map_or}
use Rattle.notice_ledger.specs.Past.Values.{numbered}
use Rattle.book_tables.specs.declared.preferences.Preferences.{Preferences}
use Rattle.book_tables.specs.Preferences.{Preferred, preferred, default_preferred}
use Rattle.book_tables.proofs.tables.Tables.settings.Goals as goal

pub returns-in-Some : goal.returns-in-Some
returns-in-Some c = λ past h.
    ap (λ (p : Preferred). p.settings) (ap (λ (o : Option Preferences). option_map_or preferred o default_preferred) (c.in-Some.ensures ∙ ap (numbered c.args.user.0) c.deref.ensures.value) ∙ h.preferences c.args.user)

pub returns-in-None : goal.returns-in-None
returns-in-None c = λ past h.
    c.default.ensures ∙ ap (λ (p : Preferred). p.settings) (ap (λ (o : Option Preferences). option_map_or preferred o default_preferred) (c.in-None.ensures ∙ ap (numbered c.args.user.0) c.deref.ensures.value) ∙ h.preferences c.args.user)
