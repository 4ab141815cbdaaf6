use Rattle.std.proofs.Common.{map, refl, ap, ◌∙◌}
use Rattle.std.specs.Prelude.{option_map, option_to_list}
use Rattle.chat_model.specs.declared.row.Row.TheVariants as row
use Rattle.chat_model.specs.declared.row.RowChange.TheVariants.{Put}
use Rattle.chat_model.specs.declared.settings.Settings.{Settings}
use Rattle.chat_model.specs.Settings.{changed_settings}
use Rattle.notice_ledger.specs.Past.Values.{Person, person}
use Rattle.book_tables.proofs.Following.{changes-setting}
use Rattle.book_tables.proofs.Steps.{as_made}
use Rattle.book_tables.proofs.tables.Tables.prepare_setting.Goals as goal

pub returns : goal.returns
returns c = λ past h next.
    let u = c.args.user in
    record {
      at = refl;
      changes = as_made _ (c.in_ok-changes.ensures past h
          ∙ ap (λ (s : Settings). map Put (option_to_list (option_map (λ (p : Person). row.User u p.name p.bot s) (person past u)))) (c.changed-settings.ensures ∙ ap (changed_settings c.args.change) (c.settings.ensures past h)))
          (changes-setting c.args.self.now past h c.args.at u c.args.change next);
      effect = refl;
    }
