use Rattle.std.proofs.Common.{◌≡◌, ℕ, Bool, true, false, List, [], ◌∷◌, ◌++◌, map, refl, sym, ap, ◌∙◌}
use Rattle.std.specs.Prelude.{Option, Some, None, option_map, option_to_list, is_some}
use Rattle.std.specs.Option.{option_map_or}
use Rattle.chat_model.specs.declared.ids.UserId.{UserId}
use Rattle.chat_model.specs.declared.row.Row.TheVariants as row
use Rattle.chat_model.specs.declared.row.RowChange.{RowChange}
use Rattle.chat_model.specs.declared.row.RowChange.TheVariants.{Put}
use Rattle.chat_model.specs.declared.settings.Settings.{Settings}
use Rattle.notice_ledger.specs.Past.Values.{Person, person, user_name}
use Rattle.book_tables.proofs.tables.Tables.user_changes.Goals as goal

-- nobody has no row
nobody : (u : UserId) (s : Settings) (o : Option Person) → is_some o ≡ false → [] ≡ map Put (option_to_list (option_map (λ (p : Person). row.User u p.name p.bot s) o))
nobody u s None h = refl
nobody u s (Some p) h = absurd (cc)

-- who is there has one
somebody : (u : UserId) (s : Settings) (o : Option Person) → is_some o ≡ true → Put (row.User u (option_map_or (λ (p : Person). p.name) o []) (option_map_or (λ (p : Person). p.bot) o false) s) ∷ [] ≡ map Put (option_to_list (option_map (λ (p : Person). row.User u p.name p.bot s) o))
somebody u s None h = absurd (cc)
somebody u s (Some p) h = refl

pub returns-then-not-is_user : goal.returns-then-not-is_user
returns-then-not-is_user c = λ past h.
    let u = c.args.user in
    c.new.ensures.items ∙ nobody u c.args.settings (person past u) (sym (c.is_user.ensures past h) ∙ c.if-not-is_user.true)

pub returns : goal.returns
returns c = λ past h.
    let u = c.args.user in let s = c.args.settings in
    let made : List ℕ → Bool → List RowChange = λ name bot. Put (row.User u name bot s) ∷ [] in
    c.in_ok-push.ensures.items
    ∙ (ap (λ (cs : List RowChange). cs ++ made c.in_ok-from_str.field-0 c.is_bot.result) c.new-changes.ensures.items
    ∙ (ap (λ n. made n c.is_bot.result) (c.in_ok-from_str.ensures ∙ c.name.ensures past h)
    ∙ (ap (made (user_name past u)) (c.is_bot.ensures past h) ∙ somebody u s (person past u) (sym (c.is_user.ensures past h) ∙ c.if-not-is_user.false))))
