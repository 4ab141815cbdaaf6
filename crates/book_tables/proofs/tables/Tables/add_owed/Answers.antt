use Rattle.std.proofs.Common.{◌≡◌, ◌++◌, [], List, sym, ap, ◌∙◌, subst}
use Rattle.std.specs.Prelude.{OnOk, if◌then◌else◌}
use Rattle.std.proofs.lemmas.List.{append-nil}
use Rattle.book_tables.specs.declared.tables.Waiting.{Waiting}
use Rattle.book_tables.specs.Tables.{owed_user}
use Rattle.book_tables.proofs.tables.Tables.add_owed.Goals as goal

pub returns-then-is_user : goal.returns-then-is_user
returns-then-is_user c = λ past at h g goes.
    let owed = owed_user past at c.args.message.now c.args.user in
    subst (λ (ws : List Waiting). OnOk c.add_both.result (c.add_both.new.owed.items ≡ c.args.owed.now.items ++ ws))
    (ap (λ b. if b then owed else []) (sym c.if-is_user.true ∙ c.is_user.ensures past h)) (c.add_both.ensures past at h g goes)

pub returns-else-is_user : goal.returns-else-is_user
returns-else-is_user c = λ past at h g goes.
    let owed = owed_user past at c.args.message.now c.args.user in
    sym (ap (λ b. c.args.owed.now.items ++ (if b then owed else [])) (sym (c.is_user.ensures past h) ∙ c.if-is_user.false) ∙ append-nil c.args.owed.now.items)
