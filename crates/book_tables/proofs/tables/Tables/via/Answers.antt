use Rattle.std.proofs.Common.{◌≡◌, Bool, true, false, ◌&&◌, not, refl, sym, ap, ◌∙◌}
use Rattle.std.specs.Prelude.{Option, None, if◌then◌else◌}
use Rattle.chat_model.specs.declared.ids.GroupId.{GroupId}
use Rattle.notice_ledger.specs.Past.Triggers.{is_named, smallest_named, came_by}
use Rattle.book_tables.proofs.tables.Tables.via.Goals as goal

turned : (b : Bool) (o : Option GroupId) → (if b then None else o) ≡ (if not b then o else None)
turned true o = refl
turned false o = refl

pub returns-then-is_mention : goal.returns-then-is_mention
unfolding came_by
returns-then-is_mention c = λ past text h mentioned.
    let u = c.args.user in let group = smallest_named past text u in
    c.mention_via.ensures past text h mentioned
    ∙ (turned (is_named past text u) group ∙ ap (λ b. if b && not (is_named past text u) then group else None) (sym c.if-is_mention.true ∙ c.is_mention.ensures))

pub returns-else-is_mention : goal.returns-else-is_mention
unfolding came_by
returns-else-is_mention c = λ past text h mentioned.
    let u = c.args.user in
    ap (λ b. if b && not (is_named past text u) then smallest_named past text u else None) (sym c.if-is_mention.false ∙ c.is_mention.ensures)
