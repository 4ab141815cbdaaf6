use Rattle.std.proofs.Common.{◌≡◌, Bool, true, false, sym, ap, ◌∙◌}
use Rattle.std.specs.Prelude.{◌↔◌, Option, IsTrue}
use Rattle.std.specs.Option.{option_map_or}
use Rattle.chat_model.specs.declared.push_item.PushItem.{PushItem}
use Rattle.notice_ledger.specs.Past.Pushes.{same_item}
use Rattle.notice_ledger.proofs.PushesWait.{same_item-exact}
use Rattle.book_tables.proofs.tables.Tables.is_oldest.Goals as goal

-- two tests of one fact are the same
both_tell : {P : Type 0} (a b : Bool) → IsTrue a ↔ P → IsTrue b ↔ P → a ≡ b
both_tell true b tells also = sym (also.1 (tells.0 refl'))
  where
    refl' : true ≡ true
    refl' = cc
both_tell false true tells also = tells.1 (also.0 (cc))
both_tell false false tells also = cc

pub returns-in-Some : goal.returns-in-Some
returns-in-Some c = λ j at stands.
    both_tell c.is_same.result (same_item c.args.item.now c.in-Some.oldest.now) c.is_same.ensures (same_item-exact c.args.item.now c.in-Some.oldest.now)
    ∙ ap (λ (o : Option PushItem). option_map_or (same_item c.args.item.now) o false) (c.in-Some.ensures j stands)
