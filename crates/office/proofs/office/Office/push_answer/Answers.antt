use Rattle.std.proofs.Common.{[], ◌∷◌, ◌++◌, length, ap, ◌∙◌}
use Rattle.chat_model.specs.declared.push_item.PushItem.{PushItem}
use Rattle.std.specs.Prelude.{Some}
use Rattle.office.specs.Office.{push_turn}
use Rattle.office.proofs.office.Office.push_answer.Goals as goal

pub returns-in-Remove : goal.returns-in-Remove
returns-in-Remove g c = λ at next.
    (c.in-Remove.messages, c.requires ∙ ap Some c.in-Remove.is, ap length c.as_slice.ensures, ap (λ (item : PushItem). c.args.self.now.journal ++ push_turn at item ∷ []) c.in-Remove.is)
