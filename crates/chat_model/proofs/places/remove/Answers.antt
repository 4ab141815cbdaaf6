use Rattle.std.proofs.Common.{◌∙◌}
use Rattle.chat_model.proofs.PlaceLemmas.{remove_found, remove_none}
use Rattle.chat_model.proofs.places.remove.Goals as goal

pub returns-then-has_key_at-clause-items : goal.returns-then-has_key_at-clause-items
returns-then-has_key_at-clause-items c =
    c.remove.ensures.items
    ∙ remove_found _ _ _ _ _ _ c.requires c.as_slice.ensures.value c.as_slice-2.ensures.value c.place-at.ensures c.has_key_at.ensures c.if-has_key_at.true

pub returns-else-has_key_at-clause-items : goal.returns-else-has_key_at-clause-items
returns-else-has_key_at-clause-items c =
    remove_none _ _ _ _ _ _ c.requires c.as_slice.ensures.value c.as_slice-2.ensures.value c.place-at.ensures c.has_key_at.ensures c.if-has_key_at.false
