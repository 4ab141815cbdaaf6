use Rattle.std.proofs.Common.{not, ◌∙◌, ap, arith}
use Rattle.chat_model.proofs.PlaceLemmas.{place_within, put_between, put_over}
use Rattle.chat_model.proofs.places.put.Goals as goal

pub insert-requires : goal.insert-requires
insert-requires c = omega (arith, place_within c.key-key.result c.as_slice.result.now)

pub returns-then-has_key_at-clause-items : goal.returns-then-has_key_at-clause-items
returns-then-has_key_at-clause-items c =
    put_over _ _ _ _ _ _ _ c.requires.ascending c.key-key.ensures c.as_slice.ensures.value c.as_slice-2.ensures.value c.place-at.ensures c.has_key_at.ensures c.if-has_key_at.true

pub returns-else-is_err-clause-items : goal.returns-else-is_err-clause-items
returns-else-is_err-clause-items c =
    rw (c.is_err.ensures.negation ∙ ap not c.if-is_err.false) at c.insert.ensures.items
    ∙ put_between _ _ _ _ _ _ _ c.requires.ascending c.key-key.ensures c.as_slice.ensures.value c.as_slice-2.ensures.value c.place-at.ensures c.has_key_at.ensures c.if-has_key_at.false
