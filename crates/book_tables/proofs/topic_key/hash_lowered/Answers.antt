use Rattle.std.proofs.Common.{ℕ, [], ◌∷◌, take, get_or, sym, ap, ◌∙◌}
use Rattle.std.specs.Prelude.{fold}
use Rattle.std.specs.Char.{to_ascii_lowercase}
use Rattle.std.specs.Hash.{u8}
use Rattle.std.proofs.lemmas.List.{take_more}
use Rattle.std.proofs.lemmas.List.Sums.{fold-append}
use Rattle.book_tables.specs.TopicKeys.{lowered_writes}
use Rattle.book_tables.proofs.Steps.{flat_map-push}
use Rattle.book_tables.proofs.topic_key.hash_lowered.Goals as goal

pub loop-byte-preserved : goal.loop-byte-preserved
loop-byte-preserved g c =
    let W = g.H.Hasher.write in let bytes = c.as_bytes-bytes.result.now in let i = c.loop-byte.byte-index in let byte = get_or bytes i 0 in let start = c.args.state.now in
    c.write_u8.ensures
    ∙ (ap (λ (b : ℕ). W c.loop-byte.state (b ∷ [])) c.to_ascii_lowercase.ensures.value
    ∙ (ap (λ s. W s (to_ascii_lowercase byte ∷ [])) c.loop-byte.invariant
    ∙ (sym (fold-append W start (lowered_writes (take i bytes)) (u8 (to_ascii_lowercase byte)))
    ∙ ap (fold W start) (sym (flat_map-push (λ (b : ℕ). u8 (to_ascii_lowercase b)) (take i bytes) byte) ∙ ap lowered_writes (sym (take_more bytes i 0 c.loop-byte-test.true))))))
