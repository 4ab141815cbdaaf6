use Rattle.std.proofs.Common.{◌≡◌, take}
use Rattle.std.specs.Prelude.{fold}
use Rattle.book_tables.specs.TopicKeys.{lowered_writes}
use Rattle.book_tables.proofs.topic_key.hash_lowered.Given as goal

abbrev pub invariant-loop-byte : goal.invariant-loop-byte
invariant-loop-byte g l = l.state ≡ fold g.H.Hasher.write l.initial.state (lowered_writes (take l.byte-index l.bytes))
