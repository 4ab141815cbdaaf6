-- Topics of a channel without ASCII case, and what is hashed of them.
use Rattle.std.specs.Prelude.{ℕ, ◌≡◌, Bool, ◌&&◌, ◌==◌, List, [], ◌∷◌, ◌++◌}
use Rattle.std.specs.List.{flat_map}
use Rattle.std.specs.Char.{to_ascii_lowercase}
use Rattle.std.specs.Str.{str_eq_ignore_ascii_case, str_to_ascii_lowercase}
use Rattle.std.specs.Cmp.{IsEquivalence, and_equiv, on_equiv, nat_eq_equiv, unsigned_Decides}
use Rattle.std.specs.Cmp.Lexicographic.{nat_list_eq_equiv, bytes_decides}
use Rattle.std.specs.Hash.{HashWrites, Alike, and-Alike, on_Alike, same_Alike}
use Rattle.std.specs.Hash as fed
use Rattle.std.proofs.Common.{refl, sym, ap, ◌∙◌}
use Rattle.book_tables.specs.declared.topic_key.TopicKey.{TopicKey}

-- the keys are of one topic of one channel, without ASCII case
abbrev pub same_topic : TopicKey → TopicKey → Bool
same_topic k l = k.channel.0 == l.channel.0 && str_eq_ignore_ascii_case k.topic l.topic

pub same_topic-equiv : IsEquivalence same_topic
same_topic-equiv = and_equiv (on_equiv (λ (k : TopicKey). k.channel.0) nat_eq_equiv) (on_equiv (λ (k : TopicKey). str_to_ascii_lowercase k.topic) nat_list_eq_equiv)

-- what is hashed of a text: byte by byte, with its ASCII letters lowered
abbrev pub lowered_writes : List ℕ → HashWrites
lowered_writes text = flat_map (λ b. fed.u8 (to_ascii_lowercase b)) text

-- what is hashed of a topic
abbrev pub topic_writes : TopicKey → HashWrites
topic_writes k = fed.u64 k.channel.0 ++ lowered_writes k.topic

-- texts that are the same without ASCII case are hashed alike
lowered_alike : Alike str_eq_ignore_ascii_case lowered_writes
lowered_alike = record { fed = λ a b h. of_lowered a ∙ (ap (flat_map fed.u8) ((bytes_decides (str_to_ascii_lowercase a) (str_to_ascii_lowercase b)).0 h) ∙ sym (of_lowered b)) }
  where
    of_lowered : (text : List ℕ) → lowered_writes text ≡ flat_map fed.u8 (str_to_ascii_lowercase text)
    of_lowered [] = refl
    of_lowered (b ∷ bs) = ap (λ writes. fed.u8 (to_ascii_lowercase b) ++ writes) (of_lowered bs)

pub topic_writes-alike : Alike same_topic topic_writes
topic_writes-alike = and-Alike (on_Alike (λ (k : TopicKey). k.channel.0) (same_Alike fed.u64 unsigned_Decides)) (on_Alike (λ (k : TopicKey). k.topic) lowered_alike)
