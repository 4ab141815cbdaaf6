-- What is taken of a text.
use Rattle.std.specs.Prelude.{ℕ, List, take, chars}
use Rattle.std.specs.Str.{encode_utf8_all}

-- the first so many characters of a text, or all where it has fewer
unfoldable pub beginning : ℕ → List ℕ → List ℕ
beginning most text = encode_utf8_all (take most (chars text))
