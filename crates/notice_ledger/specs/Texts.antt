-- What the rules of a request test of a text and of a name.
use Rattle.std.specs.Prelude.{ℕ, Bool, ◌||◌, ◌==◌, nat_lt, List, length, chars, slice_index, ◌-◌}
use Rattle.std.specs.Char.{is_whitespace, is_control}
use Rattle.std.specs.List.{list_all, list_any}
use Rattle.std.specs.Str.{byte}

-- the text has more than so many characters
unfoldable pub is_longer_than : ℕ → List ℕ → Bool
is_longer_than most text = nat_lt most (length (chars text))

-- the text has only whitespace
unfoldable pub is_blank : List ℕ → Bool
is_blank text = list_all is_whitespace (chars text)

-- a character that no name has: a control character or one of * | @ \ > " and a backquote
abbrev pub is_forbidden : ℕ → Bool
is_forbidden c =
    is_control c || c == byte "*" || c == byte "|" || c == byte "@" || c == byte "\\" || c == byte ">" || c == byte "\"" || c == byte "`"

-- the name begins or ends with a space
abbrev pub has_outer_space : List ℕ → Bool
has_outer_space name = slice_index name 0 == byte " " || slice_index name (length name - 1) == byte " "

-- the name is empty, begins or ends with a space, or has a character that no name has
unfoldable pub is_bad_name : List ℕ → Bool
is_bad_name name = length name == 0 || has_outer_space name || list_any is_forbidden (chars name)
