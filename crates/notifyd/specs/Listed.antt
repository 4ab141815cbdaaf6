-- The lists of a line.
use Rattle.std.specs.Prelude.{ℕ, List, map}
use Rattle.chat_model.specs.declared.ids.UserId.{UserId}
use Rattle.chat_model.specs.declared.ids.MessageId.{MessageId}

-- the users of these numbers
abbrev pub users_of : List ℕ → List UserId
users_of numbers = map (λ number. record { 0 = number }) numbers

-- the messages of these numbers
abbrev pub messages_of : List ℕ → List MessageId
messages_of numbers = map (λ number. record { 0 = number }) numbers
