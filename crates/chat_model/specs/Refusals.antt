-- The numbers of the refusals.
use Rattle.std.specs.Prelude.{ℕ}
use Rattle.chat_model.specs.declared.request.Refusal.{Refusal}
use Rattle.chat_model.specs.declared.request.Refusal.TheVariants.{NoUser, NoChannel, NoMessage, NoGroup, Exists, NotSender, NotSubscribed, EmptyText, TextTooLong, TopicTooLong, BadPeriod, BadQueue, BadEventId, TooMany, NameTooLong, BadName}

-- the number of a refusal
abbrev pub refusal_number : Refusal → ℕ
refusal_number NoUser = 10
refusal_number NoChannel = 11
refusal_number NoMessage = 12
refusal_number NoGroup = 13
refusal_number Exists = 14
refusal_number NotSender = 15
refusal_number NotSubscribed = 16
refusal_number EmptyText = 17
refusal_number TextTooLong = 18
refusal_number TopicTooLong = 19
refusal_number BadPeriod = 20
refusal_number BadQueue = 21
refusal_number (BadEventId next) = 22
refusal_number (TooMany limit) = 23
refusal_number NameTooLong = 24
refusal_number BadName = 25
