-- The answers to requests.
use Rattle.std.specs.Prelude.{◌+◌, List, length}
use Rattle.chat_model.specs.declared.event.Stamped.{Stamped}
use Rattle.chat_model.specs.declared.request.Request.{Request}
use Rattle.chat_model.specs.declared.request.Request.TheVariants.{AddUser, AddGroup, Member, AddChannel, Subscribe, Set, SetChannel, SetPolicy, Mute, Send, Direct, Delete, Read}
use Rattle.chat_model.specs.declared.request.Answer.{Answer}
use Rattle.chat_model.specs.declared.request.Answer.TheVariants as answer
use Rattle.notice_ledger.specs.Past.Values.{people, groups, channels, messages, deal_count}
use Rattle.notice_ledger.specs.Lawful.{lawful}

-- the answer to a request that is not refused, behind events that all count
abbrev pub answer_after : List Stamped → Request → Answer
answer_after past (AddUser name bot) = answer.User (record { 0 = length (people past) + 1 })
answer_after past (AddGroup name members) = answer.Group (record { 0 = length (groups past) + 1 })
answer_after past (Member group user on) = answer.Done
answer_after past (AddChannel name) = answer.Channel (record { 0 = length (channels past) + 1 })
answer_after past (Subscribe user channel on) = answer.Done
answer_after past (Set user change) = answer.Done
answer_after past (SetChannel user channel change) = answer.Done
answer_after past (SetPolicy user channel topic policy) = answer.Done
answer_after past (Mute user other on) = answer.Done
answer_after past (Send sender channel topic text) = answer.Sent (record { 0 = length (messages past) + 1 }) (record { 0 = deal_count past })
answer_after past (Direct sender to text) = answer.Sent (record { 0 = length (messages past) + 1 }) (record { 0 = deal_count past })
answer_after past (Delete user message) = answer.Done
answer_after past (Read user messages) = answer.Done

-- the answer to a request that is not refused, after any list of events
abbrev pub answer_of : List Stamped → Request → Answer
answer_of j request = answer_after (lawful j) request
