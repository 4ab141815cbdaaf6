-- The deals that the events make.
use Rattle.std.specs.Prelude.{◌+◌, List, Option, option_map, length, map}
use Rattle.std.specs.List.{filter_map}
use Rattle.chat_model.specs.Ascending.{ascending_once_by}
use Rattle.chat_model.specs.declared.event.Stamped.{Stamped}
use Rattle.chat_model.specs.declared.deal.Deal.{Deal}
use Rattle.chat_model.specs.declared.ids.UserId.{UserId}
use Rattle.notice_ledger.specs.Past.Journal.{Occurrence, occurrences}
use Rattle.notice_ledger.specs.Past.Values.{message_of, messages, deal_count}
use Rattle.notice_ledger.specs.Past.Owed.{owed_by}

-- the users to whom an event owes a notice, ascending, once each
abbrev pub owed_users : Occurrence → List UserId
owed_users o = ascending_once_by (λ u. u.0) (map (λ n. n.user) (owed_by o))

-- the deal of a send: the next one, of the next message, for the users to whom the send owes a notice
abbrev pub deal_of : Occurrence → Deal
deal_of o = record {
  number = record { 0 = deal_count o.past };
  message = record { 0 = length (messages o.past) + 1 };
  users = owed_users o;
}

-- the deal that an event makes: each send makes one
abbrev pub deal_made : Occurrence → Option Deal
deal_made o = option_map (λ m. deal_of o) (message_of o)

-- the deals, in the order of their numbers, from 0
unfoldable pub deals : List Stamped → List Deal
deals j = filter_map deal_made (occurrences j)
