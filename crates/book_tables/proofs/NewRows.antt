-- The rows that an event adds or changes, table by table.
use Rattle.std.specs.Prelude.{◌+◌, false, Option, List, [], ◌∷◌, ◌++◌, length, map, option_map, option_to_list}
use Rattle.chat_model.specs.declared.event.Stamped.{Stamped}
use Rattle.chat_model.specs.declared.event.Event.{Event}
use Rattle.chat_model.specs.declared.event.Event.TheVariants.{Asked}
use Rattle.chat_model.specs.declared.request.Request.TheVariants.{AddUser, Set, Delete}
use Rattle.chat_model.specs.declared.row.Row.{Row}
use Rattle.chat_model.specs.declared.row.Row.TheVariants as row
use Rattle.chat_model.specs.declared.row.RowChange.{RowChange}
use Rattle.chat_model.specs.declared.row.RowChange.TheVariants.{Put}
use Rattle.chat_model.specs.Settings.{changed_settings}
use Rattle.notice_ledger.specs.Past.Values.{person, people, SentMessage, messages, settings, sent_by}
use Rattle.notice_ledger.specs.Past.Outbox.{outbox, entries_by}
use Rattle.notice_ledger.specs.Past.Rows.{outbox_rows_from}
use Rattle.book_tables.specs.Prepared.{deleted_row}

-- the row of a user that the event adds, or one of whose switches it changes
abbrev pub new_user_rows : List Stamped → Event → List Row
new_user_rows j (Asked (AddUser name bot)) = row.User (record { 0 = length (people j) + 1 }) name bot (settings j (record { 0 = length (people j) + 1 })) ∷ []
new_user_rows j (Asked (Set user change)) = option_to_list (option_map (λ p. row.User user p.name p.bot (changed_settings change (settings j user))) (person j user))
new_user_rows j _ = []

-- the row of a message that the event sends
abbrev pub sent_rows : List Stamped → Option SentMessage → List Row
sent_rows j sent = option_to_list (option_map (λ m. row.Message (record { 0 = length (messages j) + 1 }) m.sender m.text false) sent)

-- the row of a message that the event sends or deletes
abbrev pub new_message_rows : List Stamped → Event → List Row
new_message_rows j (Asked (Delete user message)) = option_to_list (deleted_row j message)
new_message_rows j e = sent_rows j (sent_by j e)

-- the rows of the entries that the event makes
abbrev pub new_outbox_rows : List Stamped → Stamped → List Row
new_outbox_rows j s = outbox_rows_from (length (outbox j) + 1) (entries_by j s.at s.event)

-- the changes of the rows that an event brings, where these are the changes of pending rows, and these of active pushes'
abbrev pub changes_with : List Stamped → Stamped → List RowChange → List RowChange → List RowChange
changes_with j s pending active = map Put (new_user_rows j s.event) ++ (map Put (new_message_rows j s.event) ++ (pending ++ (active ++ map Put (new_outbox_rows j s))))
