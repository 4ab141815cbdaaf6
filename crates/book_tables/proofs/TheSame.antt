-- Tables that hold the same stand for the same journal.
use Rattle.std.proofs.Common.{◌≡◌, List, [], ◌++◌, length, map, sym, ap, ◌∙◌, subst}
use Rattle.std.specs.Prelude.{IsPermutation, option_map}
use Rattle.std.specs.Option.{option_map_or}
use Rattle.std.proofs.lemmas.List.{length-map}
use Rattle.chat_model.specs.declared.event.Stamped.{Stamped}
use Rattle.std.specs.FinMap as finite
use Rattle.std.specs.Ordering.{nat_cmp}
use Rattle.chat_model.specs.declared.ids.UserId.{UserId}
use Rattle.notice_ledger.specs.Past.Values.{people, groups, channels, messages}
use Rattle.notice_ledger.specs.Past.Due.{batch_rows}
use Rattle.book_tables.specs.declared.tables.Tables.{Tables}
use Rattle.book_tables.specs.UserSets.{users_in}
use Rattle.book_tables.specs.Preferences.{preferred}
use Rattle.mail_batches.specs.Batches.{Waiting as Batches, Batch, due_of, rows_of}
use Rattle.book_tables.specs.Tables.{Holds, HoldBatches}
use Rattle.book_tables.specs.Applied.{HoldTheSame}
use Rattle.book_tables.proofs.PreferenceLemmas.{at_number, preferred_in-list}
use Rattle.book_tables.proofs.UserSets.{is_in, has_in-sets}
use Rattle.book_tables.proofs.SetSizes.{are_user_sets}
use Rattle.book_tables.specs.Receipts.{is_marked}

-- batches of the same users hold the same
same_batches : (old new : Batches) (j : List Stamped) → new.batches ≡ old.batches → HoldBatches old j → HoldBatches new j
same_batches old new j same held = record {
  rows = λ u. subst (IsPermutation (map (λ n. n.number) (batch_rows j u))) (sym (rows u)) (held.rows u);
  due = λ u. dues u ∙ held.due u;
}
  where
    rows : (u : UserId) → rows_of new u ≡ rows_of old u
    rows u = ap (λ (bs : finite.FinMap nat_cmp Batch). option_map_or (λ (b : Batch). b.rows) (finite.get bs u.0) []) same

    dues : (u : UserId) → due_of new u ≡ due_of old u
    dues u = ap (λ (bs : finite.FinMap nat_cmp Batch). option_map (λ (b : Batch). b.due) (finite.get bs u.0)) same

-- tables that hold the same stand for the same journal
pub same_stands : (old new : Tables) (j : List Stamped) → Holds old j → HoldTheSame old new → Holds new j
same_stands old new j stands same = record {
  last = same.last ∙ stands.last;
  starts = same.starts ∙ stands.starts;
  names = same.names ∙ stands.names;
  bots = same.bots ∙ stands.bots;
  preferences = λ u. preferred_in-list new.preferences.items u.0 ∙ (ap (λ ps. at_number ps u.0) same.preferences ∙ (sym (preferred_in-list old.preferences.items u.0) ∙ stands.preferences u));
  preferences_long = sym (length-map new.preferences.items preferred) ∙ (ap length same.preferences ∙ (length-map old.preferences.items preferred ∙ stands.preferences_long));
  members = λ g u. has_in-sets new.members.items g.0 u ∙ (ap (λ sets. is_in sets g.0 u) same.members ∙ (sym (has_in-sets old.members.items g.0 u) ∙ stands.members g u));
  member_sets = are_user_sets (length (groups j)) (length (people j)) new.members.items (map users_in old.members.items) same.members (length-map old.members.items users_in ∙ stands.member_sets.count) stands.member_sets.sets;
  groups = same.groups ∙ stands.groups;
  subscribers = λ c u. has_in-sets new.subscribers.items c.0 u ∙ (ap (λ sets. is_in sets c.0 u) same.subscribers ∙ (sym (has_in-sets old.subscribers.items c.0 u) ∙ stands.subscribers c u));
  subscriber_sets = are_user_sets (length (channels j)) (length (people j)) new.subscribers.items (map users_in old.subscribers.items) same.subscribers (length-map old.subscribers.items users_in ∙ stands.subscriber_sets.count) stands.subscriber_sets.sets;
  channels = same.channels ∙ stands.channels;
  addressees = λ m u. has_in-sets new.addressees.items m.0 u ∙ (ap (λ sets. is_in sets m.0 u) same.addressees ∙ (sym (has_in-sets old.addressees.items m.0 u) ∙ stands.addressees m u));
  addressees_long = sym (length-map new.addressees.items users_in) ∙ (ap length same.addressees ∙ (length-map old.addressees.items users_in ∙ stands.addressees_long));
  deleted = λ m. ap (λ marks. is_marked marks m.0) same.deleted ∙ stands.deleted m;
  deleted_long = ap length same.deleted ∙ stands.deleted_long;
  messages = same.messages ∙ stands.messages;
  waiting = same.waiting ∙ stands.waiting;
  cleared = same.cleared ∙ stands.cleared;
  batches = same_batches old.batches new.batches j same.batches stands.batches;
  items = same.items ∙ stands.items;
  active = same.active ∙ stands.active;
  deals = same.deals ∙ stands.deals;
  outbox = same.outbox ∙ stands.outbox;
  handed = same.handed ∙ stands.handed;
  off = same.off ∙ stands.off;
  read = same.read ∙ stands.read;
  gone = same.gone ∙ stands.gone;
  written = same.written ∙ stands.written;
}
