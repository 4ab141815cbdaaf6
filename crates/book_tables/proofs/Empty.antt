-- The tables of the empty journal.
use Rattle.std.proofs.Common.{◌≡◌, ℕ, zero, suc, ◌+◌, false, List, [], length, map, refl, sym, ap, ◌∙◌, subst}
use Rattle.std.specs.Prelude.{IsPermutation, count_by, find, option_map, filter}
use Rattle.std.specs.Option.{option_map_or}
use Rattle.chat_model.specs.declared.row.Cause.TheVariants.{Read, Deleted, SwitchedOff}
use Rattle.notice_ledger.specs.declared.accounts.Account.{Account}
use Rattle.notice_ledger.specs.Past.Triggers.{goes_to}
use Rattle.notice_ledger.specs.Past.Pushes.{is_active, is_removal_written}
use Rattle.book_tables.specs.Receipts.{is_marked}
use Rattle.notice_ledger.specs.declared.accounts.Account.TheVariants.{Handed, Cancelled}
use Rattle.std.specs.List.{filter_map, reduce}
use Rattle.std.specs.FinMap as finite
use Rattle.std.proofs.lemmas.List.Sorted.{IsPermutation-refl}
use Rattle.chat_model.specs.declared.ids.MessageId.{MessageId}
use Rattle.chat_model.specs.declared.ids.UserId.{UserId}
use Rattle.notice_ledger.specs.Past.Journal.{Occurrence}
use Rattle.notice_ledger.specs.Past.Values.{numbered, SentMessage, settings, Person, people, named_from, groups, named_groups_from, channels}
use Rattle.notice_ledger.specs.Past.Owed.{Notice, ready, account_of}
use Rattle.notice_ledger.specs.Past.Runs.{start_count}
use Rattle.notice_ledger.specs.Past.Due.{is_batch_row, batch_rows, earlier}
use Rattle.notice_ledger.specs.Past.Audit.{in_64_bits, owed_with, removals_written, same_account}
use Rattle.notice_ledger.proofs.Appended.{notices-nil, people-nil, groups-nil, is_member-nil, channels-nil, messages-nil, is_deleted-nil, subscribed-nil, outbox-nil}
use Rattle.notice_ledger.proofs.PushItems.{waiting_items-nil}
use Rattle.notice_ledger.proofs.DealLemmas.{deals-nil, start_count-nil}
use Rattle.book_tables.specs.declared.tables.Tables.{Tables}
use Rattle.book_tables.specs.UserSets.{users_in, has_in}
use Rattle.book_tables.specs.Preferences.{default_preferred, preferred_in}
use Rattle.mail_batches.specs.Batches.{Waiting as Batches}
use Rattle.book_tables.specs.Tables.{Holds, HoldBatches, message_kept, notice_kept, cleared_kept, stays, is_live}
use Rattle.book_tables.proofs.BatchLooks.{rows-none, due-none}
use Rattle.book_tables.proofs.PreferenceLemmas.{preferred_by-nil}
use Rattle.book_tables.proofs.SetSizes.{are_user_sets}

nothing_owed : (a : Account) → 0 ≡ in_64_bits (owed_with [] a)
unfolding owed_with
nothing_owed a = ap (λ ns. in_64_bits (count_by (λ n. same_account (account_of [] n) a) ns)) (sym notices-nil)

nothing_written : 0 ≡ in_64_bits (removals_written [])
unfolding removals_written
nothing_written = ap (λ ns. in_64_bits (count_by (is_removal_written []) ns)) (sym notices-nil)

no_batches : HoldBatches (record { batches = finite.empty; spare = 0 }) []
no_batches = record {
  rows = λ u.
      let nothing : map (λ (n : Notice). n.number) (batch_rows [] u) ≡ [] = ap (λ (ns : List Notice). map (λ (n : Notice). n.number) (filter (is_batch_row [] u) ns)) notices-nil in
      subst (IsPermutation (map (λ (n : Notice). n.number) (batch_rows [] u))) (sym (rows-none u)) (subst (λ (ms : List MessageId). IsPermutation ms []) (sym nothing) (IsPermutation-refl []));
  due = λ u.
      due-none u ∙ sym (ap (λ (ns : List Notice). option_map (λ (o : Occurrence). o.at + (settings [] u).period) (reduce earlier (filter_map (ready []) (filter (is_batch_row [] u) ns)))) notices-nil);
}

no_start : 0 ≡ in_64_bits (start_count [])
no_start = ap in_64_bits (sym start_count-nil)

-- the tables of the empty journal
pub empty_stands : (t : Tables) → t.last ≡ 0 → t.starts ≡ 0 → t.names.items ≡ [] → t.bots.items ≡ [] → t.groups.items ≡ [] → t.members.items ≡ [] → t.channels.items ≡ [] → t.subscribers.items ≡ [] → t.messages.items ≡ [] → t.addressees.items ≡ [] → t.deleted.items ≡ [] → t.waiting.items ≡ [] → t.cleared.items ≡ []
    → t.batches ≡ record { batches = finite.empty; spare = 0 } → t.pushes.items ≡ [] → t.active.items ≡ [] → t.deals.items ≡ [] → t.outbox.items ≡ [] → t.preferences.items ≡ [] → t.handed ≡ 0 → t.off ≡ 0 → t.read ≡ 0 → t.gone ≡ 0 → t.written ≡ 0 → Holds t []
empty_stands t last starts names bots group_list members channel_list subscribers ms addressees marks ws cleared bs is active ds es ps handed off read gone written = record {
  last = last;
  starts = starts ∙ no_start;
  names = names ∙ ap (named_from 1) (sym people-nil);
  bots = bots ∙ ap (map (λ (p : Person). p.bot)) (sym people-nil);
  preferences = λ u. ap (λ all. preferred_in all u.0) ps ∙ (nothing_set u.0 ∙ sym (preferred_by-nil u));
  preferences_long = ap length ps ∙ ap length (sym people-nil);
  members = λ g u. ap (λ cs. has_in cs g.0 u) members ∙ (no_set g.0 u ∙ sym (is_member-nil g u));
  member_sets = are_user_sets (length (groups [])) (length (people [])) t.members.items [] (ap (map users_in) members) (ap length (sym groups-nil)) tt;
  groups = group_list ∙ ap (named_groups_from 1) (sym groups-nil);
  subscribers = λ c u. ap (λ cs. has_in cs c.0 u) subscribers ∙ (no_set c.0 u ∙ sym (subscribed-nil u c));
  subscriber_sets = are_user_sets (length (channels [])) (length (people [])) t.subscribers.items [] (ap (map users_in) subscribers) (ap length (sym channels-nil)) tt;
  channels = channel_list ∙ sym channels-nil;
  addressees = λ m u. ap (λ cs. has_in cs m.0 u) addressees ∙ (no_set m.0 u ∙ sym (ap (λ sent. option_map_or (λ s. goes_to s.past s.to u) (numbered m.0 sent) false) messages-nil ∙ no_message m.0 u));
  addressees_long = ap length addressees ∙ ap length (sym messages-nil);
  deleted = λ m. ap (λ all. is_marked all m.0) marks ∙ (no_mark m.0 ∙ sym (is_deleted-nil m));
  deleted_long = ap length marks ∙ ap length (sym messages-nil);
  messages = ms ∙ ap (map message_kept) (sym messages-nil);
  waiting = ws ∙ ap (λ ns. map (notice_kept []) (filter (stays []) ns)) (sym notices-nil);
  cleared = cleared ∙ ap (λ ns. map cleared_kept (filter (is_live []) ns)) (sym notices-nil);
  batches = subst (λ (b : Batches). HoldBatches b []) (sym bs) no_batches;
  items = is ∙ sym waiting_items-nil;
  active = active ∙ ap (λ ns. map (notice_kept []) (filter (is_active []) ns)) (sym notices-nil);
  deals = ds ∙ sym deals-nil;
  outbox = es ∙ sym outbox-nil;
  handed = handed ∙ nothing_owed Handed;
  off = off ∙ nothing_owed (Cancelled SwitchedOff);
  read = read ∙ nothing_owed (Cancelled Read);
  gone = gone ∙ nothing_owed (Cancelled Deleted);
  written = written ∙ nothing_written;
}
  where
    nothing_set : (n : ℕ) → preferred_in [] n ≡ default_preferred
    nothing_set zero = refl
    nothing_set (suc n) = refl

    no_set : (n : ℕ) (u : UserId) → has_in [] n u ≡ false
    no_set zero u = refl
    no_set (suc n) u = refl

    no_mark : (n : ℕ) → is_marked [] n ≡ false
    no_mark zero = refl
    no_mark (suc n) = refl

    no_message : (n : ℕ) (u : UserId) → option_map_or (λ (s : SentMessage). goes_to s.past s.to u) (numbered n []) false ≡ false
    no_message zero u = refl
    no_message (suc n) u = refl
