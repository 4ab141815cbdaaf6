-- Tables that stand for a journal stand for it with the next event, once its effect is made: the effect makes of each table
-- what the event makes of what the table holds.
use Rattle.std.proofs.Common.{add-zero, ◌≡◌, ℕ, ◌+◌, Bool, true, false, ◌&&◌, ◌==◌, ◌||◌, cond, not, List, [], ◌∷◌, ◌++◌, length, map, drop, refl, sym, ap, ◌∙◌, subst, arith}
use Rattle.std.specs.Prelude.{nat_le, ◌-◌, ◌^◌, min, Option, Some, None, option_map, option_to_list, is_none, nat_lt, unwrap_or, filter, if◌then◌else◌}
use Rattle.std.specs.List.{AllByRecursion, list_all}
use Rattle.std.proofs.lemmas.List.{map-append, append-nil}
use Rattle.std.proofs.lemmas.Bool.{and_parts}
use Rattle.chat_model.specs.declared.event.Stamped.{Stamped}
use Rattle.chat_model.specs.declared.event.Event.{Event}
use Rattle.chat_model.specs.declared.event.Event.TheVariants.{Restart, Asked, Absorbed, MailTurn, PushTurn}
use Rattle.chat_model.specs.declared.request.Request.TheVariants.{AddUser, AddGroup, Member, AddChannel, Subscribe, Set, SetChannel, SetPolicy, Mute, Send, Direct}
use Rattle.chat_model.specs.declared.request.Request.{Request}
use Rattle.chat_model.specs.declared.request.Refusal.{Refusal}
use Rattle.chat_model.specs.declared.request.Refusal.TheVariants.{NoUser, NoChannel, NoGroup, Exists, TopicTooLong, BadPeriod, TooMany}
use Rattle.chat_model.specs.declared.deal.Outcome.{Outcome}
use Rattle.chat_model.specs.declared.deal.Outcome.TheVariants.{Dealt, Cleared, Missed}
use Rattle.chat_model.specs.declared.deal.QueueId.{QueueId}
use Rattle.chat_model.specs.declared.deal.UserVerdict.{UserVerdict}
use Rattle.chat_model.specs.declared.ids.DealNo.{DealNo}
use Rattle.std.proofs.Math.Bool.{and-true, and-false}
use Rattle.chat_model.specs.declared.ids.UserId.{UserId}
use Rattle.chat_model.specs.declared.ids.ChannelId.{ChannelId}
use Rattle.chat_model.specs.declared.ids.GroupId.{GroupId}
use Rattle.chat_model.specs.declared.ids.MessageId.{MessageId}
use Rattle.chat_model.specs.declared.push_item.PushItem.TheVariants as item
use Rattle.chat_model.specs.declared.trigger.Way.TheVariants.{Push}
use Rattle.chat_model.specs.declared.deal.Deal.{Deal}
use Rattle.chat_model.specs.declared.entry.Entry.{Entry}
use Rattle.chat_model.specs.declared.mentions.UserName.{UserName}
use Rattle.chat_model.specs.declared.mentions.GroupName.{GroupName}
use Rattle.notice_ledger.specs.Past.Journal.{occurrence}
use Rattle.notice_ledger.specs.declared.destination.Destination.{Destination}
use Rattle.notice_ledger.specs.declared.destination.Destination.TheVariants as destination
use Rattle.notice_ledger.specs.Past.Values.{Person, person_of, setting_change, specific_change, policy_change, mute_change, people, named_from, user_names, is_one_of, group_of, groups, named_groups_from, group_names, is_group, membership_change, is_member, channel_of, channels, is_user, is_channel, SentMessage, message_of, messages, subscription_change, subscribed}
use Rattle.notice_ledger.specs.declared.accounts.Account.TheVariants.{Ready}
use Rattle.notice_ledger.specs.Past.Owed.{readies, owed_by, switch_on, account}
use Rattle.notice_ledger.specs.Past.Pushes.{waiting_items}
use Rattle.notice_ledger.specs.Past.Deals.{deal_of, deals}
use Rattle.notice_ledger.specs.Past.Runs.{is_restart, start_count}
use Rattle.notice_ledger.specs.Past.Outbox.{outbox, entries_by, mail_items, mail_entries, push_entry, push_entries}
use Rattle.notice_ledger.specs.Past.Audit.{in_64_bits}
use Rattle.notice_ledger.proofs.Audited.{handed_over, handed_over-append, handed_over-mailed, item_count, switched_off, switched_off-append, switched_off-mailed, is_turned}
use Rattle.notice_ledger.specs.Past.Refusals.{Rule, rule, first_broken, name_rules, rules_of, refusal, is_taken, is_bad_period}
use Rattle.notice_ledger.specs.Limits.{longest_topic, most_items}
use Rattle.notice_ledger.specs.Texts.{is_longer_than}
use Rattle.notice_ledger.specs.InOrder.{is_ascending, is_in_order}
use Rattle.notice_ledger.specs.Past.Lawful.{may_stand, is_lawful_after}
use Rattle.notice_ledger.specs.Past.Journal.{last_stamp}
use Rattle.notice_ledger.proofs.Appended.{people-append, groups-append, is_member-append, channels-append, messages-append, subscribed-append, outbox-append}
use Rattle.notice_ledger.proofs.PushNotices.{IsQueuedPush, queued_push, push_turn-of, push_entries-queued}
use Rattle.notice_ledger.proofs.PushesWait.{PushesWait, one-counted, waiting_items-next, waiting_items-other, turned-queued, waits-turn, unturned-removal}
use Rattle.notice_ledger.proofs.DealLemmas.{deals-append, start_count-append}
use Rattle.book_tables.specs.declared.pushes.PushKey.{PushKey}
use Rattle.book_tables.specs.declared.tables.Message.{Message}
use Rattle.book_tables.specs.declared.tables.Tables.{Tables}
use Rattle.book_tables.specs.declared.prepared.Effect.{Effect}
use Rattle.book_tables.specs.declared.prepared.Effect.TheVariants as effect
use Rattle.book_tables.specs.UserSets.{users_in, IsSet}
use Rattle.book_tables.specs.declared.preferences.Preference.{Preference}
use Rattle.book_tables.specs.declared.preferences.Preference.TheVariants as preference
use Rattle.book_tables.specs.Preferences.{Preferred, default_preferred, preferred_by, preferred_after}
use Rattle.book_tables.specs.Tables.{Holds, message_kept, in_flight, request_to, switched_at, push_turn}
use Rattle.book_tables.specs.Notices.{is_ready_mail_to, of_deal, is_named, readied_if, dealt_to}
use Rattle.book_tables.specs.Pushes.{has_push}
use Rattle.book_tables.specs.Prepared.{IsEffectOf, IsGroup, IsMessage, IsMailed, IsStart, IsDealt, IsMissed, IsPushed, IsSendOf, items_made}
use Rattle.book_tables.specs.Applied.{starts_after, names_after, bots_after, preferences_after, groups_after, members_after, channels_after, subscribers_after, messages_after, is_cleared, active_after, deals_after, handed_after, off_after, IsApplied}
use Rattle.book_tables.proofs.Numbered.{changed-long}
use Rattle.book_tables.proofs.BatchesAfter.{BatchesAgree, batches_left, batches_readied, batches_changed, batches_settled}
use Rattle.book_tables.proofs.Moves.{kept-append, no_start, no_outcome, steps_left, steps_start, steps_mails, steps_push, steps_cleared, steps_missed, steps_dealt}
use Rattle.std.proofs.lemmas.Bool.Decides.{nat_tests}
use Rattle.std.proofs.lemmas.List.Sums.{length-filter}
use Rattle.std.proofs.lemmas.List.{length-map}
use Rattle.std.specs.List.{list_any}
use Rattle.std.specs.Option.{option_map_or, option_or}
use Rattle.std.specs.Prelude.{is_some, slice_get, sum_by}
use Rattle.std.proofs.Common.{suc}
use Rattle.chat_model.specs.Outcomes.{is_dealt}
use Rattle.chat_model.specs.declared.request.Request.TheVariants.{Delete, Read}
use Rattle.chat_model.specs.declared.request.Refusal.TheVariants.{NoMessage, NotSender}
use Rattle.chat_model.specs.declared.row.Cause.{Cause}
use Rattle.chat_model.specs.declared.row.Cause.TheVariants as causes
use Rattle.notice_ledger.specs.declared.accounts.Account.{Account}
use Rattle.notice_ledger.specs.declared.accounts.Account.TheVariants as accounts
use Rattle.notice_ledger.specs.Past.Audit.{same_cause, same_account, removals_written}
use Rattle.notice_ledger.specs.Past.Journal.{absorbs}
use Rattle.notice_ledger.specs.Past.Owed.{Notice, notices, is_of, is_pending, account_of, bar, cause_of_bar, bar_cause, clears, same_way, waiting}
use Rattle.notice_ledger.specs.Past.Pushes.{is_push_turn, is_active}
use Rattle.notice_ledger.specs.Past.Refusals.{is_sender}
use Rattle.notice_ledger.specs.Past.Triggers.{goes_to}
use Rattle.notice_ledger.specs.Past.Values.{message, message as message_sent, numbered, is_message, is_deleted, reads, deletes}
use Rattle.notice_ledger.proofs.ActiveAfter.{no_removal}
use Rattle.notice_ledger.proofs.Appended.{message-append, is_deleted-append}
use Rattle.notice_ledger.proofs.Batches.{is_ready}
use Rattle.notice_ledger.proofs.Counted.{is_cancelled_now, owed_with-cancelled}
use Rattle.notice_ledger.proofs.Lists.{filter_none, filter_same, filter-filter, AllByRecursion-filter}
use Rattle.notice_ledger.proofs.PushItems.{items_by-last}
use Rattle.notice_ledger.proofs.Queued.{kept, is_kept, ready-is}
use Rattle.notice_ledger.proofs.RemovalCounts.{is_removed_by, removals_written-append, removed-active}
use Rattle.notice_ledger.proofs.Standing.{is_turn, barring, unbarred-cause}
use Rattle.book_tables.specs.Applied.{addressees_after, deleted_after, deleted_with, counted_for}
use Rattle.book_tables.specs.Bars.{is_one_of_pairs, is_pushed_pair, is_removed, barred_where, revoked_where}
use Rattle.book_tables.specs.Prepared.{is_cancelled_at, IsRemoved, IsBarred}
use Rattle.book_tables.specs.Receipts.{is_marked}
use Rattle.book_tables.specs.Tables.{notice_kept, switched_at_push, removal_turn}
use Rattle.book_tables.proofs.ActiveJoined.{active-joined}
use Rattle.book_tables.proofs.ActivesAfter.{all_active, active-taken, active-revoked}
use Rattle.book_tables.proofs.Agreeing.{one_sent, same_cause_swap, both_counted, same_messages, cancelled_for, none_cancelled, none_written, unbarring}
use Rattle.book_tables.proofs.ClearedAfter.{filter-mapped, cleared-left, cleared-barred, cleared-cleared}
use Rattle.book_tables.proofs.Kept.{all_kept}
use Rattle.book_tables.proofs.Moves.{IsNoTurn, never_turn, no_request, bars_none, steps_barred, swapped}
use Rattle.book_tables.proofs.Numbered.{mark-changed, mark-added}
use Rattle.book_tables.proofs.ReadyPushes.{push_way}
use Rattle.book_tables.proofs.UserSets.{is_in-added}
use Rattle.book_tables.proofs.PreferenceLemmas.{at_number-added, at_number-changed, preferred_by-left, IsPreferredAfter, after-setting, after-specific, after-policy, after-mute}
use Rattle.book_tables.proofs.UserSets.{is_in, is_in-added}
use Rattle.book_tables.proofs.SetSizes.{are_grown, are_added, numbered-within, user_within, ascending_set}
use Rattle.book_tables.proofs.Agreeing.{named_from-append, and-swap, numbered-there, is_in-opened, named_groups_from-append, next_number, one_longer, sets_changed, KeepsSets, NoticesAgree, PushesAgree, Agrees, agreed, or-false, added, IsCalm, starts_left, same_people, same_groups, same_channels, users_left, still_sets, groups_left, channels_left, messages_left, none_handed, none_off, all_moved, notices_moved, notices_left, same_period, batches_calm, none_added, pushes_left, pushes_readied, pushes_calm, calm_asked}

module _ (j : List Stamped) (waits : PushesWait j) where
  agrees_start : (at : ℕ) (e : Effect) → IsStart e (items_made j (record { at = at; event = Restart })) → Agrees j (record { at = at; event = Restart }) e
  agrees_start at (effect.Start pushes) fits =
      let s : Stamped = record { at = at; event = Restart } in let e = effect.Start pushes in
      record {
        starts = ap in_64_bits (start_count-append j s) ∙ sym (added (start_count j) 1);
        of_users = users_left j s e refl (λ u. refl) (λ u c. refl) (λ u c topic. refl) (λ u v. refl) (λ ns. refl) (λ bs. refl) (λ ps. refl);
        of_groups = groups_left j s e refl (λ g u. refl) (still_sets j s e refl) (λ gs. refl) (λ sets. refl);
        of_channels = channels_left j s e refl (λ u c. refl) (still_sets j s e refl) (λ cs. refl) (λ sets. refl);
        of_messages = messages_left j s e refl (λ ms. refl) (λ ds. refl) (λ sets. refl) (λ m. refl) (λ marks. refl);
        of_notices = notices_moved j s e refl no_start (λ u k. refl) (λ n. refl) refl refl (λ ws. sym (steps_start at ws)) (λ es. refl) (λ n. refl) (λ n. refl) (λ ws vs. refl) (λ n. refl) (λ n. refl);
        of_batches = batches_readied j s e (λ u. refl) (same_period j s e (λ u. refl)) (λ p q ws old new made. made);
        of_pushes = pushes_readied j s e waits refl refl (λ n. refl) pushes.items fits (λ is. refl) (λ ws vs. refl) (λ vs n. refl);
      }
  agrees_start at e fits = absurd fits

  agrees_user : (at : ℕ) (name : List ℕ) (bot : Bool) → may_stand j at (Asked (AddUser name bot)) ≡ true → Agrees j (record { at = at; event = Asked (AddUser name bot) }) (effect.User (record { id = record { 0 = length (people j) + 1 }; name = name }) bot)
  agrees_user at name bot may =
      let s : Stamped = record { at = at; event = Asked (AddUser name bot) } in
      let e = effect.User (record { id = record { 0 = length (people j) + 1 }; name = name }) bot in
      let person : Person = record { name = name; bot = bot } in
      let more : people (j ++ s ∷ []) ≡ people j ++ person ∷ [] = people-append j s in
      let many : length (people (j ++ s ∷ [])) ≡ length (people j) + 1 = ap length more ∙ one_longer (people j) person in
      let grown : KeepsSets j s = λ sets all. subst (λ (n : ℕ). AllByRecursion (IsSet n) sets) (sym many) (are_grown (length (people j)) sets all) in
      record {
        starts = starts_left j s e refl (λ n. refl);
        of_users = record {
          named = ap (named_from 1) more ∙ (named_from-append 1 (people j) (person ∷ []) ∙ ap (λ n. user_names j ++ record { id = record { 0 = n }; name = name } ∷ []) (next_number (length (people j))));
          automatic = ap (map (λ (p : Person). p.bot)) more ∙ map-append (λ (p : Person). p.bot) (people j) (person ∷ []);
          prefer = λ all long is u. at_number-added all u.0 ∙ (is u ∙ sym (preferred_by-left j s u refl (λ c. refl) (λ c topic. refl) (λ v. refl)));
          count = λ all long. one_longer all default_preferred ∙ (ap (λ n. n + 1) long ∙ sym many);
        };
        of_groups = groups_left j s e refl (λ g u. refl) grown (λ gs. refl) (λ sets. refl);
        of_channels = channels_left j s e refl (λ u c. refl) grown (λ cs. refl) (λ sets. refl);
        of_messages = messages_left j s e refl (λ ms. refl) (λ ds. refl) (λ sets. refl) (λ m. refl) (λ marks. refl);
        of_notices = notices_left j s e (calm_asked at (AddUser name bot) (λ u m. refl) (λ m. refl)) refl refl (λ ws. refl) (λ es. refl) (λ n. refl) (λ n. refl) (λ ws vs. refl) (λ n. refl) (λ n. refl);
        of_batches = batches_calm j s e (calm_asked at (AddUser name bot) (λ u m. refl) (λ m. refl)) (λ u. refl) (λ p q ws old new made. made);
        of_pushes = pushes_calm j s e waits may (calm_asked at (AddUser name bot) (λ u m. refl) (λ m. refl)) (λ is. refl) (λ ws vs. refl) (λ vs n. refl);
      }

  agrees_group : (at : ℕ) (name : List ℕ) (members : List UserId) (e : Effect) → list_all (is_user j) members ≡ true → is_ascending members ≡ true
      → IsGroup e (record { id = record { 0 = length (groups j) + 1 }; name = name }) members → may_stand j at (Asked (AddGroup name members)) ≡ true → Agrees j (record { at = at; event = Asked (AddGroup name members) }) e
  agrees_group at name members (effect.Group group set) there ascending fits may =
      let s : Stamped = record { at = at; event = Asked (AddGroup name members) } in
      let e = effect.Group group set in let n = length (people j) in
      let more : groups (j ++ s ∷ []) ≡ groups j ++ name ∷ [] = groups-append j s in
      record {
        starts = starts_left j s e refl (λ n. refl);
        of_users = users_left j s e refl (λ u. refl) (λ u c. refl) (λ u c topic. refl) (λ u v. refl) (λ ns. refl) (λ bs. refl) (λ ps. refl);
        of_groups = record {
          named = ap (named_groups_from 1) more ∙ (named_groups_from-append 1 (groups j) (name ∷ [])
              ∙ (ap (λ n. group_names j ++ record { id = record { 0 = n }; name = name } ∷ []) (next_number (length (groups j))) ∙ ap (λ g. group_names j ++ g ∷ []) (sym fits.0)));
          sets = record {
            found = λ sets long is g u.
                ap (λ us. is_in (sets ++ us ∷ []) g.0 u) fits.1 ∙ (is_in-added sets members g.0 u
                ∙ (ap (λ n. cond (n + 1 == g.0) (is_one_of members u) (is_in sets g.0 u)) long
                ∙ (ap (λ b. cond (length (groups j) + 1 == g.0) (is_one_of members u) b) (is g u)
                ∙ (sym (chosen (length (groups j) + 1 == g.0) (is_one_of members u) (is_member j g u)) ∙ sym (is_member-append j s g u)))));
            count = λ sets long. one_longer sets (users_in set) ∙ (ap (λ n. n + 1) long ∙ (sym (one_longer (groups j) name) ∙ ap length (sym more)));
            are = λ sets all. still_sets j s e refl (sets ++ users_in set ∷ []) (are_added n sets (users_in set) all (subst (IsSet n) (sym fits.1) (ascending_set j members there ascending)));
          };
        };
        of_channels = channels_left j s e refl (λ u c. refl) (still_sets j s e refl) (λ cs. refl) (λ sets. refl);
        of_messages = messages_left j s e refl (λ ms. refl) (λ ds. refl) (λ sets. refl) (λ m. refl) (λ marks. refl);
        of_notices = notices_left j s e (calm_asked at (AddGroup name members) (λ u m. refl) (λ m. refl)) refl refl (λ ws. refl) (λ es. refl) (λ n. refl) (λ n. refl) (λ ws vs. refl) (λ n. refl) (λ n. refl);
        of_batches = batches_calm j s e (calm_asked at (AddGroup name members) (λ u m. refl) (λ m. refl)) (λ u. refl) (λ p q ws old new made. made);
        of_pushes = pushes_calm j s e waits may (calm_asked at (AddGroup name members) (λ u m. refl) (λ m. refl)) (λ is. refl) (λ ws vs. refl) (λ vs n. refl);
      }
    where
      chosen : (b x y : Bool) → unwrap_or (if b then Some x else None) y ≡ cond b x y
      chosen true x y = refl
      chosen false x y = refl
  agrees_group at name members e there ascending fits may = absurd fits

  agrees_member : (at : ℕ) (h : GroupId) (v : UserId) (on : Bool) → is_user j v ≡ true → is_group j h ≡ true → may_stand j at (Asked (Member h v on)) ≡ true → Agrees j (record { at = at; event = Asked (Member h v on) }) (effect.Membership h v on)
  agrees_member at h v on user_there group_there may =
      let s : Stamped = record { at = at; event = Asked (Member h v on) } in let e = effect.Membership h v on in
      let changed = sets_changed (λ (g : GroupId). g.0) (λ g u. is_member j g u) (λ g u. is_member (j ++ s ∷ []) g u) (length (groups j)) (length (groups (j ++ s ∷ []))) (length (people j)) (length (people (j ++ s ∷ []))) h.0 v on (numbered-within h.0 (groups j) group_there) (user_within j v user_there)
      (λ g u. is_member-append j s g u ∙ ap (λ c. unwrap_or (if c then Some on else None) (is_member j g u)) (and-swap (h.0 == g.0) (v.0 == u.0))) (ap length (same_groups j s e refl)) (still_sets j s e refl) in
      record {
        starts = starts_left j s e refl (λ n. refl);
        of_users = users_left j s e refl (λ u. refl) (λ u c. refl) (λ u c topic. refl) (λ u v. refl) (λ ns. refl) (λ bs. refl) (λ ps. refl);
        of_groups = record { named = ap (named_groups_from 1) (same_groups j s e refl); sets = changed };
        of_channels = channels_left j s e refl (λ u c. refl) (still_sets j s e refl) (λ cs. refl) (λ sets. refl);
        of_messages = messages_left j s e refl (λ ms. refl) (λ ds. refl) (λ sets. refl) (λ m. refl) (λ marks. refl);
        of_notices = notices_left j s e (calm_asked at (Member h v on) (λ u m. refl) (λ m. refl)) refl refl (λ ws. refl) (λ es. refl) (λ n. refl) (λ n. refl) (λ ws vs. refl) (λ n. refl) (λ n. refl);
        of_batches = batches_calm j s e (calm_asked at (Member h v on) (λ u m. refl) (λ m. refl)) (λ u. refl) (λ p q ws old new made. made);
        of_pushes = pushes_calm j s e waits may (calm_asked at (Member h v on) (λ u m. refl) (λ m. refl)) (λ is. refl) (λ ws vs. refl) (λ vs n. refl);
      }

  agrees_channel : (at : ℕ) (name : List ℕ) → may_stand j at (Asked (AddChannel name)) ≡ true → Agrees j (record { at = at; event = Asked (AddChannel name) }) (effect.Channel name)
  agrees_channel at name may =
      let s : Stamped = record { at = at; event = Asked (AddChannel name) } in let e = effect.Channel name in let n = length (people j) in
      let more : channels (j ++ s ∷ []) ≡ channels j ++ name ∷ [] = channels-append j s in
      record {
        starts = starts_left j s e refl (λ n. refl);
        of_users = users_left j s e refl (λ u. refl) (λ u c. refl) (λ u c topic. refl) (λ u v. refl) (λ ns. refl) (λ bs. refl) (λ ps. refl);
        of_groups = groups_left j s e refl (λ g u. refl) (still_sets j s e refl) (λ gs. refl) (λ sets. refl);
        of_channels = record {
          named = more;
          sets = record {
            found = λ sets long is c u. is_in-opened sets c.0 u ∙ (is c u ∙ sym (subscribed-append j s u c));
            count = λ sets long. one_longer sets [] ∙ (ap (λ n. n + 1) long ∙ (sym (one_longer (channels j) name) ∙ ap length (sym more)));
            are = λ sets all. still_sets j s e refl (sets ++ [] ∷ []) (are_added n sets [] all (refl, tt));
          };
        };
        of_messages = messages_left j s e refl (λ ms. refl) (λ ds. refl) (λ sets. refl) (λ m. refl) (λ marks. refl);
        of_notices = notices_left j s e (calm_asked at (AddChannel name) (λ u m. refl) (λ m. refl)) refl refl (λ ws. refl) (λ es. refl) (λ n. refl) (λ n. refl) (λ ws vs. refl) (λ n. refl) (λ n. refl);
        of_batches = batches_calm j s e (calm_asked at (AddChannel name) (λ u m. refl) (λ m. refl)) (λ u. refl) (λ p q ws old new made. made);
        of_pushes = pushes_calm j s e waits may (calm_asked at (AddChannel name) (λ u m. refl) (λ m. refl)) (λ is. refl) (λ ws vs. refl) (λ vs n. refl);
      }

  agrees_subscription : (at : ℕ) (v : UserId) (h : ChannelId) (on : Bool) → is_user j v ≡ true → is_channel j h ≡ true → may_stand j at (Asked (Subscribe v h on)) ≡ true → Agrees j (record { at = at; event = Asked (Subscribe v h on) }) (effect.Subscription h v on)
  agrees_subscription at v h on user_there channel_there may =
      let s : Stamped = record { at = at; event = Asked (Subscribe v h on) } in let e = effect.Subscription h v on in
      let changed = sets_changed (λ (c : ChannelId). c.0) (λ c u. subscribed j u c) (λ c u. subscribed (j ++ s ∷ []) u c) (length (channels j)) (length (channels (j ++ s ∷ []))) (length (people j)) (length (people (j ++ s ∷ []))) h.0 v on (numbered-within h.0 (channels j) channel_there) (user_within j v user_there)
      (λ c u. subscribed-append j s u c) (ap length (same_channels j s e refl)) (still_sets j s e refl) in
      record {
        starts = starts_left j s e refl (λ n. refl);
        of_users = users_left j s e refl (λ u. refl) (λ u c. refl) (λ u c topic. refl) (λ u v. refl) (λ ns. refl) (λ bs. refl) (λ ps. refl);
        of_groups = groups_left j s e refl (λ g u. refl) (still_sets j s e refl) (λ gs. refl) (λ sets. refl);
        of_channels = record { named = same_channels j s e refl; sets = changed };
        of_messages = messages_left j s e refl (λ ms. refl) (λ ds. refl) (λ sets. refl) (λ m. refl) (λ marks. refl);
        of_notices = notices_left j s e (calm_asked at (Subscribe v h on) (λ u m. refl) (λ m. refl)) refl refl (λ ws. refl) (λ es. refl) (λ n. refl) (λ n. refl) (λ ws vs. refl) (λ n. refl) (λ n. refl);
        of_batches = batches_calm j s e (calm_asked at (Subscribe v h on) (λ u m. refl) (λ m. refl)) (λ u. refl) (λ p q ws old new made. made);
        of_pushes = pushes_calm j s e waits may (calm_asked at (Subscribe v h on) (λ u m. refl) (λ m. refl)) (λ is. refl) (λ ws vs. refl) (λ vs n. refl);
      }

  -- an event that sends a message
  more_sent : (s : Stamped) (m : SentMessage) → message_of (occurrence j s) ≡ Some m → length (messages (j ++ s ∷ [])) ≡ length (messages j) + 1
  more_sent s m sends = ap length (messages-append j s ∙ ap (λ o. messages j ++ option_to_list o) sends) ∙ one_longer (messages j) m

  agrees_sent : (s : Stamped) (m : SentMessage) → m.past ≡ j → message_of (occurrence j s) ≡ Some m
      → is_restart s.event ≡ false → person_of s.event ≡ None → group_of s.event ≡ None → channel_of s.event ≡ None → ((g : GroupId) (u : UserId) → membership_change g u j s.event ≡ None) → ((u : UserId) (c : ChannelId) → subscription_change u c s.event ≡ None)
      → ((u : UserId) → setting_change u s.event ≡ None) → ((u : UserId) (c : ChannelId) → specific_change u c s.event ≡ None) → ((u : UserId) (c : ChannelId) (topic : List ℕ) → policy_change u c topic s.event ≡ None) → ((u v : UserId) → mute_change u v s.event ≡ None)
      → IsCalm s → entries_by j s.at s.event ≡ []
      → may_stand j s.at s.event ≡ true → (e : Effect) → IsMessage j e (message_kept m) (map in_flight (owed_by (occurrence j s))) (deal_of (occurrence j s)) → Agrees j s e
  agrees_sent s m behind sends no_restart nobody no_group no_channel no_member no_subscription no_setting no_specific no_policy no_mute calm no_entry may (effect.Message message addressees owed deal) fits =
      let e = effect.Message message addressees owed deal in
      record {
        starts = starts_left j s e no_restart (λ n. refl);
        of_users = users_left j s e nobody no_setting no_specific no_policy no_mute (λ ns. refl) (λ bs. refl) (λ ps. refl);
        of_groups = groups_left j s e no_group no_member (still_sets j s e nobody) (λ gs. refl) (λ sets. refl);
        of_channels = channels_left j s e no_channel no_subscription (still_sets j s e nobody) (λ cs. refl) (λ sets. refl);
        of_messages = record {
          sent = ap (map message_kept) (messages-append j s ∙ ap (λ o. messages j ++ option_to_list o) sends) ∙ (map-append message_kept (messages j) (m ∷ []) ∙ ap (λ k. map message_kept (messages j) ++ k ∷ []) (sym fits.0));
          addressed = λ sets long is k u.
              is_in-added sets (users_in addressees) k.0 u
              ∙ ((λ i. cond (long i + 1 == k.0) ((fits.1 u ∙ ap (λ p. goes_to p m.to u) (sym behind)) i) (is k u i))
              ∙ (sym (one_sent (λ sent. goes_to sent.past sent.to u) (messages j) m k.0)
              ∙ sym (ap (λ (o : Option SentMessage). option_map_or (λ sent. goes_to sent.past sent.to u) o false) (message-append j s k ∙ ap (λ o. option_or (message_sent j k) (cond (k.0 == length (messages j) + 1) o None)) sends))));
          addressed_long = λ sets long. one_longer sets (users_in addressees) ∙ (ap (λ n. n + 1) long ∙ sym (more_sent s m sends));
          marked = λ marks long is k. mark-added marks k.0 ∙ (is k ∙ sym (is_deleted-append j s k ∙ (ap (λ b. is_deleted j k || b) (calm.no_deletion k) ∙ or-false (is_deleted j k))));
          marked_long = λ marks long. one_longer marks false ∙ (ap (λ n. n + 1) long ∙ sym (more_sent s m sends));
          dealt = deals-append j s ∙ (ap (λ o. deals j ++ option_to_list (option_map (λ n. deal_of (occurrence j s)) o)) sends ∙ ap (λ d. deals j ++ d ∷ []) (sym fits.3));
        };
        of_notices = record {
          wait = kept-append j s ∙ (ap (λ ws. ws ++ map in_flight (owed_by (occurrence j s))) (steps_left s calm.never (bars_none s calm.no_read calm.no_deletion) calm.not_ready calm.not_cleared calm.not_dealt (all_kept j)) ∙ ap (λ ws. all_kept j ++ ws) (sym fits.2));
          cleared = cleared-left j s calm.not_cleared (unbarring s calm.no_read calm.no_deletion);
          entries = outbox-append j s ∙ (ap (λ es. outbox j ++ es) no_entry ∙ append-nil (outbox j));
          handed = ap in_64_bits (none_handed j s e calm.other no_entry);
          off = ap in_64_bits (none_off j s e calm.other calm.never no_entry);
          read = ap in_64_bits (none_cancelled j s e (unbarring s calm.no_read calm.no_deletion) causes.Read refl);
          gone = ap in_64_bits (none_cancelled j s e (unbarring s calm.no_read calm.no_deletion) causes.Deleted refl);
        };
        of_batches = batches_calm j s e calm no_setting (λ p q ws old new made. made);
        of_pushes = pushes_calm j s e waits may calm (λ is. refl) (λ ws vs. refl) (λ vs n. refl);
      }
  agrees_sent s m behind sends no_restart nobody no_group no_channel no_member no_subscription no_setting no_specific no_policy no_mute calm no_entry may e fits = absurd fits

  agrees_send : (at : ℕ) (sender : UserId) (to : Destination) (text : List ℕ) (e : Effect) → IsSendOf j at sender to text e → may_stand j at (Asked (request_to sender to text)) ≡ true → Agrees j (record { at = at; event = Asked (request_to sender to text) }) e
  agrees_send at sender (destination.Channel channel topic) text e fits may =
      agrees_sent (record { at = at; event = Asked (Send sender channel topic text) }) (record { past = j; sender = sender; to = destination.Channel channel topic; text = text }) refl refl
      refl refl refl refl (λ g u. refl) (λ u c. refl) (λ u. refl) (λ u c. refl) (λ u c topic. refl) (λ u v. refl) (calm_asked at (Send sender channel topic text) (λ u m. refl) (λ m. refl)) refl may e fits
  agrees_send at sender (destination.Direct to) text e fits may =
      agrees_sent (record { at = at; event = Asked (Direct sender to text) }) (record { past = j; sender = sender; to = destination.Direct to; text = text }) refl refl
      refl refl refl refl (λ g u. refl) (λ u c. refl) (λ u. refl) (λ u c. refl) (λ u c topic. refl) (λ u v. refl) (calm_asked at (Direct sender to text) (λ u m. refl) (λ m. refl)) refl may e fits

  -- an event by which a user sets something
  agrees_preference : (s : Stamped) (v : UserId) (change : Preference) → is_user j v ≡ true → IsPreferredAfter j s v change
      → is_restart s.event ≡ false → person_of s.event ≡ None → group_of s.event ≡ None → channel_of s.event ≡ None → ((g : GroupId) (u : UserId) → membership_change g u j s.event ≡ None) → ((u : UserId) (c : ChannelId) → subscription_change u c s.event ≡ None)
      → IsCalm s → entries_by j s.at s.event ≡ [] → message_of (occurrence j s) ≡ None → owed_by (occurrence j s) ≡ [] → may_stand j s.at s.event ≡ true → Agrees j s (effect.Preference v change)
  agrees_preference s v change there after no_restart nobody no_group no_channel no_member no_subscription calm no_entry no_message owes_none may =
      let e = effect.Preference v change in let user = user_within j v there in
      record {
        starts = starts_left j s e no_restart (λ n. refl);
        of_users = record {
          named = ap (named_from 1) (same_people j s e nobody);
          automatic = ap (map (λ (p : Person). p.bot)) (same_people j s e nobody);
          prefer = λ all long is u.
              at_number-changed all v.0 u.0 (preferred_after change) (numbered-there v.0 all user.0 (omega (arith, user.1, long)))
              ∙ (ap (λ p. cond (v.0 == u.0) (preferred_after change p) p) (is u) ∙ sym (after u));
          count = λ all long. changed-long v.0 (preferred_after change) all ∙ (long ∙ ap length (sym (same_people j s e nobody)));
        };
        of_groups = groups_left j s e no_group no_member (still_sets j s e nobody) (λ gs. refl) (λ sets. refl);
        of_channels = channels_left j s e no_channel no_subscription (still_sets j s e nobody) (λ cs. refl) (λ sets. refl);
        of_messages = messages_left j s e no_message (λ ms. refl) (λ ds. refl) (λ sets. refl) calm.no_deletion (λ marks. refl);
        of_notices = notices_left j s e calm owes_none no_entry (λ ws. refl) (λ es. refl) (λ n. refl) (λ n. refl) (λ ws vs. refl) (λ n. refl) (λ n. refl);
        of_batches = batches_changed j s v change calm.never.mail calm.not_ready (λ u other. ap (λ (p : Preferred). p.settings.period) (after u ∙ ap (λ b. cond b (preferred_after change (preferred_by j u)) (preferred_by j u)) other));
        of_pushes = pushes_calm j s e waits may calm (λ is. refl) (λ ws vs. refl) (λ vs n. refl);
      }

  -- a mail turn switches all that it would hand over off, or none
  more_off : (at : ℕ) (user : UserId) → switched_off (j ++ record { at = at; event = MailTurn user } ∷ []) ≡ switched_off j + switched_at j user
  more_off at user = switched_off-mailed j at user

  agrees_mails : (at : ℕ) (user : UserId) (e : Effect) → IsMailed e user (mail_entries j at user) (length (mail_items j user)) (switched_at j user) → may_stand j at (MailTurn user) ≡ true → Agrees j (record { at = at; event = MailTurn user }) e
  agrees_mails at user (effect.Mailed mailed entries handed off) fits may =
      let s : Stamped = record { at = at; event = MailTurn user } in let e = effect.Mailed mailed entries handed off in
      record {
        starts = starts_left j s e refl (λ n. refl);
        of_users = users_left j s e refl (λ u. refl) (λ u c. refl) (λ u c topic. refl) (λ u v. refl) (λ ns. refl) (λ bs. refl) (λ ps. refl);
        of_groups = groups_left j s e refl (λ g u. refl) (still_sets j s e refl) (λ gs. refl) (λ sets. refl);
        of_channels = channels_left j s e refl (λ u c. refl) (still_sets j s e refl) (λ cs. refl) (λ sets. refl);
        of_messages = messages_left j s e refl (λ ms. refl) (λ ds. refl) (λ sets. refl) (λ m. refl) (λ marks. refl);
        of_notices = record {
          wait = all_moved j s e refl ∙ (steps_mails at user (all_kept j) ∙ ap (λ (u : UserId). filter (λ w. not (is_ready_mail_to u w)) (all_kept j)) (sym fits.0));
          entries = outbox-append j s ∙ ap (λ es. outbox j ++ es) (sym fits.1);
          handed = ap in_64_bits (handed_over-mailed j at user) ∙ (sym (added (handed_over j) (length (mail_items j user))) ∙ ap (λ n. min (in_64_bits (handed_over j) + n) (2 ^ 64 - 1)) (sym fits.2));
          off = ap in_64_bits (more_off at user) ∙ (sym (added (switched_off j) (switched_at j user)) ∙ ap (λ n. min (in_64_bits (switched_off j) + n) (2 ^ 64 - 1)) (sym fits.3));
          cleared = cleared-left j s (λ u k. refl) (λ n. refl);
          read = ap in_64_bits (none_cancelled j s e (λ n. refl) causes.Read refl);
          gone = ap in_64_bits (none_cancelled j s e (λ n. refl) causes.Deleted refl);
        };
        of_batches = subst (λ (v : UserId). BatchesAgree j (record { at = at; event = MailTurn v }) e) fits.0 (batches_settled j at mailed e (λ p q ws old new made. made) (same_period j (record { at = at; event = MailTurn mailed }) e (λ u. refl)));
        of_pushes = pushes_left j s e waits may refl (λ u k online. refl) (λ n. refl) (λ is. refl) (λ ws vs. refl) (λ vs n. refl);
      }
  agrees_mails at user e fits may = absurd fits

  -- an absorbed outcome, with what it makes of the notices
  agrees_absorbed : (at : ℕ) (o : Outcome) (e : Effect) → ((n : ℕ) → starts_after e n ≡ n) → ((ns : List UserName) → names_after e ns ≡ ns) → ((bs : List Bool) → bots_after e bs ≡ bs) → ((ps : List Preferred) → preferences_after e ps ≡ ps)
      → ((gs : List GroupName) → groups_after e gs ≡ gs) → ((sets : List (List UserId)) → members_after e sets ≡ sets) → ((cs : List (List ℕ)) → channels_after e cs ≡ cs) → ((sets : List (List UserId)) → subscribers_after e sets ≡ sets)
      → ((ms : List Message) → messages_after e ms ≡ ms) → ((ds : List Deal) → deals_after e ds ≡ ds) → ((sets : List (List UserId)) → addressees_after e sets ≡ sets) → ((marks : List Bool) → deleted_after e marks ≡ marks) → NoticesAgree j (record { at = at; event = Absorbed o }) e → BatchesAgree j (record { at = at; event = Absorbed o }) e → PushesAgree j (record { at = at; event = Absorbed o }) e → Agrees j (record { at = at; event = Absorbed o }) e
  agrees_absorbed at o e starts names bots preferences group_list members channel_list subscribers ms ds addressees marks notices batches pushes =
      let s : Stamped = record { at = at; event = Absorbed o } in
      record {
        starts = starts_left j s e refl starts;
        of_users = users_left j s e refl (λ u. refl) (λ u c. refl) (λ u c topic. refl) (λ u v. refl) names bots preferences;
        of_groups = groups_left j s e refl (λ g u. refl) (still_sets j s e refl) group_list members;
        of_channels = channels_left j s e refl (λ u c. refl) (still_sets j s e refl) channel_list subscribers;
        of_messages = messages_left j s e refl ms ds addressees (λ m. refl) marks;
        of_notices = notices;
        of_batches = batches;
        of_pushes = pushes;
      }

  agrees_dealt : (at : ℕ) (k : DealNo) (verdicts : List UserVerdict) (e : Effect) → IsDealt e k verdicts (items_made j (record { at = at; event = Absorbed (Dealt k verdicts) })) → Agrees j (record { at = at; event = Absorbed (Dealt k verdicts) }) e
  agrees_dealt at k verdicts (effect.Dealt d idle live pushes) fits =
      let s : Stamped = record { at = at; event = Absorbed (Dealt k verdicts) } in let e = effect.Dealt d idle live pushes in
      agrees_absorbed at (Dealt k verdicts) e (λ n. refl) (λ ns. refl) (λ bs. refl) (λ ps. refl) (λ gs. refl) (λ sets. refl) (λ cs. refl) (λ sets. refl) (λ ms. refl) (λ ds. refl) (λ sets. refl) (λ marks. refl)
      (notices_moved j s e refl (no_outcome (Dealt k verdicts)) (λ u k. refl) (λ n. refl) refl refl
      (λ ws. ap (λ (q : DealNo). map (λ w. if of_deal q w then dealt_to (users_in idle) (users_in live) w else w) ws) fits.0 ∙ sym (steps_dealt at k verdicts (users_in idle) (users_in live) fits.1 fits.2 ws))
      (λ es. refl) (λ n. refl) (λ n. refl) (λ ws vs. refl) (λ n. refl) (λ n. refl))
      (batches_readied j s e (λ u. refl) (same_period j s e (λ u. refl)) (λ p q ws old new made. made))
      (pushes_readied j s e waits refl refl (λ n. refl) pushes.items fits.3 (λ is. refl) (λ ws vs. refl) (λ vs n. refl))
  agrees_dealt at k verdicts e fits = absurd fits

  agrees_missed : (at : ℕ) (u : UserId) (ks : List DealNo) (e : Effect) → IsMissed e u ks (items_made j (record { at = at; event = Absorbed (Missed u ks) })) → Agrees j (record { at = at; event = Absorbed (Missed u ks) }) e
  agrees_missed at u ks (effect.Missed v ds pushes) fits =
      let s : Stamped = record { at = at; event = Absorbed (Missed u ks) } in let e = effect.Missed v ds pushes in
      agrees_absorbed at (Missed u ks) e (λ n. refl) (λ ns. refl) (λ bs. refl) (λ ps. refl) (λ gs. refl) (λ sets. refl) (λ cs. refl) (λ sets. refl) (λ ms. refl) (λ ds. refl) (λ sets. refl) (λ marks. refl)
      (notices_moved j s e refl (no_outcome (Missed u ks)) (λ u k. refl) (λ n. refl) refl refl
      (λ ws. (λ i. map (λ w. readied_if (is_named (fits.0 i) (fits.1 i) w) w) ws) ∙ sym (steps_missed at u ks ws)) (λ es. refl) (λ n. refl) (λ n. refl) (λ ws vs. refl) (λ n. refl) (λ n. refl))
      (batches_readied j s e (λ u. refl) (same_period j s e (λ u. refl)) (λ p q ws old new made. made))
      (pushes_readied j s e waits refl refl (λ n. refl) pushes.items fits.2 (λ is. refl) (λ ws vs. refl) (λ vs n. refl))
  agrees_missed at u ks e fits = absurd fits

  agrees_cleared : (at : ℕ) (u : UserId) (deals : List DealNo) (q : QueueId) → Agrees j (record { at = at; event = Absorbed (Cleared u deals q) }) (effect.Cleared u deals)
  agrees_cleared at u deals q =
      let s : Stamped = record { at = at; event = Absorbed (Cleared u deals q) } in let e = effect.Cleared u deals in
      agrees_absorbed at (Cleared u deals q) e (λ n. refl) (λ ns. refl) (λ bs. refl) (λ ps. refl) (λ gs. refl) (λ sets. refl) (λ cs. refl) (λ sets. refl) (λ ms. refl) (λ ds. refl) (λ sets. refl) (λ marks. refl) (record {
        wait = all_moved j s e refl ∙ steps_cleared at u deals q (all_kept j);
        entries = outbox-append j s ∙ append-nil (outbox j);
        handed = ap in_64_bits (none_handed j s e refl refl);
        off = ap in_64_bits (none_off j s e refl (no_outcome (Cleared u deals q)) refl);
        cleared = cleared-cleared j at u deals q;
        read = ap in_64_bits (none_cancelled j s e (λ n. refl) causes.Read refl);
        gone = ap in_64_bits (none_cancelled j s e (λ n. refl) causes.Deleted refl);
      }) (batches_left j s e (λ v. refl) none_ready (same_period j s e (λ v. refl)) (λ p q' ws old new made. made)) (pushes_left j s e waits refl refl none_ready (λ n. refl) (λ is. refl) (λ ws vs. refl) (λ vs n. refl))
    where
      none_ready : (v : UserId) (k : DealNo) (online : Bool) → readies v k online (Absorbed (Cleared u deals q)) ≡ false
      none_ready v k true = refl
      none_ready v k false = refl

  -- ---- a push turn

  -- one more is counted where the turn hands over
  counted_handed : (u : UserId) (m : MessageId) (entry : Option Entry) (off : ℕ) (on : Bool) → is_some entry ≡ on → (n : ℕ) → in_64_bits (n + cond on 1 0) ≡ handed_after (effect.Pushed u m entry off) (in_64_bits n)
  counted_handed u m (Some e) off on is n = ap (λ b. in_64_bits (n + cond b 1 0)) (sym is) ∙ sym (added n 1)
  counted_handed u m None off on is n = ap (λ b. in_64_bits (n + cond b 1 0)) (sym is) ∙ ap in_64_bits (add-zero n)

  entry_if : (on : Bool) (x : Entry) (entry : Option Entry) → option_to_list entry ≡ (if on then x ∷ [] else []) → is_some entry ≡ on
  entry_if true x (Some e) h = refl
  entry_if true x None h = absurd (cc)
  entry_if false x (Some e) h = absurd (cc)
  entry_if false x None h = refl

  -- the turn is of one notice that is ready, or of none where the notice is barred
  turned_one : (at : ℕ) (u : UserId) (m : MessageId) (n : Notice) → IsQueuedPush j u m n → length (filter (is_turned j (push_turn at u m)) (waiting j)) ≡ cond (is_none (cause_of_bar j n)) 1 0
  unfolding waiting
  turned_one at u m n queued =
      ap length (filter-filter (is_turned j (push_turn at u m)) (λ k. is_pending (account_of j k)) (notices j)
      ∙ filter_same (λ k. is_pending (account_of j k) && is_turned j (push_turn at u m) k) (λ k. is_of u m Push k && is_ready j k) one (notices j))
      ∙ (length-filter (λ k. is_of u m Push k && is_ready j k) (notices j)
      ∙ (one-counted j (is_ready j) u m
      ∙ ap (λ b. cond b 1 0) (ap (λ o. option_map_or (is_ready j) o false) queued.notice ∙ (ready-is j n ∙ ap (λ b. b && is_none (cause_of_bar j n)) queued.queued))))
    where
      ready : (a : Account) (t : Bool) → (is_pending a && (same_account a Ready && t)) ≡ (t && same_account a Ready)
      ready accounts.Ready true = refl
      ready accounts.Ready false = refl
      ready accounts.Flight t = sym (and-false t)
      ready accounts.Held t = sym (and-false t)
      ready accounts.NotOwed t = sym (and-false t)
      ready accounts.Handed t = sym (and-false t)
      ready (accounts.Cancelled c) t = sym (and-false t)
      ready accounts.LiveQueue t = sym (and-false t)

      one : (k : Notice) → (is_pending (account_of j k) && is_turned j (push_turn at u m) k) ≡ (is_of u m Push k && is_ready j k)
      one k = ready (account_of j k) (is_turn (push_turn at u m) k) ∙ ap (λ b. b && is_ready j k) (push_turn-of at u m k)

  less : (c w : Bool) (more before : ℕ) → more + cond (c && w) 1 0 ≡ before + cond c 1 0 → more ≡ before + (if c && not w then 1 else 0)
  less true true more before h = omega arith
  less true false more before h = omega arith
  less false w more before h = omega arith

  turn_agrees : (at : ℕ) (u : UserId) (m : MessageId) (entry : Option Entry) (off : ℕ) → may_stand j at (PushTurn (item.Notify u m)) ≡ true → option_to_list entry ≡ push_entries j at (item.Notify u m) → off ≡ switched_at_push j u m → Agrees j (push_turn at u m) (effect.Pushed u m entry off)
  turn_agrees at u m entry off may fits off_fits =
      let s = push_turn at u m in let e = effect.Pushed u m entry off in
      let found = queued_push j u m (turned-queued j at u m waits may) in let n = found.0 in let queued = found.1 in
      let on = is_none (cause_of_bar j n) && switch_on j u Push in
      let made = push_entries-queued j at u m n queued.notice in
      let handed : is_some entry ≡ on = entry_if on (push_entry j at n) entry (fits ∙ made) in
      let turn = waits-turn j s waits may in
      let one_entry = ap (sum_by item_count) made ∙ one_item at n on in
      record {
        starts = starts_left j s e refl (λ n. refl);
        of_users = users_left j s e refl (λ u. refl) (λ u c. refl) (λ u c topic. refl) (λ u v. refl) (λ ns. refl) (λ bs. refl) (λ ps. refl);
        of_groups = groups_left j s e refl (λ g u. refl) (still_sets j s e refl) (λ gs. refl) (λ sets. refl);
        of_channels = channels_left j s e refl (λ u c. refl) (still_sets j s e refl) (λ cs. refl) (λ sets. refl);
        of_messages = messages_left j s e refl (λ ms. refl) (λ ds. refl) (λ sets. refl) (λ m. refl) (λ marks. refl);
        of_notices = record {
          wait = all_moved j s e refl ∙ steps_push at u m (all_kept j);
          cleared = cleared-left j s (λ v k. refl) (λ n. refl);
          entries = outbox-append j s ∙ ap (λ es. outbox j ++ es) (sym fits);
          handed = ap in_64_bits (handed_over-append j s turn ∙ ap (λ k. handed_over j + k) one_entry) ∙ counted_handed u m entry off on handed (handed_over j);
          off =
              let all = switched_off-append j s turn in
              let total : switched_off (j ++ s ∷ []) + cond on 1 0 ≡ switched_off j + cond (is_none (cause_of_bar j n)) 1 0 =
              ap (λ k. switched_off (j ++ s ∷ []) + k) (sym one_entry) ∙ (all ∙ ap (λ k. switched_off j + k) (turned_one at u m n queued)) in
              ap in_64_bits (less (is_none (cause_of_bar j n)) (switch_on j u Push) (switched_off (j ++ s ∷ [])) (switched_off j) total
              ∙ ap (λ k. switched_off j + k) (sym (off_fits ∙ (ap (λ o. option_map_or (λ k. if is_none (bar j k) && not (switch_on j u Push) then 1 else 0) o 0) queued.notice ∙ ap (λ b. if b && not (switch_on j u Push) then 1 else 0) (unbarred-cause j n)))))
              ∙ sym (added (switched_off j) off);
          read = ap in_64_bits (none_cancelled j s e (λ n. refl) causes.Read refl);
          gone = ap in_64_bits (none_cancelled j s e (λ n. refl) causes.Deleted refl);
        };
        of_batches = batches_left j s e (λ v. refl) (λ v k online. refl) (same_period j s e (λ v. refl)) (λ p q ws old new made. made);
        of_pushes = record {
          items = waiting_items-next j s waits may ∙ (ap (λ is. drop 1 (waiting_items j) ++ is) (none_added j s e waits may (λ v k online. refl) (λ n. refl)) ∙ append-nil (drop 1 (waiting_items j)));
          active = active-joined j at u m n waits may queued entry off handed;
          written = ap in_64_bits (none_written j s waits may (λ v k. refl));
        };
      }
    where
      one_item : (at : ℕ) (n : Notice) (on : Bool) → sum_by item_count (if on then push_entry j at n ∷ [] else []) ≡ cond on 1 0
      one_item at n true = refl
      one_item at n false = refl

  agrees_push : (at : ℕ) (u : UserId) (m : MessageId) (e : Effect) → may_stand j at (PushTurn (item.Notify u m)) ≡ true → IsPushed e u m (push_entries j at (item.Notify u m)) (switched_at_push j u m) → Agrees j (push_turn at u m) e
  agrees_push at u m (effect.Pushed v k entry off) may fits =
      subst (λ (x : UserId). Agrees j (push_turn at u m) (effect.Pushed x k entry off)) (sym fits.0)
      (subst (λ (x : MessageId). Agrees j (push_turn at u m) (effect.Pushed u x entry off)) (sym fits.1) (turn_agrees at u m entry off may fits.2 fits.3))
  agrees_push at u m e may fits = absurd fits

  -- ---- the turn of a removal

  removal_agrees : (at : ℕ) (u : UserId) (ms : List MessageId) (entry : Entry) → may_stand j at (PushTurn (item.Remove u ms)) ≡ true → entry ∷ [] ≡ push_entries j at (item.Remove u ms) → Agrees j (removal_turn at u ms) (effect.Removed u ms entry)
  removal_agrees at u ms entry may fits =
      let s = removal_turn at u ms in let e = effect.Removed u ms entry in
      let turn = waits-turn j s waits may in
      let never : IsNoTurn s.event = record { mail = λ v. refl; push = λ v k. refl } in
      record {
        starts = starts_left j s e refl (λ n. refl);
        of_users = users_left j s e refl (λ u. refl) (λ u c. refl) (λ u c topic. refl) (λ u v. refl) (λ ns. refl) (λ bs. refl) (λ ps. refl);
        of_groups = groups_left j s e refl (λ g u. refl) (still_sets j s e refl) (λ gs. refl) (λ sets. refl);
        of_channels = channels_left j s e refl (λ u c. refl) (still_sets j s e refl) (λ cs. refl) (λ sets. refl);
        of_messages = messages_left j s e refl (λ ms. refl) (λ ds. refl) (λ sets. refl) (λ m. refl) (λ marks. refl);
        of_notices = record {
          wait = all_moved j s e refl ∙ steps_left s never (bars_none s (λ v k. refl) (λ k. refl)) (λ v k online. refl) (λ v k. refl) (λ k. refl) (all_kept j);
          cleared = cleared-left j s (λ v k. refl) (λ n. refl);
          entries = outbox-append j s ∙ ap (λ es. outbox j ++ es) (sym fits);
          handed = ap in_64_bits (handed_over-append j s turn ∙ add-zero (handed_over j));
          off =
              let all = switched_off-append j s turn in
              let none = ap length (filter_none (is_turned j s) (λ n. ap (λ b. is_ready j n && b) (unturned-removal at u ms n) ∙ and-false (is_ready j n)) (waiting j)) in
              ap in_64_bits (sym (add-zero (switched_off (j ++ s ∷ []))) ∙ (all ∙ (ap (λ k. switched_off j + k) none ∙ add-zero (switched_off j))));
          read = ap in_64_bits (none_cancelled j s e (λ n. refl) causes.Read refl);
          gone = ap in_64_bits (none_cancelled j s e (λ n. refl) causes.Deleted refl);
        };
        of_batches = batches_left j s e (λ v. refl) (λ v k online. refl) (same_period j s e (λ v. refl)) (λ p q ws old new made. made);
        of_pushes = record {
          items = waiting_items-next j s waits may ∙ (ap (λ is. drop 1 (waiting_items j) ++ is) (none_added j s e waits may (λ v k online. refl) (λ n. refl)) ∙ append-nil (drop 1 (waiting_items j)));
          active = active-taken j at u ms waits may;
          written =
              ap in_64_bits (removals_written-append j s waits may ∙ ap (λ k. removals_written j + k) (removed-active j s waits may ∙ (sym (length-filter (is_removed_by s.event) (filter (is_active j) (notices j))) ∙ sym taken)))
              ∙ sym (added (removals_written j) (length (filter (is_removed u ms) (all_active j))));
        };
      }
    where
      one : (n : Notice) → is_removed u ms (notice_kept j n) ≡ is_removed_by (PushTurn (item.Remove u ms)) n
      one n = (λ i. swapped n.user.0 u.0 i && (push_way n.way i && list_any (λ k. k.0 == n.number.0) ms)) ∙ turned (u.0 == n.user.0) (same_way n.way Push) (list_any (λ k. k.0 == n.number.0) ms)
        where
          turned : (a b c : Bool) → (a && (b && c)) ≡ (b && (a && c))
          turned true true c = refl
          turned true false c = refl
          turned false true c = refl
          turned false false c = refl

      each : (ns : List Notice) → AllByRecursion (λ n. is_removed u ms (notice_kept j n) ≡ is_removed_by (PushTurn (item.Remove u ms)) n) ns
      each [] = tt
      each (n ∷ ns) = (one n, each ns)

      taken : length (filter (is_removed u ms) (all_active j)) ≡ length (filter (is_removed_by (PushTurn (item.Remove u ms))) (filter (is_active j) (notices j)))
      taken =
          ap length (filter-mapped (notice_kept j) (is_removed u ms) (is_removed_by (PushTurn (item.Remove u ms))) (filter (is_active j) (notices j)) (each (filter (is_active j) (notices j))))
          ∙ length-map (filter (is_removed_by (PushTurn (item.Remove u ms))) (filter (is_active j) (notices j))) (notice_kept j)

  agrees_removed : (at : ℕ) (u : UserId) (ms : List MessageId) (e : Effect) → may_stand j at (PushTurn (item.Remove u ms)) ≡ true → IsRemoved e u ms (push_entries j at (item.Remove u ms)) → Agrees j (removal_turn at u ms) e
  agrees_removed at u ms (effect.Removed v ks entry) may fits =
      subst (λ (x : UserId). Agrees j (removal_turn at u ms) (effect.Removed x ks entry)) (sym fits.0)
      (subst (λ (x : List MessageId). Agrees j (removal_turn at u ms) (effect.Removed u x entry)) (sym fits.1) (removal_agrees at u ms entry may fits.2))
  agrees_removed at u ms e may fits = absurd fits

  -- ---- a read or a deletion

  -- it bars for one cause, and is nothing else to a notice
  record IsBar (s : Stamped) (c : Cause) : Type 0 where
    other : is_push_turn s.event ≡ false
    never : IsNoTurn s.event
    not_ready : (u : UserId) (k : DealNo) (online : Bool) → readies u k online s.event ≡ false
    not_cleared : (u : UserId) (k : DealNo) → clears u k s.event ≡ false
    not_dealt : (k : DealNo) → absorbs (is_dealt k) s.event ≡ false
    of_cause : (n : Notice) → barring j s n ≡ cond (is_some (barring j s n)) (Some c) None

  cancelled_count : (s : Stamped) (c : Cause) → IsBar s c → (cause : Cause) → same_cause causes.SwitchedOff cause ≡ false → cancelled_for cause (j ++ s ∷ []) ≡ cancelled_for cause j + cond (same_cause c cause) (length (filter (is_cancelled_at j s) (notices j))) 0
  cancelled_count s c bars cause other = owed_with-cancelled j s cause other ∙ ap (λ k. cancelled_for cause j + k) (sym (length-filter (is_cancelled_now j s cause) (notices j)) ∙ by (same_cause c cause) refl)
    where
      plain : (p l : Bool) → ((p && not false) || l) ≡ (p || l)
      plain true l = refl
      plain false l = refl

      told : (t b : Bool) → same_cause c cause ≡ b → option_map_or (same_cause cause) (cond t (Some c) None) false ≡ (t && b)
      told true b h = same_cause_swap cause c ∙ h
      told false b h = refl

      one : (b : Bool) → same_cause c cause ≡ b → (n : Notice) → is_cancelled_now j s cause n ≡ ((is_some (barring j s n) && b) && (is_pending (account_of j n) || same_account (account_of j n) accounts.LiveQueue))
      one b h n =
          (λ i. option_map_or (same_cause cause) (bars.of_cause n i) false && ((is_pending (account_of j n) && not (never_turn s.event bars.never n.user n.number n.way i)) || same_account (account_of j n) accounts.LiveQueue))
          ∙ (λ i. told (is_some (barring j s n)) b h i && plain (is_pending (account_of j n)) (same_account (account_of j n) accounts.LiveQueue) i)

      by : (b : Bool) → same_cause c cause ≡ b → length (filter (is_cancelled_now j s cause) (notices j)) ≡ cond b (length (filter (is_cancelled_at j s) (notices j))) 0
      by true h = ap length (filter_same (is_cancelled_now j s cause) (is_cancelled_at j s) (λ n. one true h n ∙ ap (λ t. t && (is_pending (account_of j n) || same_account (account_of j n) accounts.LiveQueue)) (and-true (is_some (barring j s n)))) (notices j))
      by false h = ap length (filter_none (is_cancelled_now j s cause) (λ n. one false h n ∙ ap (λ t. t && (is_pending (account_of j n) || same_account (account_of j n) accounts.LiveQueue)) (and-false (is_some (barring j s n)))) (notices j))

  cancelled_so : (s : Stamped) (c : Cause) → IsBar s c → (given : Cause) → given ≡ c → (cancelled : ℕ) → cancelled ≡ in_64_bits (length (filter (is_cancelled_at j s) (notices j))) → (cause : Cause) → same_cause causes.SwitchedOff cause ≡ false
      → in_64_bits (cancelled_for cause (j ++ s ∷ [])) ≡ counted_for given cause cancelled (in_64_bits (cancelled_for cause j))
  cancelled_so s c bars given is_given cancelled is cause other =
      ap in_64_bits (cancelled_count s c bars cause other)
      ∙ (by (same_cause c cause)
      ∙ sym (λ i. if same_cause (is_given i) cause then min (in_64_bits (cancelled_for cause j) + is i) (2 ^ 64 - 1) else in_64_bits (cancelled_for cause j)))
    where
      by : (b : Bool) → in_64_bits (cancelled_for cause j + cond b (length (filter (is_cancelled_at j s) (notices j))) 0) ≡ (if b then min (in_64_bits (cancelled_for cause j) + in_64_bits (length (filter (is_cancelled_at j s) (notices j)))) (2 ^ 64 - 1) else in_64_bits (cancelled_for cause j))
      by true = both_counted (cancelled_for cause j) (length (filter (is_cancelled_at j s) (notices j)))
      by false = ap in_64_bits (add-zero (cancelled_for cause j))

  notices_barred : (s : Stamped) (c : Cause) (m : Option MessageId) (e : Effect) → IsBar s c → same_cause c causes.SwitchedOff ≡ false → owed_by (occurrence j s) ≡ [] → entries_by j s.at s.event ≡ [] → IsBarred j s c m e → NoticesAgree j s e
  unfolding kept
  notices_barred s c m (effect.Barred cause deleted pairs cancelled removals) bars not_off owes_none no_entry fits =
      let e = effect.Barred cause deleted pairs cancelled removals in record {
        wait = all_moved j s e owes_none
            ∙ (steps_barred j s c bars.never bars.not_ready bars.not_cleared bars.not_dealt (is_one_of_pairs pairs.items) bars.of_cause (kept j) (AllByRecursion-filter (λ n. has_push pairs.items n.user n.number ≡ is_some (barring j s n)) (is_kept j) (notices j) fits.2)
            ∙ ap (λ x. barred_where (is_one_of_pairs pairs.items) x (all_kept j)) (sym fits.0));
        cleared = cleared-barred j s bars.not_cleared pairs.items fits.2;
        entries = outbox-append j s ∙ (ap (λ es. outbox j ++ es) no_entry ∙ append-nil (outbox j));
        handed = ap in_64_bits (none_handed j s e bars.other no_entry);
        off = ap in_64_bits (none_off j s e bars.other bars.never no_entry)
            ∙ sym (ap (λ b. if b then min (in_64_bits (switched_off j) + cancelled) (2 ^ 64 - 1) else in_64_bits (switched_off j)) (ap (λ x. same_cause x causes.SwitchedOff) fits.0 ∙ not_off));
        read = cancelled_so s c bars cause fits.0 cancelled fits.3 causes.Read refl;
        gone = cancelled_so s c bars cause fits.0 cancelled fits.3 causes.Deleted refl;
      }
  notices_barred s c m e bars not_off owes_none no_entry fits = absurd fits

  pushes_barred : (s : Stamped) (c : Cause) (m : Option MessageId) (e : Effect) → IsBar s c → may_stand j s.at s.event ≡ true → IsBarred j s c m e → PushesAgree j s e
  pushes_barred s c m (effect.Barred cause deleted pairs cancelled removals) bars may fits = record {
    items = waiting_items-other j s waits bars.other ∙ ap (λ is. waiting_items j ++ is) (sym (fits.4 ∙ items_by-last j s));
    active = active-revoked j s waits may bars.other c bars.of_cause pairs.items fits.2 ∙ ap (λ x. revoked_where (is_pushed_pair pairs.items) x (all_active j)) (sym fits.0);
    written = ap in_64_bits (none_written j s waits may (λ u k. no_removal u k s.event bars.other));
  }
  pushes_barred s c m e bars may fits = absurd fits

  read_bars : (at : ℕ) (u : UserId) (ms : List MessageId) → IsBar (record { at = at; event = Asked (Read u ms) }) causes.Read
  unfolding bar_cause
  read_bars at u ms = record { other = refl; never = no_request (Read u ms); not_ready = λ v k online. refl; not_cleared = λ v k. refl; not_dealt = λ k. refl; of_cause = λ n. by (reads n.user n.number (Asked (Read u ms))) }
    where
      by : (b : Bool) → (if b then Some causes.Read else None) ≡ cond (is_some (if b then Some causes.Read else None)) (Some causes.Read) None
      by true = refl
      by false = refl

  deletion_bars : (at : ℕ) (u : UserId) (m : MessageId) → IsBar (record { at = at; event = Asked (Delete u m) }) causes.Deleted
  unfolding bar_cause
  deletion_bars at u m = record { other = refl; never = no_request (Delete u m); not_ready = λ v k online. refl; not_cleared = λ v k. refl; not_dealt = λ k. refl; of_cause = λ n. by (deletes n.number (Asked (Delete u m))) }
    where
      by : (b : Bool) → (if b then Some causes.Deleted else None) ≡ cond (is_some (if b then Some causes.Deleted else None)) (Some causes.Deleted) None
      by true = refl
      by false = refl

  agrees_read : (at : ℕ) (u : UserId) (ms : List MessageId) (e : Effect) → may_stand j at (Asked (Read u ms)) ≡ true → IsBarred j (record { at = at; event = Asked (Read u ms) }) causes.Read None e → Agrees j (record { at = at; event = Asked (Read u ms) }) e
  agrees_read at u ms (effect.Barred cause deleted pairs cancelled removals) may fits =
      let s : Stamped = record { at = at; event = Asked (Read u ms) } in let e = effect.Barred cause deleted pairs cancelled removals in let bars = read_bars at u ms in
      record {
        starts = starts_left j s e refl (λ n. refl);
        of_users = users_left j s e refl (λ u. refl) (λ u c. refl) (λ u c topic. refl) (λ u v. refl) (λ ns. refl) (λ bs. refl) (λ ps. refl);
        of_groups = groups_left j s e refl (λ g u. refl) (still_sets j s e refl) (λ gs. refl) (λ sets. refl);
        of_channels = channels_left j s e refl (λ u c. refl) (still_sets j s e refl) (λ cs. refl) (λ sets. refl);
        of_messages = messages_left j s e refl (λ ms. refl) (λ ds. refl) (λ sets. refl) (λ m. refl) (λ marks. ap (λ d. deleted_with d marks) fits.1);
        of_notices = notices_barred s causes.Read None e bars refl refl refl fits;
        of_batches = batches_left j s e bars.never.mail bars.not_ready (same_period j s e (λ v. refl)) (λ p q ws old new made. made);
        of_pushes = pushes_barred s causes.Read None e bars may fits;
      }
  agrees_read at u ms e may fits = absurd fits

  agrees_deletion : (at : ℕ) (u : UserId) (m : MessageId) (e : Effect) → may_stand j at (Asked (Delete u m)) ≡ true → is_message j m ≡ true → IsBarred j (record { at = at; event = Asked (Delete u m) }) causes.Deleted (Some m) e → Agrees j (record { at = at; event = Asked (Delete u m) }) e
  agrees_deletion at u m (effect.Barred cause deleted pairs cancelled removals) may there fits =
      let s : Stamped = record { at = at; event = Asked (Delete u m) } in let e = effect.Barred cause deleted pairs cancelled removals in let bars = deletion_bars at u m in
      let place = numbered-within m.0 (messages j) (and_parts (is_some (message j m)) (not (is_deleted j m)) there).0 in
      let same = same_messages j s e refl in
      record {
        starts = starts_left j s e refl (λ n. refl);
        of_users = users_left j s e refl (λ u. refl) (λ u c. refl) (λ u c topic. refl) (λ u v. refl) (λ ns. refl) (λ bs. refl) (λ ps. refl);
        of_groups = groups_left j s e refl (λ g u. refl) (still_sets j s e refl) (λ gs. refl) (λ sets. refl);
        of_channels = channels_left j s e refl (λ u c. refl) (still_sets j s e refl) (λ cs. refl) (λ sets. refl);
        of_messages = record {
          sent = ap (map message_kept) same;
          addressed = λ sets long is k v. is k v ∙ sym (ap (λ ms. option_map_or (λ (sent : SentMessage). goes_to sent.past sent.to v) (numbered k.0 ms) false) same);
          addressed_long = λ sets long. long ∙ ap length (sym same);
          marked = λ marks long is k.
              ap (λ d. is_marked (deleted_with d marks) k.0) fits.1
              ∙ (mark-changed marks m.0 k.0 place.0 (omega (arith, place.1, long)) ∙ (ap (λ b. b || m.0 == k.0) (is k) ∙ sym (is_deleted-append j s k)));
          marked_long = λ marks long. ap (λ d. length (deleted_with d marks)) fits.1 ∙ (changed-long m.0 (λ mark. true) marks ∙ (long ∙ ap length (sym same)));
          dealt = deals-append j s ∙ append-nil (deals j);
        };
        of_notices = notices_barred s causes.Deleted (Some m) e bars refl refl refl fits;
        of_batches = batches_left j s e bars.never.mail bars.not_ready (same_period j s e (λ v. refl)) (λ p q ws old new made. made);
        of_pushes = pushes_barred s causes.Deleted (Some m) e bars may fits;
      }
  agrees_deletion at u m e may there fits = absurd fits

  -- what a request that may stand tells

  asked_not_refused : (at : ℕ) (r : Request) → may_stand j at (Asked r) ≡ true → first_broken (rules_of j r) ≡ None
  unfolding refusal
  asked_not_refused at r h = none_from (first_broken (rules_of j r)) (is_in_order r) h
    where
      none_from : (o : Option Refusal) (b : Bool) → (is_none o && b) ≡ true → o ≡ None
      none_from None b h = refl
      none_from (Some n) b h = absurd (cc)

  -- the first rule is not broken, nor are the others
  first_kept : (b : Bool) (n : Refusal) (rules : List Rule) → first_broken (rule (not b) n ∷ rules) ≡ None → (b ≡ true) × (first_broken rules ≡ None)
  first_kept true n rules h = (refl, h)
  first_kept false n rules h = absurd (cc)

  lists_in_order : (at : ℕ) (r : Request) → may_stand j at (Asked r) ≡ true → is_in_order r ≡ true
  lists_in_order at r h = second (is_none (refusal j r)) (is_in_order r) h
    where
      second : (a b : Bool) → (a && b) ≡ true → b ≡ true
      second true b h = h
      second false b h = absurd (cc)

  -- an effect that fits an event that may stand makes of the tables what the event makes of them
  agrees : (at : ℕ) (event : Event) (e : Effect) → may_stand j at event ≡ true → IsEffectOf j at event e → Agrees j (record { at = at; event = event }) e
  agrees at Restart e may fits = agrees_start at e fits
  agrees at (Asked (AddUser name bot)) e may fits = subst (Agrees j (record { at = at; event = Asked (AddUser name bot) })) (sym fits) (agrees_user at name bot may)
  agrees at (Asked (AddGroup name members)) e may fits =
      let r = AddGroup name members in
      agrees_group at name members e (first_kept (list_all (is_user j) members) NoUser (rule (is_taken (groups j) name) Exists ∷ rule (nat_lt most_items (length members)) (TooMany most_items) ∷ name_rules name) (asked_not_refused at r may)).0 (lists_in_order at r may) fits may
  agrees at (Asked (Member group user on)) e may fits =
      let users = first_kept (is_user j user) NoUser (rule (not (is_group j group)) NoGroup ∷ []) (asked_not_refused at (Member group user on) may) in
      subst (Agrees j (record { at = at; event = Asked (Member group user on) })) (sym fits) (agrees_member at group user on users.0 (first_kept (is_group j group) NoGroup [] users.1).0 may)
  agrees at (Asked (AddChannel name)) e may fits = subst (Agrees j (record { at = at; event = Asked (AddChannel name) })) (sym fits) (agrees_channel at name may)
  agrees at (Asked (Subscribe user channel on)) e may fits =
      let users = first_kept (is_user j user) NoUser (rule (not (is_channel j channel)) NoChannel ∷ []) (asked_not_refused at (Subscribe user channel on) may) in
      subst (Agrees j (record { at = at; event = Asked (Subscribe user channel on) })) (sym fits) (agrees_subscription at user channel on users.0 (first_kept (is_channel j channel) NoChannel [] users.1).0 may)
  agrees at (Asked (Set user change)) e may fits =
      let s : Stamped = record { at = at; event = Asked (Set user change) } in
      subst (Agrees j s) (sym fits) (agrees_preference s user (preference.Setting change) (first_kept (is_user j user) NoUser (rule (is_bad_period change) BadPeriod ∷ []) (asked_not_refused at (Set user change) may)).0 (after-setting j at user change)
      refl refl refl refl (λ g u. refl) (λ u c. refl) (calm_asked at (Set user change) (λ u m. refl) (λ m. refl)) refl refl refl may)
  agrees at (Asked (SetChannel user channel change)) e may fits =
      let s : Stamped = record { at = at; event = Asked (SetChannel user channel change) } in
      subst (Agrees j s) (sym fits) (agrees_preference s user (preference.Specific channel change) (first_kept (is_user j user) NoUser (rule (not (is_channel j channel)) NoChannel ∷ []) (asked_not_refused at (SetChannel user channel change) may)).0 (after-specific j at user channel change)
      refl refl refl refl (λ g u. refl) (λ u c. refl) (calm_asked at (SetChannel user channel change) (λ u m. refl) (λ m. refl)) refl refl refl may)
  agrees at (Asked (SetPolicy user channel topic policy)) e may fits =
      let s : Stamped = record { at = at; event = Asked (SetPolicy user channel topic policy) } in
      subst (Agrees j s) (sym fits) (agrees_preference s user (preference.Policy channel topic policy) (first_kept (is_user j user) NoUser (rule (not (is_channel j channel)) NoChannel ∷ rule (is_longer_than longest_topic topic) TopicTooLong ∷ []) (asked_not_refused at (SetPolicy user channel topic policy) may)).0 (after-policy j at user channel topic policy)
      refl refl refl refl (λ g u. refl) (λ u c. refl) (calm_asked at (SetPolicy user channel topic policy) (λ u m. refl) (λ m. refl)) refl refl refl may)
  agrees at (Asked (Mute user other on)) e may fits =
      let s : Stamped = record { at = at; event = Asked (Mute user other on) } in
      let both = first_kept (is_user j user && is_user j other) NoUser [] (asked_not_refused at (Mute user other on) may) in
      subst (Agrees j s) (sym fits) (agrees_preference s user (preference.Mute other on) (and_parts (is_user j user) (is_user j other) both.0).0 (after-mute j at user other on)
      refl refl refl refl (λ g u. refl) (λ u c. refl) (calm_asked at (Mute user other on) (λ u m. refl) (λ m. refl)) refl refl refl may)
  agrees at (Asked (Send sender channel topic text)) e may fits = agrees_send at sender (destination.Channel channel topic) text e fits may
  agrees at (Asked (Direct sender to text)) e may fits = agrees_send at sender (destination.Direct to) text e fits may
  agrees at (Asked (Delete user message)) e may fits =
      let users = first_kept (is_user j user) NoUser (rule (not (is_message j message)) NoMessage ∷ rule (not (option_map_or (is_sender user) (message_sent j message) false)) NotSender ∷ []) (asked_not_refused at (Delete user message) may) in
      agrees_deletion at user message e may (first_kept (is_message j message) NoMessage (rule (not (option_map_or (is_sender user) (message_sent j message) false)) NotSender ∷ []) users.1).0 fits
  agrees at (Asked (Read user messages)) e may fits = agrees_read at user messages e may fits
  agrees at (Absorbed (Dealt k verdicts)) e may fits = agrees_dealt at k verdicts e fits
  agrees at (Absorbed (Cleared user deals queue)) e may fits = subst (Agrees j (record { at = at; event = Absorbed (Cleared user deals queue) })) (sym fits) (agrees_cleared at user deals queue)
  agrees at (Absorbed (Missed user deals)) e may fits = agrees_missed at user deals e fits
  agrees at (MailTurn user) e may fits = agrees_mails at user e fits may
  agrees at (PushTurn (item.Notify user message)) e may fits = agrees_push at user message e may fits
  agrees at (PushTurn (item.Remove user messages)) e may fits = agrees_removed at user messages e may fits

-- the tables hold what the events leave with a lawful one
pub holds_after : (old new : Tables) (past : List Stamped) → PushesWait past → Holds old past → (s : Stamped) → is_lawful_after past s ≡ true → (e : Effect) → IsEffectOf past s.at s.event e → IsApplied old new s.at e → new.last ≡ s.at → Holds new (past ++ s ∷ [])
holds_after old new past waits holds s next e fits applied last = agreed old new past holds s e (agrees past waits s.at s.event e (second (nat_le (last_stamp past) s.at) (may_stand past s.at s.event) next) fits) applied last
  where
    second : (a b : Bool) → (a && b) ≡ true → b ≡ true
    second true b h = h
    second false b h = absurd (cc)

-- the last stamp is no part of an effect
pub applied_at : (old new : Tables) (at : ℕ) (e : Effect) → IsApplied old new at e → IsApplied old (record new { last = at }) at e
applied_at old new at e applied = record {
  starts = applied.starts;
  names = applied.names;
  bots = applied.bots;
  preferences = applied.preferences;
  groups = applied.groups;
  members = applied.members;
  channels = applied.channels;
  subscribers = applied.subscribers;
  messages = applied.messages;
  addressees = applied.addressees;
  deleted = applied.deleted;
  waiting = applied.waiting;
  cleared = applied.cleared;
  batches = applied.batches;
  items = applied.items;
  active = applied.active;
  deals = applied.deals;
  outbox = applied.outbox;
  handed = applied.handed;
  off = applied.off;
  read = applied.read;
  gone = applied.gone;
  written = applied.written;
}
