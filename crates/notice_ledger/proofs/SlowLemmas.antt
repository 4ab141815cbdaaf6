-- What the slow computation counts is what the definitions count.
use Rattle.std.proofs.Common.{◌≡◌, ℕ, ◌+◌, ◌-◌, ◌^◌, min, Bool, true, false, ◌&&◌, not, List, [], ◌∷◌, ◌++◌, ◌<◌, length, map, take, get_or, refl, sym, ap, ◌∙◌, arith}
use Rattle.std.specs.Prelude.{Option, Some, None, option_map, option_and_then, is_some, find, count_by, if◌then◌else◌, cond}
use Rattle.std.specs.Option.{option_map_or}
use Rattle.std.specs.List.{filter_map, cons_option, list_any}
use Rattle.std.proofs.lemmas.List.{map-append, take_more}
use Rattle.std.proofs.lemmas.List.Sums.{sum_by-cons}
use Rattle.chat_model.specs.declared.event.Stamped.{Stamped}
use Rattle.chat_model.specs.declared.ids.UserId.{UserId}
use Rattle.chat_model.specs.declared.ids.MessageId.{MessageId}
use Rattle.chat_model.specs.declared.push_item.PushItem.{PushItem}
use Rattle.chat_model.specs.declared.trigger.Way.{Way}
use Rattle.chat_model.specs.declared.row.Cause.TheVariants.{Read, Deleted, SwitchedOff}
use Rattle.chat_model.specs.declared.trigger.Way.TheVariants.{Mail, Push}
use Rattle.notice_ledger.specs.declared.accounts.Account.{Account}
use Rattle.notice_ledger.specs.declared.accounts.Account.TheVariants.{NotOwed, Flight, Held, Ready, Handed, Cancelled, LiveQueue}
use Rattle.notice_ledger.specs.declared.owed.Owed.{Owed}
use Rattle.notice_ledger.specs.declared.revocations.RevokedPush.{RevokedPush}
use Rattle.notice_ledger.specs.declared.slow.RemovalCounts.{RemovalCounts}
use Rattle.notice_ledger.specs.Past.Journal.{Occurrence}
use Rattle.notice_ledger.specs.Past.Owed.{Notice, is_of, notices, same_way, bar_behind, account}
use Rattle.notice_ledger.specs.Past.Pushes.{is_revoked, removes, waiting_items}
use Rattle.notice_ledger.specs.Past.Outbox.{outbox}
use Rattle.notice_ledger.specs.Past.Audit.{same_account, owed_with, removals_waiting, removals_written, in_64_bits, counts_of}
use Rattle.notice_ledger.specs.Plain.{owed_kept, account_kept, counts_kept, is_of_kept, handed_kept, is_removed_kept, revoked_push_kept}
use Rattle.notice_ledger.proofs.Sums.{none_plus, sum_by-map}

-- counts in 64 bits are added in 64 bits
pub in_64_bits-more : (r n m a b : ℕ) → r ≡ min (n + m) (2 ^ 64 - 1) → m ≡ b → n ≡ in_64_bits a → r ≡ in_64_bits (a + b)
in_64_bits-more r n m a b added more so_far = omega arith

counted : (j : List Stamped) (account : Account) (accounts : List Account) → accounts ≡ map (account_kept j) (map owed_kept (notices j)) → count_by (λ a. same_account a account) accounts ≡ owed_with j account
unfolding owed_with
counted j account accounts are =
    ap (count_by (λ a. same_account a account)) are
    ∙ (sum_by-map (λ a. cond (same_account a account) 1 0) (account_kept j) (map owed_kept (notices j))
    ∙ sum_by-map (λ n. cond (same_account (account_kept j n) account) 1 0) owed_kept (notices j))

pub counts_kept-counts_of : (j : List Stamped) (accounts : List Account) (entries : ℕ) (removals : RemovalCounts) → accounts ≡ map (account_kept j) (map owed_kept (notices j)) → entries ≡ in_64_bits (length (outbox j))
    → removals.waiting ≡ in_64_bits (removals_waiting j) → removals.written ≡ in_64_bits (removals_written j) → counts_kept accounts entries removals ≡ counts_of j
counts_kept-counts_of j accounts entries removals are counts waits writes =
    let of = λ (a : Account). ap in_64_bits (counted j a accounts are) in
    λ i. record {
      flight = of Flight i;
      held = of Held i;
      ready = of Ready i;
      handed = of Handed i;
      read = of (Cancelled Read) i;
      deleted = of (Cancelled Deleted) i;
      off = of (Cancelled SwitchedOff) i;
      live = of LiveQueue i;
      entries = counts i;
      waiting = waits i;
      written = writes i;
    }

-- ---- the account of a notice

pub find-map : {A B : Type 0} (p : B → Bool) (f : A → B) (xs : List A) → find p (map f xs) ≡ option_map f (find (λ x. p (f x)) xs)
find-map p f [] = refl
find-map p f (x ∷ xs) =
    elim (p (f x)) as (λ b. cond b (Some (f x)) (find p (map f xs)) ≡ option_map f (cond b (Some x) (find (λ x. p (f x)) xs))) [
      | true ↦ refl
      | false ↦ find-map p f xs
    ]

or_mapped : {A B C : Type 0} (f : B → C) (g : A → B) (o : Option A) (d : C) → option_map_or f (option_map g o) d ≡ option_map_or (λ a. f (g a)) o d
or_mapped f g None d = refl
or_mapped f g (Some x) d = refl

pub account-found : (j : List Stamped) (u : UserId) (m : MessageId) (w : Way) (found : List Owed) (o : Option Owed) → found ≡ map owed_kept (notices j) → o ≡ find (is_of_kept u m w) found → option_map_or (account_kept j) o NotOwed ≡ account j u m w
account-found j u m w found o are at =
    ap (λ p. option_map_or (account_kept j) p NotOwed) (at ∙ (ap (find (is_of_kept u m w)) are ∙ find-map (is_of_kept u m w) owed_kept (notices j)))
    ∙ or_mapped (account_kept j) owed_kept (find (is_of u m w) (notices j)) NotOwed

-- ---- accounts one after another

-- the notice that stands for none, where a list has none
abbrev pub nobody : Owed
nobody = record { user = record { 0 = 0 }; message = record { 0 = 0 }; way = Mail; deal = record { 0 = 0 }; online = false; place = 0 }

-- one more account
pub accounts-next : (j : List Stamped) (notices : List Owed) (i : ℕ) (accounts : List Account) (account : Account) → i < length notices
    → accounts ≡ map (account_kept j) (take i notices) → account ≡ account_kept j (get_or notices i nobody) → accounts ++ account ∷ [] ≡ map (account_kept j) (take (i + 1) notices)
accounts-next j notices i accounts account lt so_far is =
    ap (λ (before : List Account). before ++ account ∷ []) so_far
    ∙ (ap (λ (a : Account). map (account_kept j) (take i notices) ++ a ∷ []) is
    ∙ (sym (map-append (account_kept j) (take i notices) (get_or notices i nobody ∷ [])) ∙ ap (map (account_kept j)) (sym (take_more notices i nobody lt))))

-- ---- removals

module _ (j : List Stamped) (test : UserId → MessageId → Bool) where
  abbrev passes : RevokedPush → Bool
  passes p = test p.user p.message

  abbrev slowly : List Notice → List RevokedPush
  slowly ns = filter_map (revoked_push_kept j) (map owed_kept ns)

  -- the pushes that are revoked are counted as the notices that are
  revoked-counted : (ns : List Notice) → count_by passes (slowly ns) ≡ count_by (λ n. is_revoked j n && test n.user n.number) ns
  revoked-counted [] = refl
  revoked-counted (n ∷ ns) =
      by (same_way n.way Push) (handed_kept j (owed_kept n)) (revoked-counted ns)
      ∙ sym (sum_by-cons (λ n. cond (is_revoked j n && test n.user n.number) 1 0) n ns)
    where
      bar_after : Occurrence → Option Occurrence
      bar_after t = bar_behind t.place n.user n.number n.way j

      rest : ℕ
      rest = count_by (λ n. is_revoked j n && test n.user n.number) ns

      one : (r : Option Occurrence) → count_by passes (slowly ns) ≡ rest
          → count_by passes (cons_option (option_map (λ (o : Occurrence). let p : RevokedPush = record { user = n.user; message = n.number; place = o.place } in p) r) (slowly ns)) ≡ cond (is_some r && test n.user n.number) 1 0 + rest
      one None e = e ∙ none_plus rest
      one (Some o) e = sum_by-cons (λ p. cond (passes p) 1 0) (record { user = n.user; message = n.number; place = o.place }) (slowly ns) ∙ ap (λ k. cond (test n.user n.number) 1 0 + k) e

      by : (push : Bool) (handed : Option Occurrence) → count_by passes (slowly ns) ≡ rest
          → count_by passes (cons_option (if push then option_map (λ (o : Occurrence). let p : RevokedPush = record { user = n.user; message = n.number; place = o.place } in p) (option_and_then bar_after handed) else None) (slowly ns))
          ≡ cond (is_some (option_and_then bar_after (if push then handed else None)) && test n.user n.number) 1 0 + rest
      by true handed e = one (option_and_then bar_after handed) e
      by false handed e = e ∙ none_plus rest

module _ (j : List Stamped) (waiting : List PushItem) (revoked : List RevokedPush) (items : waiting ≡ waiting_items j) (are : revoked ≡ filter_map (revoked_push_kept j) (map owed_kept (notices j))) where
  pub waiting-counted : count_by (is_removed_kept waiting) revoked ≡ removals_waiting j
  unfolding removals_waiting
  waiting-counted = (λ i. count_by (is_removed_kept (items i)) (are i)) ∙ revoked-counted j (λ u m. list_any (removes u m) (waiting_items j)) (notices j)

  pub written-counted : count_by (λ p. not (is_removed_kept waiting p)) revoked ≡ removals_written j
  unfolding removals_written
  written-counted = (λ i. count_by (λ p. not (is_removed_kept (items i) p)) (are i)) ∙ revoked-counted j (λ u m. not (list_any (removes u m) (waiting_items j))) (notices j)
