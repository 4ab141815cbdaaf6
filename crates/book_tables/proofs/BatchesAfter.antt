-- Batches that hold what events leave hold it with the next event, once its effect is made.
use Rattle.std.proofs.Common.{◌≡◌, ℕ, suc, ◌+◌, ◌-◌, ◌≤◌, Bool, true, false, ◌||◌, ◌==◌, cond, List, [], ◌∷◌, ◌++◌, length, map, Option, Some, None, refl, sym, ap, ◌∙◌, subst, arith, length-append}
use Rattle.std.specs.Prelude.{IfSome, option_map, filter, nat_lt, IsPermutation}
use Rattle.std.specs.Option.{option_or}
use Rattle.std.specs.List.{list_any}
use Rattle.std.proofs.lemmas.Bool.Decides.{nat_tests}
use Rattle.std.proofs.lemmas.List.{append-nil, length-map}
use Rattle.std.proofs.lemmas.List.Sorted.{IsPermutation-sym, IsPermutation-trans, IsPermutation-map, IsPermutation-refl, length_permutation}
use Rattle.chat_model.specs.declared.event.Stamped.{Stamped}
use Rattle.chat_model.specs.declared.event.Event.TheVariants.{MailTurn}
use Rattle.chat_model.specs.declared.ids.DealNo.{DealNo}
use Rattle.chat_model.specs.declared.ids.MessageId.{MessageId}
use Rattle.chat_model.specs.declared.ids.UserId.{UserId}
use Rattle.notice_ledger.specs.Past.Values.{settings}
use Rattle.notice_ledger.specs.Past.Owed.{Notice, readies, is_mail_turn_of}
use Rattle.notice_ledger.proofs.Queued.{kept}
use Rattle.notice_ledger.specs.Past.Due.{batch_rows, due}
use Rattle.notice_ledger.specs.Past.Journal.{last_stamp}
use Rattle.notice_ledger.proofs.DueAfter.{is_readied, readied, readied-none, batch_rows-grown, batch_rows-turn, due-readied, due-moved, due-left, due-turn, due-above, due-below}
use Rattle.notice_ledger.proofs.Stamps.{AreStamped}
use Rattle.mail_batches.specs.Batches.{Waiting as Batches, due_of, rows_of, settled}
use Rattle.book_tables.specs.declared.preferences.Preference.{Preference}
use Rattle.book_tables.specs.declared.prepared.Effect.{Effect}
use Rattle.book_tables.specs.declared.prepared.Effect.TheVariants as effect
use Rattle.book_tables.specs.declared.tables.Waiting.{Waiting}
use Rattle.book_tables.specs.Batched.{HasRows, due_grown, AreReadied, BatchesAfter}
use Rattle.book_tables.specs.Tables.{HoldBatches}
use Rattle.book_tables.proofs.BatchLooks.{due-shifted, rows-shifted, due-settled, rows-settled}
use Rattle.book_tables.proofs.Kept.{all_kept, messages-kept}

-- ---- lists

none-passes : {X : Type 0} (p : X → Bool) (xs : List X) → list_any p xs ≡ false → filter p xs ≡ []
none-passes p [] h = refl
none-passes p (x ∷ xs) h = by (p x) (none-passes p xs) h
  where
    by : (b : Bool) → (list_any p xs ≡ false → filter p xs ≡ []) → (b || list_any p xs) ≡ false → cond b (x ∷ filter p xs) (filter p xs) ≡ []
    by true rest h = absurd (cc)
    by false rest h = rest h

-- some pass where there are more with those that pass
any-counted : {X : Type 0} (p : X → Bool) (n : ℕ) (xs : List X) → nat_lt n (n + length (filter p xs)) ≡ list_any p xs
any-counted p n [] = no_more n
  where
    no_more : (n : ℕ) → nat_lt n (n + 0) ≡ false
    no_more n = grind (arith, nat_tests)
any-counted p n (x ∷ xs) = by (p x) (any-counted p n xs)
  where
    more : (n k : ℕ) → nat_lt n (n + suc k) ≡ true
    more n k = grind (arith, nat_tests)

    by : (b : Bool) → nat_lt n (n + length (filter p xs)) ≡ list_any p xs → nat_lt n (n + length (cond b (x ∷ filter p xs) (filter p xs))) ≡ (b || list_any p xs)
    by true rest = more n (length (filter p xs))
    by false rest = rest

module _ (j : List Stamped) (s : Stamped) where
  -- the rows stay where none becomes ready
  rows_left : (u : UserId) → is_mail_turn_of u s.event ≡ false → list_any (is_readied j s u) (kept j) ≡ false → IsPermutation (batch_rows (j ++ s ∷ []) u) (batch_rows j u)
  rows_left u never nothing =
      IsPermutation-sym (batch_rows j u) (batch_rows (j ++ s ∷ []) u)
      (subst (λ (ns : List Notice). IsPermutation ns (batch_rows (j ++ s ∷ []) u)) (ap (λ ns. batch_rows j u ++ ns) (none-passes (is_readied j s u) (kept j) nothing) ∙ append-nil (batch_rows j u))
      (batch_rows-grown j s u never))

  held_left : (b : Batches) (u : UserId) → is_mail_turn_of u s.event ≡ false → list_any (is_readied j s u) (kept j) ≡ false → IsPermutation (map (λ n. n.number) (batch_rows j u)) (rows_of b u) → IsPermutation (map (λ n. n.number) (batch_rows (j ++ s ∷ []) u)) (rows_of b u)
  held_left b u never nothing rows =
      IsPermutation-trans (map (λ n. n.number) (batch_rows (j ++ s ∷ []) u)) (map (λ n. n.number) (batch_rows j u)) (rows_of b u)
      (IsPermutation-map (λ (n : Notice). n.number) (batch_rows (j ++ s ∷ []) u) (batch_rows j u) (rows_left u never nothing)) rows

  -- the number of rows grows where one becomes ready
  grown : (u : UserId) → is_mail_turn_of u s.event ≡ false → nat_lt (length (batch_rows j u)) (length (batch_rows (j ++ s ∷ []) u)) ≡ list_any (is_readied j s u) (kept j)
  grown u never =
      ap (nat_lt (length (batch_rows j u))) (length_permutation (batch_rows j u ++ readied j s u) (batch_rows (j ++ s ∷ []) u) (batch_rows-grown j s u never) ∙ length-append (batch_rows j u) (readied j s u))
      ∙ any-counted (is_readied j s u) (length (batch_rows j u)) (kept j)

-- how many rows a user has
pub many_rows : (b : Batches) (j : List Stamped) → HoldBatches b j → (u : UserId) → length (rows_of b u) ≡ length (batch_rows j u)
many_rows b j held u = length_permutation (map (λ n. n.number) (batch_rows j u)) (rows_of b u) (held.rows u) ∙ length-map (batch_rows j u) (λ n. n.number)

-- what an effect has to make of the batches, with the periods before and after it, and the notices after it
pub record BatchesAgree (j : List Stamped) (s : Stamped) (e : Effect) : Type 0 where
  pub after : (p q : UserId → ℕ) (ws : List Waiting) (old new : Batches) → ((u : UserId) → p u ≡ (settings j u).period) → ((u : UserId) → q u ≡ (settings (j ++ s ∷ []) u).period) → ws ≡ all_kept (j ++ s ∷ [])
      → HoldBatches old j → BatchesAfter p q ws s.at e old new → HoldBatches new (j ++ s ∷ [])

module _ (j : List Stamped) (s : Stamped) (e : Effect) where
  -- an event that is no mail turn, makes nothing ready and changes no period
  pub batches_left : ((u : UserId) → is_mail_turn_of u s.event ≡ false) → ((u : UserId) (k : DealNo) (online : Bool) → readies u k online s.event ≡ false) → ((u : UserId) → (settings (j ++ s ∷ []) u).period ≡ (settings j u).period)
      → ((p q : UserId → ℕ) (ws : List Waiting) (old new : Batches) → BatchesAfter p q ws s.at e old new → new ≡ old) → BatchesAgree j s e
  batches_left never not_ready same stays = record {
    after = λ p q ws old new before after same_list held made. subst (λ (b : Batches). HoldBatches b (j ++ s ∷ [])) (sym (stays p q ws old new made)) (record {
      rows = λ u. held_left j s old u (never u) (readied-none j s u (not_ready u)) (held.rows u);
      due = λ u. held.due u ∙ sym (due-left j s u (never u) (same u) (readied-none j s u (not_ready u)));
    });
  }

  -- an event that makes notices ready
  pub batches_readied : ((u : UserId) → is_mail_turn_of u s.event ≡ false) → ((u : UserId) → (settings (j ++ s ∷ []) u).period ≡ (settings j u).period)
      → ((p q : UserId → ℕ) (ws : List Waiting) (old new : Batches) → BatchesAfter p q ws s.at e old new → AreReadied p s.at ws old new) → BatchesAgree j s e
  batches_readied never same readies_some = record {
    after = λ p q ws old new before after same_list held made.
        let readied = readies_some p q ws old new made in
        let rows : (u : UserId) → IsPermutation (map (λ n. n.number) (batch_rows (j ++ s ∷ []) u)) (rows_of new u) =
        λ u. subst (λ (ms : List MessageId). IsPermutation ms (rows_of new u)) (messages-kept u (j ++ s ∷ [])) (subst (λ (vs : List Waiting). HasRows vs new) same_list readied.rows u) in
        record {
          rows = rows;
          due = λ u.
              let old_many = many_rows old j held u in
              let new_many : length (rows_of new u) ≡ length (batch_rows (j ++ s ∷ []) u) =
              length_permutation (map (λ n. n.number) (batch_rows (j ++ s ∷ []) u)) (rows_of new u) (rows u) ∙ length-map (batch_rows (j ++ s ∷ []) u) (λ n. n.number) in
              readied.due u
              ∙ ((λ i. due_grown (s.at + before u i) (nat_lt (old_many i) (new_many i)) (held.due u i))
              ∙ (ap (λ t. due_grown (s.at + (settings j u).period) t (due j u)) (grown j s u (never u))
              ∙ (either (s.at + (settings j u).period) (due j u) (list_any (is_readied j s u) (kept j)) ∙ sym (due-readied j s u (never u) (same u)))));
        };
  }
    where
      either : (x : ℕ) (o : Option ℕ) (t : Bool) → due_grown x t o ≡ option_or o (cond t (Some x) None)
      either x o true = refl
      either x o false = refl

-- a change of what a user prefers moves the user's due moment
pub batches_changed : (j : List Stamped) (s : Stamped) (v : UserId) (change : Preference) → ((u : UserId) → is_mail_turn_of u s.event ≡ false) → ((u : UserId) (k : DealNo) (online : Bool) → readies u k online s.event ≡ false)
    → ((u : UserId) → (v.0 == u.0) ≡ false → (settings (j ++ s ∷ []) u).period ≡ (settings j u).period) → BatchesAgree j s (effect.Preference v change)
batches_changed j s v change never not_ready others = record {
  after = λ p q ws old new before after same_list held made. subst (λ (b : Batches). HoldBatches b (j ++ s ∷ [])) (sym made) (record {
    rows = λ u.
        subst (IsPermutation (map (λ n. n.number) (batch_rows (j ++ s ∷ []) u))) (sym (rows-shifted old v (p v) (q v) u))
        (held_left j s old u (never u) (readied-none j s u (not_ready u)) (held.rows u));
    due = λ u.
        due-shifted old v (p v) (q v) u
        ∙ (due_so p q old held before after u (v.0 == u.0) refl ∙ sym (due-moved j s u (never u) (readied-none j s u (not_ready u))));
  });
}
  where
    same_user : (u : UserId) → (v.0 == u.0) ≡ true → v ≡ u
    same_user u e = ap (λ n. let w : UserId = record { 0 = n } in w) (number v.0 u.0 e)
      where
        number : (a b : ℕ) → (a == b) ≡ true → a ≡ b
        number a b h = grind (arith, nat_tests)

    back : (old new : ℕ) (o : Option ℕ) → new ≡ old → ((d : ℕ) → o ≡ Some d → old ≤ d) → o ≡ option_map (λ d. d - old + new) o
    back old new None same above = refl
    back old new (Some d) same above = let le = above d refl in ap Some (omega (arith, same, le))

    due_so : (p q : UserId → ℕ) (old : Batches) → HoldBatches old j → ((u : UserId) → p u ≡ (settings j u).period) → ((u : UserId) → q u ≡ (settings (j ++ s ∷ []) u).period)
        → (u : UserId) (t : Bool) → (v.0 == u.0) ≡ t → cond t (option_map (λ d. d - p v + q v) (due_of old v)) (due_of old u) ≡ option_map (λ d. d - (settings j u).period + (settings (j ++ s ∷ []) u).period) (due j u)
    due_so p q old held before after u true e =
        ap (λ (w : UserId). option_map (λ d. d - p w + q w) (due_of old w)) (same_user u e)
        ∙ (λ i. option_map (λ d. d - before u i + after u i) (held.due u i))
    due_so p q old held before after u false e = held.due u ∙ back (settings j u).period (settings (j ++ s ∷ []) u).period (due j u) (others u e) (λ d h. due-above j u d h)

-- a mail turn takes the user's rows
module _ (j : List Stamped) (at : ℕ) (v : UserId) where
  abbrev turned : Stamped
  turned = record { at = at; event = MailTurn v }

  no_one : (u : UserId) (k : DealNo) (online : Bool) → readies u k online (MailTurn v) ≡ false
  no_one u k true = refl
  no_one u k false = refl

  rows_so : (old : Batches) → HoldBatches old j → (u : UserId) (t : Bool) → (v.0 == u.0) ≡ t → IsPermutation (map (λ n. n.number) (batch_rows (j ++ turned ∷ []) u)) (cond t [] (rows_of old u))
  rows_so old held u true e = subst (λ (ns : List Notice). IsPermutation (map (λ n. n.number) ns) []) (sym (batch_rows-turn j turned u e)) (IsPermutation-refl [])
  rows_so old held u false e = held_left j turned old u e (readied-none j turned u (no_one u)) (held.rows u)

  due_so : (old : Batches) → HoldBatches old j → ((u : UserId) → (settings (j ++ turned ∷ []) u).period ≡ (settings j u).period) → (u : UserId) (t : Bool) → (v.0 == u.0) ≡ t → cond t None (due_of old u) ≡ due (j ++ turned ∷ []) u
  due_so old held same u true e = sym (due-turn j turned u e)
  due_so old held same u false e = held.due u ∙ sym (due-left j turned u e (same u) (readied-none j turned u (no_one u)))

  pub batches_settled : (e : Effect) → ((p q : UserId → ℕ) (ws : List Waiting) (old new : Batches) → BatchesAfter p q ws at e old new → new ≡ settled old v)
      → ((u : UserId) → (settings (j ++ record { at = at; event = MailTurn v } ∷ []) u).period ≡ (settings j u).period) → BatchesAgree j (record { at = at; event = MailTurn v }) e
  batches_settled e settles same = record {
    after = λ p q ws old new before after same_list held made. subst (λ (b : Batches). HoldBatches b (j ++ turned ∷ [])) (sym (settles p q ws old new made)) (record {
      rows = λ u. subst (IsPermutation (map (λ n. n.number) (batch_rows (j ++ turned ∷ []) u))) (sym (rows-settled old v u)) (rows_so old held u (v.0 == u.0) refl);
      due = λ u. due-settled old v u ∙ due_so old held same u (v.0 == u.0) refl;
    });
  }

-- ---- within what a due moment lies

-- a user is due no earlier than the period, and no later than a period after the last stamp
pub held_due : (b : Batches) (j : List Stamped) → HoldBatches b j → AreStamped j → (u : UserId) → IfSome (due_of b u) (λ d. ((settings j u).period ≤ d) × (d ≤ last_stamp j + (settings j u).period))
held_due b j held stamped u = subst (λ (o : Option ℕ). IfSome o (λ d. ((settings j u).period ≤ d) × (d ≤ last_stamp j + (settings j u).period))) (sym (held.due u)) (by (due j u) refl)
  where
    by : (o : Option ℕ) → due j u ≡ o → IfSome o (λ d. ((settings j u).period ≤ d) × (d ≤ last_stamp j + (settings j u).period))
    by None e = tt
    by (Some d) e = (due-above j u d e, due-below j u d stamped e)
