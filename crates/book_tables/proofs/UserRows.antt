-- The rows of the users at a key, before and after an event.
use Rattle.std.proofs.Common.{◌≡◌, ℕ, zero, suc, ◌+◌, ◌<◌, Bool, true, false, ◌==◌, cond, List, [], ◌∷◌, ◌++◌, Option, Some, None, length, map, refl, sym, ap, ◌∙◌, arith, ⊎_elim, add-zero}
use Rattle.std.specs.Prelude.{option_map, option_to_list, slice_get, if◌then◌else◌}
use Rattle.std.specs.Option.{option_map_or}
use Rattle.std.specs.Ordering.{is_eq}
use Rattle.std.proofs.lemmas.List.{append-nil}
use Rattle.std.proofs.lemmas.Bool.{ne_eqb}
use Rattle.std.proofs.lemmas.Bool.Decides.{eqb_tells}
use Rattle.chat_model.specs.declared.event.Stamped.{Stamped}
use Rattle.chat_model.specs.declared.event.Event.{Event}
use Rattle.chat_model.specs.declared.event.Event.TheVariants.{Restart, Asked, Absorbed, MailTurn, PushTurn}
use Rattle.chat_model.specs.declared.request.Request.TheVariants.{AddUser, AddGroup, Member, AddChannel, Subscribe, Set, SetChannel, SetPolicy, Mute, Send, Direct, Delete, Read}
use Rattle.chat_model.specs.declared.ids.UserId.{UserId}
use Rattle.chat_model.specs.declared.row.Row.{Row}
use Rattle.chat_model.specs.declared.row.Row.TheVariants as row
use Rattle.chat_model.specs.declared.row.RowKey.{RowKey}
use Rattle.chat_model.specs.declared.row.RowKey.TheVariants as key
use Rattle.chat_model.specs.declared.row.RowChange.TheVariants.{Put}
use Rattle.chat_model.specs.declared.settings.Settings.{Settings}
use Rattle.chat_model.specs.declared.settings.SettingChange.{SettingChange}
use Rattle.chat_model.specs.Rows.{key_cmp}
use Rattle.chat_model.specs.Settings.{changed_settings}
use Rattle.chat_model.proofs.Keys.{same_key, key_cmp_itself}
use Rattle.chat_model.proofs.Rows.{row_after_all}
use Rattle.notice_ledger.specs.Past.Values.{numbered, Person, person, person_of, people, settings, setting_change}
use Rattle.notice_ledger.specs.Past.Rows.{user_rows_from}
use Rattle.notice_ledger.proofs.Appended.{people-append}
use Rattle.notice_ledger.proofs.RowKeys.{equal_from}
use Rattle.notice_ledger.proofs.SettingLemmas.{settings-append}
use Rattle.book_tables.proofs.NewRows.{new_user_rows}

user_number : RowKey → ℕ
user_number (key.User u) = u.0
user_number _ = 0

-- the keys of two users are the same where their numbers are
key_tells : (a b : UserId) → is_eq (key_cmp (key.User a) (key.User b)) ≡ (a.0 == b.0)
unfolding user_number
key_tells a b =
    ⊎_elim
    (λ h. ap is_eq (ap (λ (n : ℕ). key_cmp (key.User (record { 0 = n })) (key.User b)) h.1 ∙ key_cmp_itself (key.User b)) ∙ sym h.0)
    (λ h. elim (is_eq (key_cmp (key.User a) (key.User b))) as (λ t. is_eq (key_cmp (key.User a) (key.User b)) ≡ t → t ≡ (a.0 == b.0)) [
      | true ↦ λ e. absurd (h.1 (ap user_number (same_key (key.User a) (key.User b) (equal_from (key_cmp (key.User a) (key.User b)) e))))
      | false ↦ λ e. sym h.0
    ] refl)
    (eqb_tells a.0 b.0)

-- the last of these people with the number, or this one
abbrev last_at : ℕ → ℕ → List Person → Option Person → Option Person
last_at m n [] o = o
last_at m n (p ∷ ps) o = last_at m (n + 1) ps (cond (n == m) (Some p) o)

abbrev row_of : List Stamped → UserId → Person → Row
row_of j u p = row.User u p.name p.bot (settings j u)

-- a user's row among all
rows-at : (j : List Stamped) (u : UserId) (n : ℕ) (ps : List Person) (o : Option Person) → row_after_all (key.User u) (map Put (user_rows_from j n ps)) (option_map (row_of j u) o) ≡ option_map (row_of j u) (last_at u.0 n ps o)
rows-at j u n [] o = refl
rows-at j u n (p ∷ ps) o =
    ap (row_after_all (key.User u) (map Put (user_rows_from j (n + 1) ps)))
    (ap (λ b. cond b (Some (row_of j (record { 0 = n }) p)) (option_map (row_of j u) o)) (key_tells (record { 0 = n }) u)
    ∙ ⊎_elim
    (λ h. ap (λ b. cond b (Some (row_of j (record { 0 = n }) p)) (option_map (row_of j u) o)) h.0
    ∙ (ap (λ (k : ℕ). Some (row_of j (record { 0 = k }) p)) h.1 ∙ ap (λ b. option_map (row_of j u) (cond b (Some p) o)) (sym h.0)))
    (λ h. ap (λ b. cond b (Some (row_of j (record { 0 = n }) p)) (option_map (row_of j u) o)) h.0 ∙ ap (λ b. option_map (row_of j u) (cond b (Some p) o)) (sym h.0))
    (eqb_tells n u.0))
    ∙ rows-at j u (n + 1) ps (cond (n == u.0) (Some p) o)

last_at-append : (m n : ℕ) (ps : List Person) (p : Person) (o : Option Person) → last_at m n (ps ++ p ∷ []) o ≡ cond ((n + length ps) == m) (Some p) (last_at m n ps o)
last_at-append m n [] p o = ap (λ k. cond (k == m) (Some p) o) (sym (add-zero n))
last_at-append m n (q ∷ ps) p o =
    let e : (n + 1) + length ps ≡ n + length (q ∷ ps) = omega arith in
    last_at-append m (n + 1) ps p (cond (n == m) (Some q) o) ∙ ap (λ k. cond (k == m) (Some p) (last_at m (n + 1) ps (cond (n == m) (Some q) o))) e

last_at-below : (m n : ℕ) (ps : List Person) (o : Option Person) → m < n → last_at m n ps o ≡ o
last_at-below m n [] o lt = refl
last_at-below m n (p ∷ ps) o lt =
    last_at-below m (n + 1) ps (cond (n == m) (Some p) o) (omega arith) ∙ ap (λ b. cond b (Some p) o) (ne_eqb n m (λ e. omega arith))

last_at-from : (n k : ℕ) (ps : List Person) → last_at (n + k) n ps None ≡ slice_get ps k
last_at-from n k [] = refl
last_at-from n zero (p ∷ ps) =
    ap (λ b. last_at (n + 0) (n + 1) ps (cond b (Some p) None)) (ap (λ m. n == m) (add-zero n) ∙ itself n)
    ∙ last_at-below (n + 0) (n + 1) ps (Some p) (omega arith)
  where
    itself : (n : ℕ) → (n == n) ≡ true
    itself n = ⊎_elim (λ h. h.0) (λ h. absurd (h.1 refl)) (eqb_tells n n)
last_at-from n (suc k) (p ∷ ps) =
    let next : (n + 1) + k ≡ n + suc k = omega arith in
    ap (λ b. last_at (n + suc k) (n + 1) ps (cond b (Some p) None)) (ne_eqb n (n + suc k) (λ e. omega arith))
    ∙ (ap (λ m. last_at m (n + 1) ps None) (sym next) ∙ last_at-from (n + 1) k ps)

-- the person of a number is the last one with it
last_at-numbered : (m : ℕ) (ps : List Person) → last_at m 1 ps None ≡ numbered m ps
last_at-numbered zero ps = last_at-below 0 1 ps None (omega arith)
last_at-numbered (suc k) ps =
    let e : suc k ≡ 1 + k = omega arith in ap (λ m. last_at m 1 ps None) e ∙ last_at-from 1 k ps

user_row : (j : List Stamped) (u : UserId) → row_after_all (key.User u) (map Put (user_rows_from j 1 (people j))) None ≡ option_map (row_of j u) (person j u)
user_row j u = rows-at j u 1 (people j) None ∙ ap (option_map (row_of j u)) (last_at-numbered u.0 (people j))

module _ (j : List Stamped) (s : Stamped) (u : UserId) where
  -- the user's row before the event and after it
  abbrev before : Option Row
  before = row_after_all (key.User u) (map Put (user_rows_from j 1 (people j))) None

  abbrev after : Option Row
  after = row_after_all (key.User u) (map Put (user_rows_from (j ++ s ∷ []) 1 (people (j ++ s ∷ [])))) None

  same_settings : setting_change u s.event ≡ None → settings (j ++ s ∷ []) u ≡ settings j u
  same_settings e = settings-append j s u ∙ ap (λ o. option_map_or (λ d. changed_settings d (settings j u)) o (settings j u)) e

  abbrev row_with : Settings → Person → Row
  row_with t p = row.User u p.name p.bot t

  left : person_of s.event ≡ None → setting_change u s.event ≡ None → after ≡ before
  left nobody nothing =
      user_row (j ++ s ∷ []) u
      ∙ (ap (λ ps. option_map (row_of (j ++ s ∷ []) u) (numbered u.0 ps)) (people-append j s ∙ (ap (λ o. people j ++ option_to_list o) nobody ∙ append-nil (people j)))
      ∙ (ap (λ t. option_map (row_with t) (person j u)) (same_settings nothing) ∙ sym (user_row j u)))

  added : (name : List ℕ) (bot : Bool) → person_of s.event ≡ Some (record { name = name; bot = bot }) → setting_change u s.event ≡ None
      → after ≡ row_after_all (key.User u) (map Put (row.User (record { 0 = length (people j) + 1 }) name bot (settings j (record { 0 = length (people j) + 1 })) ∷ [])) before
  added name bot someone nothing =
      let p : Person = record { name = name; bot = bot } in
      let k = length (people j) + 1 in
      let id : UserId = record { 0 = k } in
      let e : 1 + length (people j) ≡ k = omega arith in
      rows-at (j ++ s ∷ []) u 1 (people (j ++ s ∷ [])) None
      ∙ (ap (λ ps. option_map (row_of (j ++ s ∷ []) u) (last_at u.0 1 ps None)) (people-append j s ∙ ap (λ o. people j ++ option_to_list o) someone)
      ∙ (ap (option_map (row_of (j ++ s ∷ []) u)) (last_at-append u.0 1 (people j) p None ∙ (ap (λ n. cond (n == u.0) (Some p) (last_at u.0 1 (people j) None)) e ∙ ap (cond (k == u.0) (Some p)) (last_at-numbered u.0 (people j))))
      ∙ (ap (λ t. option_map (row_with t) (cond (k == u.0) (Some p) (person j u))) (same_settings nothing)
      ∙ (⊎_elim
      (λ h. ap (λ b. option_map (row_of j u) (cond b (Some p) (person j u))) h.0 ∙ (ap (λ (n : ℕ). Some (row_of j (record { 0 = n }) p)) (sym h.1) ∙ ap (λ b. cond b (Some (row_of j id p)) before) (sym h.0)))
      (λ h. ap (λ b. option_map (row_of j u) (cond b (Some p) (person j u))) h.0 ∙ (sym (user_row j u) ∙ ap (λ b. cond b (Some (row_of j id p)) before) (sym h.0)))
      (eqb_tells k u.0)
      ∙ ap (λ b. cond b (Some (row_of j id p)) before) (sym (key_tells id u))))))

  set : (v : UserId) (change : SettingChange) → person_of s.event ≡ None → setting_change u s.event ≡ (if v.0 == u.0 then Some change else None)
      → after ≡ row_after_all (key.User u) (map Put (option_to_list (option_map (λ (p : Person). row.User v p.name p.bot (changed_settings change (settings j v))) (person j v)))) before
  set v change nobody something =
      user_row (j ++ s ∷ []) u
      ∙ (ap (λ ps. option_map (row_of (j ++ s ∷ []) u) (numbered u.0 ps)) (people-append j s ∙ (ap (λ o. people j ++ option_to_list o) nobody ∙ append-nil (people j)))
      ∙ (ap (λ t. option_map (row_with t) (person j u)) (settings-append j s u ∙ ap (λ o. option_map_or (λ d. changed_settings d (settings j u)) o (settings j u)) something)
      ∙ ⊎_elim
      (λ h. ap (λ b. option_map (row_with (option_map_or (λ d. changed_settings d (settings j u)) (if b then Some change else None) (settings j u))) (person j u)) h.0
      ∙ (here (person j u) ∙ (ap (λ (o : Option Row). row_after_all (key.User u) (map Put (option_to_list (option_map (row_with (changed_settings change (settings j u))) (person j u)))) o) (sym (user_row j u))
      ∙ ap (λ (n : ℕ). row_after_all (key.User u) (map Put (option_to_list (option_map (λ (p : Person). row.User (record { 0 = n }) p.name p.bot (changed_settings change (settings j (record { 0 = n })))) (person j (record { 0 = n }))))) before) (sym h.1))))
      (λ h. ap (λ b. option_map (row_with (option_map_or (λ d. changed_settings d (settings j u)) (if b then Some change else None) (settings j u))) (person j u)) h.0
      ∙ (sym (user_row j u) ∙ elsewhere h.0 (person j v)))
      (eqb_tells v.0 u.0)))
    where
      itself : (n : ℕ) → (n == n) ≡ true
      itself n = ⊎_elim (λ h. h.0) (λ h. absurd (h.1 refl)) (eqb_tells n n)

      here : (o : Option Person) → option_map (λ (p : Person). row.User u p.name p.bot (changed_settings change (settings j u))) o ≡ row_after_all (key.User u) (map Put (option_to_list (option_map (λ (p : Person). row.User u p.name p.bot (changed_settings change (settings j u))) o))) (option_map (row_of j u) o)
      here None = refl
      here (Some p) = ap (λ b. cond b (Some (row.User u p.name p.bot (changed_settings change (settings j u)))) (Some (row_of j u p))) (sym (key_tells u u ∙ itself u.0))

      elsewhere : (v.0 == u.0) ≡ false → (o : Option Person) → row_after_all (key.User u) (map Put (user_rows_from j 1 (people j))) None ≡ row_after_all (key.User u) (map Put (option_to_list (option_map (λ (p : Person). row.User v p.name p.bot (changed_settings change (settings j v))) o))) (row_after_all (key.User u) (map Put (user_rows_from j 1 (people j))) None)
      elsewhere h None = refl
      elsewhere h (Some p) = ap (λ b. cond b (Some (row.User v p.name p.bot (changed_settings change (settings j v)))) (row_after_all (key.User u) (map Put (user_rows_from j 1 (people j))) None)) (sym (key_tells v u ∙ h))

-- a user's row after an event is the row before it with the event's change
pub users-after : (u : UserId) (j : List Stamped) (s : Stamped) (e : Event) → s.event ≡ e
    → row_after_all (key.User u) (map Put (user_rows_from (j ++ s ∷ []) 1 (people (j ++ s ∷ [])))) None ≡ row_after_all (key.User u) (map Put (new_user_rows j e)) (row_after_all (key.User u) (map Put (user_rows_from j 1 (people j))) None)
users-after u j s Restart is = left j s u (ap person_of is) (ap (setting_change u) is)
users-after u j s (Asked (AddUser name bot)) is = added j s u name bot (ap person_of is) (ap (setting_change u) is)
users-after u j s (Asked (AddGroup name members)) is = left j s u (ap person_of is) (ap (setting_change u) is)
users-after u j s (Asked (Member group user on)) is = left j s u (ap person_of is) (ap (setting_change u) is)
users-after u j s (Asked (AddChannel name)) is = left j s u (ap person_of is) (ap (setting_change u) is)
users-after u j s (Asked (Subscribe user channel on)) is = left j s u (ap person_of is) (ap (setting_change u) is)
users-after u j s (Asked (Set user change)) is = set j s u user change (ap person_of is) (ap (setting_change u) is)
users-after u j s (Asked (SetChannel user channel change)) is = left j s u (ap person_of is) (ap (setting_change u) is)
users-after u j s (Asked (SetPolicy user channel topic policy)) is = left j s u (ap person_of is) (ap (setting_change u) is)
users-after u j s (Asked (Mute user other on)) is = left j s u (ap person_of is) (ap (setting_change u) is)
users-after u j s (Asked (Send sender channel topic text)) is = left j s u (ap person_of is) (ap (setting_change u) is)
users-after u j s (Asked (Direct sender to text)) is = left j s u (ap person_of is) (ap (setting_change u) is)
users-after u j s (Asked (Delete user message)) is = left j s u (ap person_of is) (ap (setting_change u) is)
users-after u j s (Asked (Read user messages)) is = left j s u (ap person_of is) (ap (setting_change u) is)
users-after u j s (Absorbed outcome) is = left j s u (ap person_of is) (ap (setting_change u) is)
users-after u j s (MailTurn user) is = left j s u (ap person_of is) (ap (setting_change u) is)
users-after u j s (PushTurn item) is = left j s u (ap person_of is) (ap (setting_change u) is)
