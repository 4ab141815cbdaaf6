-- What users prefer: after a change of a list, at a number, and at a journal with one more event.
use Rattle.std.proofs.Common.{◌≡◌, ℕ, suc, ◌+◌, Bool, true, false, ◌&&◌, ◌==◌, eqb, cond, List, [], ◌∷◌, ◌++◌, length, map, set, refl, sym, ap, ◌∙◌, subst, arith, ⊎_elim}
use Rattle.std.specs.Prelude.{Option, Some, None, option_map, is_some, unwrap_or, slice_get, if◌then◌else◌}
use Rattle.std.specs.Option.{option_map_or}
use Rattle.std.specs.HashMap.{HashMap, get_by}
use Rattle.std.specs.Str.{str_eq_ignore_ascii_case, str_to_ascii_lowercase}
use Rattle.std.specs.Cmp.Lexicographic.{nat_list_eq_equiv}
use Rattle.std.proofs.lemmas.Bool.{eq-eqb}
use Rattle.std.proofs.lemmas.Bool.Decides.{eqb_tells}
use Rattle.chat_model.specs.declared.event.Stamped.{Stamped}
use Rattle.chat_model.specs.declared.event.Event.TheVariants.{Asked}
use Rattle.chat_model.specs.declared.request.Request.TheVariants.{Set, SetChannel, SetPolicy, Mute}
use Rattle.chat_model.specs.declared.ids.ChannelId.{ChannelId}
use Rattle.chat_model.specs.declared.ids.UserId.{UserId}
use Rattle.chat_model.specs.declared.policy.Policy.{Policy}
use Rattle.chat_model.specs.declared.policy.Policy.TheVariants.{Inherit}
use Rattle.chat_model.specs.declared.policy.Specific.{Specific}
use Rattle.chat_model.specs.declared.policy.SpecificChange.{SpecificChange}
use Rattle.chat_model.specs.declared.settings.SettingChange.{SettingChange}
use Rattle.chat_model.specs.Settings.{changed_settings, default_specific, changed_specific}
use Rattle.notice_ledger.specs.Past.Values.{numbered, settings, setting_change, specific, specific_change, policy, policy_change, has_muted, mute_change}
use Rattle.notice_ledger.proofs.SettingLemmas.{settings-nil, settings-append, specific-nil, specific-append, policy-nil, policy-append, has_muted-nil, has_muted-append}
use Rattle.book_tables.specs.declared.topic_key.TopicKey.{TopicKey}
use Rattle.book_tables.specs.TopicKeys.{same_topic}
use Rattle.book_tables.specs.declared.preferences.Preferences.{Preferences}
use Rattle.book_tables.specs.declared.preferences.Preference.{Preference}
use Rattle.book_tables.specs.declared.preferences.Preference.TheVariants as preference
use Rattle.book_tables.specs.UserSets.{changed_numbered}
use Rattle.book_tables.specs.Preferences.{specific_in, policy_in, Preferred, default_preferred, preferred, preferred_in, preferred_by, preferred_after}
use Rattle.book_tables.proofs.Numbered.{numbered-map}
use Rattle.book_tables.proofs.UserSets.{or-map, numbered-pushed, numbered-changed}

-- ---- settings for a channel, policies for a topic

-- what is found is the same where the look-ups give the same
pub specific-same : {S : Type 0} (old new : HashMap ChannelId Specific S) → ((c : ChannelId) → get_by (λ d. c.0 == d.0) new ≡ get_by (λ d. c.0 == d.0) old) → specific_in new ≡ specific_in old
specific-same old new same = λ i c. unwrap_or (same c i) default_specific

-- the policies for the topics of the channels
abbrev pub policies_in : {S : Type 0} → HashMap TopicKey Policy S → ChannelId → List ℕ → Policy
policies_in kept c topic = policy_in kept (record { channel = c; topic = topic })

pub policy-same : {S : Type 0} (old new : HashMap TopicKey Policy S) → ((key : TopicKey) → get_by (same_topic key) new ≡ get_by (same_topic key) old) → policies_in new ≡ policies_in old
policy-same old new same = λ i c topic. unwrap_or (same (record { channel = c; topic = topic }) i) Inherit

-- the settings for each channel after a change of one channel's
pub specific-changed : {S : Type 0} (old new : HashMap ChannelId Specific S) (c : ChannelId) (change : SpecificChange) → ((d : ChannelId) → get_by (λ e. d.0 == e.0) new ≡ cond (c.0 == d.0) (Some (changed_specific change (specific_in old c))) (get_by (λ e. d.0 == e.0) old))
    → (d : ChannelId) → specific_in new d ≡ (if c.0 == d.0 then changed_specific change (specific_in old d) else specific_in old d)
specific-changed old new c change kept d =
    let reads : Option Specific → Specific = λ o. unwrap_or o default_specific in
    ap reads (kept d)
    ∙ ⊎_elim
    (λ h.
    ap (λ b. reads (cond b (Some (changed_specific change (specific_in old c))) (get_by (λ (e : ChannelId). d.0 == e.0) old))) h.0
    ∙ (ap (λ n. changed_specific change (specific_in old (record { 0 = n }))) h.1 ∙ ap (λ b. if b then changed_specific change (specific_in old d) else specific_in old d) (sym h.0)))
    (λ h.
    ap (λ b. reads (cond b (Some (changed_specific change (specific_in old c))) (get_by (λ (e : ChannelId). d.0 == e.0) old))) h.0 ∙ ap (λ b. if b then changed_specific change (specific_in old d) else specific_in old d) (sym h.0))
    (eqb_tells c.0 d.0)

-- the policy for each topic after one is set
pub policy-changed : {S : Type 0} (old new : HashMap TopicKey Policy S) (set : TopicKey) (policy : Policy) → ((key : TopicKey) → get_by (same_topic key) new ≡ cond (same_topic set key) (Some policy) (get_by (same_topic key) old))
    → (key : TopicKey) → policy_in new key ≡ (if set.channel.0 == key.channel.0 && str_eq_ignore_ascii_case key.topic set.topic then policy else policy_in old key)
policy-changed old new set policy kept key =
    ap (λ o. unwrap_or o Inherit) (kept key)
    ∙ (by (same_topic set key) (get_by (same_topic key) old)
    ∙ ap (λ b. if set.channel.0 == key.channel.0 && b then policy else policy_in old key) (nat_list_eq_equiv.symm (str_to_ascii_lowercase set.topic) (str_to_ascii_lowercase key.topic)))
  where
    by : (b : Bool) (o : Option Policy) → unwrap_or (cond b (Some policy) o) Inherit ≡ (if b then policy else unwrap_or o Inherit)
    by true o = refl
    by false o = refl

-- ---- what the user of a number prefers

-- the one at a number, or what a user prefers who set nothing
abbrev pub at_number : List Preferred → ℕ → Preferred
at_number ps n = option_map_or (λ p. p) (numbered n ps) default_preferred

pub preferred_in-list : (all : List Preferences) (n : ℕ) → preferred_in all n ≡ at_number (map preferred all) n
preferred_in-list all n = sym (ap (λ o. option_map_or (λ (p : Preferred). p) o default_preferred) (numbered-map preferred n all) ∙ or-map (λ (p : Preferred). p) preferred (numbered n all) default_preferred)

pub past_end : {A : Type 0} (xs : List A) → numbered (length xs + 1) xs ≡ None
past_end {A} xs = let e : length xs + 1 ≡ suc (length xs) = omega arith in ap (λ n. numbered n xs) e ∙ from xs
  where
    from : (ys : List A) → slice_get ys (length ys) ≡ None
    from [] = refl
    from (y ∷ ys) = from ys

-- one more who set nothing
pub at_number-added : (ps : List Preferred) (n : ℕ) → at_number (ps ++ default_preferred ∷ []) n ≡ at_number ps n
at_number-added ps n =
    let reads : Option Preferred → Preferred = λ o. option_map_or (λ p. p) o default_preferred in
    ap reads (numbered-pushed ps default_preferred n)
    ∙ ⊎_elim
    (λ h. ap (λ b. reads (cond b (Some default_preferred) (numbered n ps))) h.0 ∙ sym (ap (λ k. reads (numbered k ps)) (sym h.1) ∙ ap reads (past_end ps)))
    (λ h. ap (λ b. reads (cond b (Some default_preferred) (numbered n ps))) h.0)
    (eqb_tells (length ps + 1) n)

-- one who set something
pub at_number-changed : (ps : List Preferred) (m n : ℕ) (f : Preferred → Preferred) → is_some (numbered m ps) ≡ true → at_number (changed_numbered m f ps) n ≡ cond (eqb m n) (f (at_number ps n)) (at_number ps n)
at_number-changed ps m n f there =
    let reads : Option Preferred → Preferred = λ o. option_map_or (λ p. p) o default_preferred in
    ap reads (numbered-changed n m f ps)
    ∙ ⊎_elim
    (λ h.
    ap (λ b. reads (cond b (option_map f (numbered n ps)) (numbered n ps))) h.0
    ∙ (mapped (numbered n ps) (ap (λ k. is_some (numbered k ps)) (sym h.1) ∙ there) ∙ ap (λ b. cond b (f (at_number ps n)) (at_number ps n)) (sym h.0)))
    (λ h. ap (λ b. reads (cond b (option_map f (numbered n ps)) (numbered n ps))) h.0 ∙ ap (λ b. cond b (f (at_number ps n)) (at_number ps n)) (sym h.0))
    (eqb_tells m n)
  where
    mapped : (o : Option Preferred) → is_some o ≡ true → option_map_or (λ (p : Preferred). p) (option_map f o) default_preferred ≡ f (option_map_or (λ (p : Preferred). p) o default_preferred)
    mapped None h = absurd (cc)
    mapped (Some p) h = refl

-- what holds of what one set, before and after a change, holds of what stands at the number then
pub at_number-keeps : (P : Preferred → Type 0) (ps : List Preferred) (m : ℕ) (f : Preferred → Preferred) → P (at_number ps m) → P (f (at_number ps m)) → P (at_number (changed_numbered m f ps) m)
at_number-keeps P ps m f old new =
    let reads : Option Preferred → Preferred = λ o. option_map_or (λ p. p) o default_preferred in
    subst P (sym (ap reads (numbered-changed m m f ps) ∙ ap (λ b. reads (cond b (option_map f (numbered m ps)) (numbered m ps))) (eq-eqb m m refl))) (by (numbered m ps) old new)
  where
    by : (o : Option Preferred) → P (option_map_or (λ (p : Preferred). p) o default_preferred) → P (f (option_map_or (λ (p : Preferred). p) o default_preferred)) → P (option_map_or (λ (p : Preferred). p) (option_map f o) default_preferred)
    by None old new = old
    by (Some p) old new = new

-- ---- the journal

pub preferred_by-nil : (u : UserId) → preferred_by [] u ≡ default_preferred
preferred_by-nil u = λ i. record {
  settings = settings-nil u i;
  muted = λ v. has_muted-nil u v i;
  specific = λ c. specific-nil u c i;
  policy = λ c topic. policy-nil u c topic i;
}

-- an event that sets nothing
pub preferred_by-left : (j : List Stamped) (s : Stamped) (u : UserId) → setting_change u s.event ≡ None → ((c : ChannelId) → specific_change u c s.event ≡ None) → ((c : ChannelId) (topic : List ℕ) → policy_change u c topic s.event ≡ None) → ((v : UserId) → mute_change u v s.event ≡ None)
    → preferred_by (j ++ s ∷ []) u ≡ preferred_by j u
preferred_by-left j s u no_setting no_specific no_policy no_mute = λ i. record {
  settings = (settings-append j s u ∙ ap (λ o. option_map_or (λ d. changed_settings d (settings j u)) o (settings j u)) no_setting) i;
  muted = λ v. (has_muted-append j s u v ∙ ap (λ o. unwrap_or o (has_muted j u v)) (no_mute v)) i;
  specific = λ c. (specific-append j s u c ∙ ap (λ o. option_map_or (λ d. changed_specific d (specific j u c)) o (specific j u c)) (no_specific c)) i;
  policy = λ c topic. (policy-append j s u c topic ∙ ap (λ o. unwrap_or o (policy j u c topic)) (no_policy c topic)) i;
}

-- what each event of a user's preferences leaves for a user
abbrev pub IsPreferredAfter : List Stamped → Stamped → UserId → Preference → Type 0
IsPreferredAfter j s user change = (u : UserId) → preferred_by (j ++ s ∷ []) u ≡ cond (user.0 == u.0) (preferred_after change (preferred_by j u)) (preferred_by j u)

pub after-setting : (j : List Stamped) (at : ℕ) (user : UserId) (change : SettingChange) → IsPreferredAfter j (record { at = at; event = Asked (Set user change) }) user (preference.Setting change)
after-setting j at user change u =
    let s : Stamped = record { at = at; event = Asked (Set user change) } in
    let whole : preferred_by (j ++ s ∷ []) u ≡ changed (user.0 == u.0) = λ i. record {
      settings = settings-append j s u i;
      muted = λ v. has_muted-append j s u v i;
      specific = λ c. specific-append j s u c i;
      policy = λ c topic. policy-append j s u c topic i;
    } in
    whole ∙ by (user.0 == u.0)
  where
    changed : Bool → Preferred
    changed b = record { settings = option_map_or (λ d. changed_settings d (settings j u)) (if b then Some change else None) (settings j u); muted = λ v. has_muted j u v; specific = λ c. specific j u c; policy = λ c topic. policy j u c topic }

    by : (b : Bool) → changed b ≡ cond b (preferred_after (preference.Setting change) (preferred_by j u)) (preferred_by j u)
    by true = refl
    by false = refl

chosen : {A B : Type 0} (f : B → A) (b : Bool) (x : B) (old : A) → option_map_or f (if b then Some x else None) old ≡ (if b then f x else old)
chosen f true x old = refl
chosen f false x old = refl

given : {A : Type 0} (b : Bool) (x old : A) → unwrap_or (if b then Some x else None) old ≡ (if b then x else old)
given true x old = refl
given false x old = refl

pub after-specific : (j : List Stamped) (at : ℕ) (user : UserId) (channel : ChannelId) (change : SpecificChange) → IsPreferredAfter j (record { at = at; event = Asked (SetChannel user channel change) }) user (preference.Specific channel change)
after-specific j at user channel change u =
    let s : Stamped = record { at = at; event = Asked (SetChannel user channel change) } in
    let whole : preferred_by (j ++ s ∷ []) u ≡ changed (user.0 == u.0) = λ i. record {
      settings = settings-append j s u i;
      muted = λ v. has_muted-append j s u v i;
      specific = λ c. specific-append j s u c i;
      policy = λ c topic. policy-append j s u c topic i;
    } in
    whole ∙ by (user.0 == u.0)
  where
    changed : Bool → Preferred
    changed b = record { settings = settings j u; muted = λ v. has_muted j u v; specific = λ c. option_map_or (λ d. changed_specific d (specific j u c)) (if b && channel.0 == c.0 then Some change else None) (specific j u c); policy = λ c topic. policy j u c topic }

    by : (b : Bool) → changed b ≡ cond b (preferred_after (preference.Specific channel change) (preferred_by j u)) (preferred_by j u)
    by true = λ i. record {
      settings = settings j u;
      muted = λ v. has_muted j u v;
      specific = λ c. chosen (λ d. changed_specific d (specific j u c)) (channel.0 == c.0) change (specific j u c) i;
      policy = λ c topic. policy j u c topic;
    }
    by false = refl

pub after-policy : (j : List Stamped) (at : ℕ) (user : UserId) (channel : ChannelId) (topic : List ℕ) (new : Policy) → IsPreferredAfter j (record { at = at; event = Asked (SetPolicy user channel topic new) }) user (preference.Policy channel topic new)
after-policy j at user channel topic new u =
    let s : Stamped = record { at = at; event = Asked (SetPolicy user channel topic new) } in
    let whole : preferred_by (j ++ s ∷ []) u ≡ changed (user.0 == u.0) = λ i. record {
      settings = settings-append j s u i;
      muted = λ v. has_muted-append j s u v i;
      specific = λ c. specific-append j s u c i;
      policy = λ c other. policy-append j s u c other i;
    } in
    whole ∙ by (user.0 == u.0)
  where
    changed : Bool → Preferred
    changed b = record { settings = settings j u; muted = λ v. has_muted j u v; specific = λ c. specific j u c; policy = λ c other. unwrap_or (if b && channel.0 == c.0 && str_eq_ignore_ascii_case other topic then Some new else None) (policy j u c other) }

    by : (b : Bool) → changed b ≡ cond b (preferred_after (preference.Policy channel topic new) (preferred_by j u)) (preferred_by j u)
    by true = λ i. record {
      settings = settings j u;
      muted = λ v. has_muted j u v;
      specific = λ c. specific j u c;
      policy = λ c other. given (channel.0 == c.0 && str_eq_ignore_ascii_case other topic) new (policy j u c other) i;
    }
    by false = refl

pub after-mute : (j : List Stamped) (at : ℕ) (user other : UserId) (on : Bool) → IsPreferredAfter j (record { at = at; event = Asked (Mute user other on) }) user (preference.Mute other on)
after-mute j at user other on u =
    let s : Stamped = record { at = at; event = Asked (Mute user other on) } in
    let whole : preferred_by (j ++ s ∷ []) u ≡ changed (user.0 == u.0) = λ i. record {
      settings = settings-append j s u i;
      muted = λ v. has_muted-append j s u v i;
      specific = λ c. specific-append j s u c i;
      policy = λ c topic. policy-append j s u c topic i;
    } in
    whole ∙ by (user.0 == u.0)
  where
    changed : Bool → Preferred
    changed b = record { settings = settings j u; muted = λ v. unwrap_or (if b && other.0 == v.0 then Some on else None) (has_muted j u v); specific = λ c. specific j u c; policy = λ c topic. policy j u c topic }

    by : (b : Bool) → changed b ≡ cond b (preferred_after (preference.Mute other on) (preferred_by j u)) (preferred_by j u)
    by true = λ i. record {
      settings = settings j u;
      muted = λ v. given (other.0 == v.0) on (has_muted j u v) i;
      specific = λ c. specific j u c;
      policy = λ c topic. policy j u c topic;
    }
    by false = refl
