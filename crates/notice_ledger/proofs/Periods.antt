-- After lawful events no user's period is longer than the longest: a request that sets a longer one is refused.
use Rattle.std.proofs.Common.{◌≡◌, ℕ, ◌≤◌, Bool, true, false, ◌||◌, ◌==◌, List, [], ◌∷◌, refl, subst, arith}
use Rattle.std.specs.Prelude.{Option, Some, None, is_none, nat_lt, nat_le, not, if◌then◌else◌}
use Rattle.std.specs.Option.{option_map_or}
use Rattle.std.proofs.lemmas.Bool.{and_parts}
use Rattle.std.proofs.lemmas.Bool.Decides.{nat_tests}
use Rattle.chat_model.specs.declared.event.Event.{Event}
use Rattle.chat_model.specs.declared.event.Event.TheVariants.{Asked}
use Rattle.chat_model.specs.declared.event.Stamped.{Stamped}
use Rattle.chat_model.specs.declared.ids.UserId.{UserId}
use Rattle.chat_model.specs.declared.request.Request.TheVariants.{Set}
use Rattle.chat_model.specs.declared.request.Refusal.TheVariants.{NoUser, BadPeriod}
use Rattle.chat_model.specs.declared.settings.Settings.{Settings}
use Rattle.chat_model.specs.declared.settings.SettingChange.{SettingChange}
use Rattle.chat_model.specs.declared.settings.SettingChange.TheVariants.{Period}
use Rattle.chat_model.specs.Settings.{changed_settings}
use Rattle.notice_ledger.specs.Limits.{shortest_period, longest_period}
use Rattle.notice_ledger.specs.Past.Journal.{last_stamp}
use Rattle.notice_ledger.specs.Past.Values.{is_user, setting_change, settings}
use Rattle.notice_ledger.specs.Past.Refusals.{is_bad_period, first_broken, rule, refusal}
use Rattle.notice_ledger.specs.InOrder.{is_in_order}
use Rattle.notice_ledger.specs.Past.Lawful as past
use Rattle.notice_ledger.specs.Lawful.{lawful}
use Rattle.notice_ledger.proofs.SettingLemmas.{settings-nil, settings-append}
use Rattle.notice_ledger.proofs.LawfulLemmas.{lawful-by_steps}

-- what the event sets is within the bounds
abbrev SetsWithin : UserId → Event → Type 0
SetsWithin u e = (change : SettingChange) → setting_change u e ≡ Some change → is_bad_period change ≡ false

-- a request that is not refused sets nothing outside
unrefused-within : (a b : Bool) → is_none (first_broken (rule a NoUser ∷ rule b BadPeriod ∷ [])) ≡ true → b ≡ false
unrefused-within true b h = absurd (cc)
unrefused-within false true h = absurd (cc)
unrefused-within false false h = refl

set-within : (k : List Stamped) (user : UserId) (change : SettingChange) → is_none (refusal k (Set user change)) ≡ true → is_bad_period change ≡ false
unfolding refusal
set-within k user change h = unrefused-within (not (is_user k user)) (is_bad_period change) h

-- an event that may stand sets nothing outside
standing-within : (k : List Stamped) (at : ℕ) (u : UserId) (e : Event) → past.may_stand k at e ≡ true → SetsWithin u e
standing-within k at u (Asked (Set user change)) may set is =
    let parts = and_parts (is_none (refusal k (Set user change))) (is_in_order (Set user change)) may in
    by (user.0 == u.0) (set-within k user change parts.0) is
  where
    by : (b : Bool) → is_bad_period change ≡ false → (if b then Some change else None) ≡ Some set → is_bad_period set ≡ false
    by true within e = let same : change ≡ set = cc in subst (λ c. is_bad_period c ≡ false) same within
    by false within e = absurd (cc)
standing-within k at u _ may set is = absurd (cc)

-- a period within the bounds stays so by a change that sets none outside
changed-bounded : (change : SettingChange) (s : Settings) → is_bad_period change ≡ false → s.period ≤ longest_period → (changed_settings change s).period ≤ longest_period
changed-bounded (Period seconds) s h le = below seconds h
  where
    below : (n : ℕ) → (nat_lt n shortest_period || nat_lt longest_period n) ≡ false → n ≤ longest_period
    below n h = grind (arith, nat_tests)
changed-bounded _ s h le = le

-- after lawful events each period is at most the longest
pub period-bounded : (j : List Stamped) (u : UserId) → (settings (lawful j) u).period ≤ longest_period
period-bounded j u =
    lawful-by_steps (λ k. (settings k u).period ≤ longest_period) (rw (settings-nil u) (omega arith)) (λ k s le next.
    let parts = and_parts (nat_le (last_stamp k) s.at) (past.may_stand k s.at s.event) next in
    rw (settings-append k s u) (by (settings k u) (setting_change u s.event) le (standing-within k s.at u s.event parts.1))) j
  where
    by : (before : Settings) (o : Option SettingChange) → before.period ≤ longest_period → ((change : SettingChange) → o ≡ Some change → is_bad_period change ≡ false)
        → (option_map_or (λ c. changed_settings c before) o before).period ≤ longest_period
    by before None le within = le
    by before (Some change) le within = changed-bounded change before (within change refl) le
