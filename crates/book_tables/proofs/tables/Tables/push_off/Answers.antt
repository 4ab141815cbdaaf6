use Rattle.std.proofs.Common.{ℕ, Bool, true, false, ◌≡◌, ◌&&◌, not, Some, None, refl, sym, ap, ◌∙◌}
use Rattle.std.specs.Prelude.{Option, is_none, option_and_then, if◌then◌else◌}
use Rattle.std.specs.Option.{option_map_or}
use Rattle.chat_model.specs.declared.event.Stamped.{Stamped}
use Rattle.chat_model.specs.declared.row.Cause.{Cause}
use Rattle.chat_model.specs.declared.row.Cause.TheVariants.{Read, Deleted, SwitchedOff}
use Rattle.chat_model.specs.declared.settings.Settings.{Settings}
use Rattle.chat_model.specs.declared.trigger.Way.TheVariants.{Push}
use Rattle.chat_model.specs.Settings.{push_switch}
use Rattle.push_state.specs.Judged.{judged}
use Rattle.push_state.specs.declared.judging.Judged.TheVariants as outcome
use Rattle.notice_ledger.specs.Lawful.{lawful}
use Rattle.notice_ledger.specs.Past.Audit.{same_cause}
use Rattle.notice_ledger.specs.Past.Journal.{Occurrence}
use Rattle.notice_ledger.specs.Past.Owed.{Notice, bar, bar_cause, cause_of_bar, switch_on}
use Rattle.notice_ledger.specs.Past.Values.{settings, reads, deletes}
use Rattle.notice_ledger.proofs.Standing.{unbarred-cause}
use Rattle.book_tables.proofs.NextPush.{hands_so, next_notice, next_is, next_judged}
use Rattle.book_tables.proofs.tables.Tables.push_off.Goals as goal

-- no bar is the switch
abbrev is_off : Option Cause → Bool
is_off o = option_map_or (λ c. same_cause c SwitchedOff) o false

bars_not_off : (n : Notice) (o : Occurrence) → is_off (bar_cause n.user n.number n.way o) ≡ false
unfolding bar_cause
bars_not_off n o = by (reads n.user n.number o.event) (deletes n.number o.event)
  where
    by : (a b : Bool) → is_off (if a then Some Read else if b then Some Deleted else None) ≡ false
    by true b = refl
    by false true = refl
    by false false = refl

not_off : (n : Notice) (o : Option Occurrence) → is_off (option_and_then (bar_cause n.user n.number n.way) o) ≡ false
not_off n None = refl
not_off n (Some o) = bars_not_off n o

-- so many are switched off where a push is judged so
off_handed : (bar : Option Cause) (s : Settings) → judged bar s ≡ outcome.Hand → ◌≡◌ {A = ℕ} 0 (if is_none bar && not (push_switch s) then 1 else 0)
off_handed (Some c) s e = refl
off_handed None s e = ap (λ b. if not b then 1 else 0) (sym (hands_so None s e))

off_dropped : (bar : Option Cause) (s : Settings) (cause : Cause) → is_off bar ≡ false → judged bar s ≡ outcome.Drop cause → ◌≡◌ {A = ℕ} (if same_cause cause SwitchedOff then 1 else 0) (if is_none bar && not (push_switch s) then 1 else 0)
off_dropped (Some other) s cause none e = ap (λ b. if b then 1 else 0) (ap (λ c. same_cause c SwitchedOff) (same cause other e) ∙ none)
  where
    same : (a b : Cause) → ◌≡◌ (outcome.Drop b) (outcome.Drop a) → a ≡ b
    same a b e = cc
off_dropped None s cause none e = by (push_switch s) e
  where
    by : (b : Bool) → (if b then outcome.Hand else outcome.Drop SwitchedOff) ≡ outcome.Drop cause → ◌≡◌ {A = ℕ} (if same_cause cause SwitchedOff then 1 else 0) (if not b then 1 else 0)
    by true e = absurd (cc)
    by false e = let same : cause ≡ SwitchedOff = cc in ap (λ c. if same_cause c SwitchedOff then 1 else 0) same

pub returns-in-Hand : goal.returns-in-Hand
returns-in-Hand c = λ j stands.
    let t = c.args.self.now in let u = c.args.user in let m = c.args.message in let waits = c.requires in let n = next_notice t u m waits j stands in
    let judged_so = sym (next_judged t u m waits j stands c.next_push.result (c.next_push.ensures j stands)) ∙ (sym (c.judge_push.ensures (lawful j) stands) ∙ c.in-Hand.is) in
    off_handed (cause_of_bar (lawful j) n) (settings (lawful j) u) judged_so
    ∙ (ap (λ b. if b && not (switch_on (lawful j) u Push) then 1 else 0) (sym (unbarred-cause (lawful j) n))
    ∙ sym (ap (λ (o : Option Notice). option_map_or (λ k. if is_none (bar (lawful j) k) && not (switch_on (lawful j) u Push) then 1 else 0) o 0) (next_is t u m waits j stands).notice))

pub returns-in-Drop : goal.returns-in-Drop
returns-in-Drop c = λ j stands.
    let t = c.args.self.now in let u = c.args.user in let m = c.args.message in let waits = c.requires in let n = next_notice t u m waits j stands in
    let judged_so = sym (next_judged t u m waits j stands c.next_push.result (c.next_push.ensures j stands)) ∙ (sym (c.judge_push.ensures (lawful j) stands) ∙ c.in-Drop.is) in
    c.off_for.ensures
    ∙ (off_dropped (cause_of_bar (lawful j) n) (settings (lawful j) u) c.in-Drop.cause (not_off n (bar (lawful j) n)) judged_so
    ∙ (ap (λ b. if b && not (switch_on (lawful j) u Push) then 1 else 0) (sym (unbarred-cause (lawful j) n))
    ∙ sym (ap (λ (o : Option Notice). option_map_or (λ k. if is_none (bar (lawful j) k) && not (switch_on (lawful j) u Push) then 1 else 0) o 0) (next_is t u m waits j stands).notice)))
