-- What each kind of event makes of the stage of a pending notice: which notices it concerns, and how.
use Rattle.std.proofs.Common.{◌≡◌, ℕ, Bool, true, false, ◌&&◌, ◌||◌, ◌==◌, List, refl, ap, ◌∙◌}
use Rattle.std.specs.Prelude.{Some, None, if◌then◌else◌}
use Rattle.chat_model.specs.Outcomes.{has_deal, gives_idle, gives_live}
use Rattle.chat_model.specs.declared.deal.Outcome.TheVariants.{Dealt, Cleared, Missed}
use Rattle.chat_model.specs.declared.deal.QueueId.{QueueId}
use Rattle.chat_model.specs.declared.deal.UserVerdict.{UserVerdict}
use Rattle.chat_model.specs.declared.event.Stamped.{Stamped}
use Rattle.chat_model.specs.declared.event.Event.{Event}
use Rattle.chat_model.specs.declared.event.Event.TheVariants.{Restart, Asked, Absorbed, MailTurn, PushTurn}
use Rattle.chat_model.specs.declared.ids.DealNo.{DealNo}
use Rattle.chat_model.specs.declared.ids.MessageId.{MessageId}
use Rattle.chat_model.specs.declared.ids.UserId.{UserId}
use Rattle.chat_model.specs.declared.push_item.PushItem.TheVariants.{Notify}
use Rattle.chat_model.specs.declared.request.Request.{Request}
use Rattle.chat_model.specs.declared.row.Stage.{Stage}
use Rattle.chat_model.specs.declared.row.Stage.TheVariants as stage
use Rattle.chat_model.specs.declared.trigger.Way.TheVariants.{Mail, Push}
use Rattle.notice_ledger.specs.Past.Owed.{Notice, is_of, same_way, pushes_online}
use Rattle.notice_ledger.specs.Past.Pushes.{is_push_turn}
use Rattle.notice_ledger.proofs.PushNotices.{push_turn-of}
use Rattle.notice_ledger.proofs.Same.{eqb-turned}
use Rattle.notice_ledger.proofs.Turned.{turned_user, turn-user, no_turn as none_turned}
use Rattle.notice_ledger.proofs.Batches.{is_mail_of}
use Rattle.notice_ledger.proofs.Standing.{is_turn, is_readying, is_barring, stage_by, stage_after}

-- an event at a stamp
abbrev stamped : ℕ → Event → Stamped
stamped at e = record { at = at; event = e }

no_turn : (at : ℕ) (e : Event) (n : Notice) → is_push_turn e ≡ false → turned_user e ≡ None → is_turn (stamped at e) n ≡ false
no_turn at e n no_push none = none_turned n.user n.number n.way e no_push none

unchanged : (g : Stage) → stage_by false false false false false g ≡ Some g
unchanged stage.Flight = refl
unchanged stage.Held = refl
unchanged stage.Ready = refl

-- a start makes each ready
pub stage-restart : (at : ℕ) (n : Notice) (g : Stage) → stage_after (stamped at Restart) n g ≡ Some stage.Ready
stage-restart at n g = ap (λ t. stage_by t true false false false g) (no_turn at Restart n refl refl) ∙ by g
  where
    by : (g : Stage) → stage_by false true false false false g ≡ Some stage.Ready
    by stage.Flight = refl
    by stage.Held = refl
    by stage.Ready = refl

-- a request takes away what it bars, and changes nothing else
pub stage-asked : (at : ℕ) (r : Request) (n : Notice) (g : Stage) → stage_after (stamped at (Asked r)) n g ≡ (if is_barring (stamped at (Asked r)) n then None else Some g)
stage-asked at r n g =
    ap (λ t. stage_by t false false false (is_barring (stamped at (Asked r)) n) g) (no_turn at (Asked r) n refl refl) ∙ by (is_barring (stamped at (Asked r)) n)
  where
    by : (b : Bool) → stage_by false false false false b g ≡ (if b then None else Some g)
    by true = refl
    by false = unchanged g

-- a mail turn takes away the user's mail notices that are ready
pub stage-mail_turn : (at : ℕ) (u : UserId) (n : Notice) (g : Stage) → stage_after (stamped at (MailTurn u)) n g ≡ stage_by (is_mail_of u n) false false false false g
stage-mail_turn at u n g = ap (λ t. stage_by t false false false false g) (turn-user n.user n.number n.way (MailTurn u) refl ∙ (ap (λ b. same_way n.way Mail && b) (eqb-turned u.0 n.user.0) ∙ swapped (same_way n.way Mail) (n.user.0 == u.0)))
  where
    swapped : (a b : Bool) → (a && b) ≡ (b && a)
    swapped true true = refl
    swapped true false = refl
    swapped false true = refl
    swapped false false = refl

-- a push turn takes away the push notice that its item names, where that is ready
pub stage-push_turn : (at : ℕ) (u : UserId) (m : MessageId) (n : Notice) (g : Stage) → stage_after (stamped at (PushTurn (Notify u m))) n g ≡ stage_by (is_of u m Push n) false false false false g
stage-push_turn at u m n g = ap (λ t. stage_by t false false false false g) (push_turn-of at u m n)

-- a deal that is absorbed concerns its notices alone: of an idle user they are ready, of a live one the pushes to who is
-- online, and the others are held
pub stage-dealt : (at : ℕ) (k : DealNo) (verdicts : List UserVerdict) (n : Notice) (g : Stage)
    → stage_after (stamped at (Absorbed (Dealt k verdicts))) n g
    ≡ stage_by false (k.0 == n.deal.0 && (gives_idle verdicts n.user || (pushes_online n && gives_live verdicts n.user))) false (k.0 == n.deal.0) false g
stage-dealt at k verdicts n g =
    ap (λ t. stage_by t (is_readying (stamped at (Absorbed (Dealt k verdicts))) n) false (k.0 == n.deal.0) false g) (no_turn at (Absorbed (Dealt k verdicts)) n refl refl)
    ∙ ap (λ r. stage_by false r false (k.0 == n.deal.0) false g) (by (k.0 == n.deal.0) (gives_idle verdicts n.user) (pushes_online n) (gives_live verdicts n.user))
  where
    by : (d idle online live : Bool) → ((d && idle) || (online && (d && live)) || false) ≡ (d && (idle || (online && live)))
    by true true online live = refl
    by true false true true = refl
    by true false true false = refl
    by true false false live = refl
    by false idle true live = refl
    by false idle false live = refl

-- a clearing takes away what it names, where that isn't ready
pub stage-cleared : (at : ℕ) (v : UserId) (deals : List DealNo) (queue : QueueId) (n : Notice) (g : Stage)
    → stage_after (stamped at (Absorbed (Cleared v deals queue))) n g ≡ stage_by false false (v.0 == n.user.0 && has_deal deals n.deal) false false g
stage-cleared at v deals queue n g =
    let clears = v.0 == n.user.0 && has_deal deals n.deal in
    ap (λ t. stage_by t (is_readying (stamped at (Absorbed (Cleared v deals queue))) n) clears false false g) (no_turn at (Absorbed (Cleared v deals queue)) n refl refl)
    ∙ ap (λ r. stage_by false r clears false false g) (by (pushes_online n))
  where
    by : (online : Bool) → (false || (online && false) || false) ≡ false
    by true = refl
    by false = refl

-- a miss makes ready what it names
pub stage-missed : (at : ℕ) (v : UserId) (deals : List DealNo) (n : Notice) (g : Stage)
    → stage_after (stamped at (Absorbed (Missed v deals))) n g ≡ stage_by false (v.0 == n.user.0 && has_deal deals n.deal) false false false g
stage-missed at v deals n g =
    ap (λ t. stage_by t (is_readying (stamped at (Absorbed (Missed v deals))) n) false false false g) (no_turn at (Absorbed (Missed v deals)) n refl refl)
    ∙ ap (λ r. stage_by false r false false false g) (by (pushes_online n) (v.0 == n.user.0 && has_deal deals n.deal))
  where
    by : (online misses : Bool) → (false || (online && false) || misses) ≡ misses
    by true misses = refl
    by false misses = refl
