-- Whose turn an event is.
use Rattle.std.proofs.Common.{◌≡◌, Bool, true, false, ◌&&◌, ◌==◌, List, refl, ap, ◌∙◌}
use Rattle.std.specs.Prelude.{Option, Some, None}
use Rattle.std.specs.Option.{option_map_or}
use Rattle.std.proofs.Math.Bool.{and-false}
use Rattle.chat_model.specs.declared.event.Stamped.{Stamped}
use Rattle.chat_model.specs.declared.event.Event.{Event}
use Rattle.chat_model.specs.declared.event.Event.TheVariants.{MailTurn, PushTurn}
use Rattle.chat_model.specs.declared.ids.UserId.{UserId}
use Rattle.chat_model.specs.declared.ids.MessageId.{MessageId}
use Rattle.chat_model.specs.declared.push_item.PushItem.TheVariants.{Notify}
use Rattle.chat_model.specs.declared.trigger.Way.{Way}
use Rattle.chat_model.specs.declared.trigger.Way.TheVariants.{Mail, Push}
use Rattle.notice_ledger.specs.Past.Owed.{same_way, is_turn_of, is_mail_turn_of, notice_to}
use Rattle.notice_ledger.specs.Past.Pushes.{is_push_turn}
use Rattle.notice_ledger.proofs.Queued.{is_queued}

-- the user whose mail turn an event is
abbrev pub turned_user : Event → Option UserId
turned_user (MailTurn u) = Some u
turned_user _ = None

pub mail_turn-user : (u : UserId) (e : Event) → is_mail_turn_of u e ≡ option_map_or (λ v. v.0 == u.0) (turned_user e) false
mail_turn-user u (MailTurn v) = refl
mail_turn-user u e = refl

-- an event that is no push turn is a turn of mails alone
pub turn-user : (u : UserId) (m : MessageId) (w : Way) (e : Event) → is_push_turn e ≡ false → is_turn_of u m w e ≡ (same_way w Mail && option_map_or (λ v. v.0 == u.0) (turned_user e) false)
turn-user u m Mail e no_push = mail_turn-user u e
turn-user u m Push (PushTurn item) no_push = absurd (cc)
turn-user u m Push e no_push = refl

-- an event that is no turn of anyone is no turn of a notice
pub no_turn : (u : UserId) (m : MessageId) (w : Way) (e : Event) → is_push_turn e ≡ false → turned_user e ≡ None → is_turn_of u m w e ≡ false
no_turn u m w e no_push none =
    turn-user u m w e no_push ∙ (ap (λ (o : Option UserId). same_way w Mail && option_map_or (λ v. v.0 == u.0) o false) none ∙ and-false (same_way w Mail))

-- the push notice of a user and a message is queued
abbrev pub is_push_queued : List Stamped → UserId → MessageId → Bool
is_push_queued j u m = option_map_or (is_queued j) (notice_to j u m Push) false

-- where the event is the push turn of a notice, the notice is queued
abbrev pub IsTurnReady : List Stamped → Event → Type 0
IsTurnReady j (PushTurn (Notify u m)) = is_push_queued j u m ≡ true
IsTurnReady j _ = Unit {0}
