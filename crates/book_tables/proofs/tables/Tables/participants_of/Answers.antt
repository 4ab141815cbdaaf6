use Rattle.std.proofs.Common.{List, ℕ, sym, ap, ◌∙◌}
use Rattle.chat_model.specs.declared.ids.UserId.{UserId}
use Rattle.notice_ledger.specs.declared.destination.Destination.{Destination}
use Rattle.notice_ledger.specs.Past.Values.{is_one_of, is_participant}
use Rattle.notice_ledger.specs.Past.Triggers.{is_participant_of}
use Rattle.book_tables.proofs.tables.Tables.participants_of.Goals as goal

pub returns-in_ok-senders-in-Channel : goal.returns-in_ok-senders-in-Channel
returns-in_ok-senders-in-Channel c = λ past u h.
    c.in_ok-senders-in-Channel.ensures past u h
    ∙ (ap (λ (topic : List ℕ). is_participant past u c.in-Channel.channel topic) c.as_str.ensures ∙ ap (λ (to : Destination). is_participant_of past to u) (sym c.in-Channel.is))

pub returns-in-Direct : goal.returns-in-Direct
returns-in-Direct c = λ past u h.
    ap (λ (us : List UserId). is_one_of us u) c.new.ensures ∙ ap (λ (to : Destination). is_participant_of past to u) (sym c.in-Direct.is)
