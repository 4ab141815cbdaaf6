use Rattle.std.proofs.Common.{◌≡◌, ℕ, List, Some, None, refl, sym, ◌∙◌, subst}
use Rattle.chat_model.specs.declared.event.Stamped.{Stamped}
use Rattle.chat_model.specs.declared.push_item.PushItem.{PushItem}
use Rattle.notice_ledger.specs.Pushes.{oldest_item}
use Rattle.office.specs.declared.answer.PushAnswer.{PushAnswer}
use Rattle.office.specs.declared.answer.PushAnswer.TheVariants.{Pushed, Removed, Dropped, NothingReady}
use Rattle.office.specs.Office.{push_turn, IsPushTurn}
use Rattle.office.proofs.Offices.{push_turn_lawful}
use Rattle.office.proofs.Reaching.{reached-kept}
use Rattle.office.proofs.office.Office.push_turn.Goals as goal
use Rattle.office.proofs.office.Office.push_turn.Goals.{In_ok-record}
use Rattle.office.proofs.office.Office.push_turn.Given.{Over}

-- a turn isn't answered as where no item waits
is_turn : (j after : List Stamped) (at : ℕ) (item : PushItem) (a : PushAnswer) → oldest_item j ≡ Some item → IsPushTurn j at a after → a ≡ NothingReady → ⊥
is_turn j after at item NothingReady oldest turned is = let e : None ≡ Some item = sym turned.0 ∙ oldest in absurd (cc)
is_turn j after at item (Pushed user message trigger) oldest turned is = cc
is_turn j after at item (Dropped user message cause) oldest turned is = cc
is_turn j after at item (Removed user count) oldest turned is = cc

pub record-requires : goal.record-requires
record-requires g c =
    record { lawful = push_turn_lawful c.args.self.now.journal c.args.now c.stamp-at.result c.in-Some.item (sym c.in_ok-item.ensures.item ∙ c.in-Some.is) c.stamp-at.ensures }

-- the turn was made
turned : (g : Over) (c : In_ok-record g) → IsPushTurn c.args.self.now.journal c.stamp-at.result c.push_answer-answer.result c.record.new.self.journal
turned g c =
    let P : List Stamped → Type 0 = λ after. IsPushTurn c.args.self.now.journal c.stamp-at.result c.push_answer-answer.result after in
    let next = push_turn_lawful c.args.self.now.journal c.args.now c.stamp-at.result c.in-Some.item (sym c.in_ok-item.ensures.item ∙ c.in-Some.is) c.stamp-at.ensures in
    subst P (sym c.in_ok-record.ensures.ok) (c.push_answer-answer.ensures c.stamp-at.result next)

pub returns-clause-answered : goal.returns-clause-answered
returns-clause-answered g c =
    subst (λ (at : ℕ). IsPushTurn c.args.self.now.journal at c.push_answer-answer.result c.record.new.self.journal) c.stamp-at.ensures (turned g c)

pub returns-clause-unchanged : goal.returns-clause-unchanged
returns-clause-unchanged g c = λ is.
    absurd (is_turn c.args.self.now.journal c.record.new.self.journal c.stamp-at.result c.in-Some.item c.push_answer-answer.result (sym c.in_ok-item.ensures.item ∙ c.in-Some.is) (turned g c) (cc))

pub returns-clause-reached : goal.returns-clause-reached
returns-clause-reached g c =
    reached-kept c.args.self.now.journal c.record.new.self.journal (push_turn c.stamp-at.result c.in-Some.item) c.args.self.now.in_hand c.record.new.self.in_hand refl refl c.in_ok-record.ensures.ok c.record.ensures.in_hand
