use Rattle.std.proofs.Common.{◌≡◌, ℕ, Some, None, refl, sym, ap, ◌∙◌}
use Rattle.presence_queues.specs.Hub.{overdue_user}
use Rattle.presence_queues.specs.Steps.{is_swept}
use Rattle.presence_queues.proofs.Changes.{count-seen, next_overdue-seen, none_overdue, overdue-seen}
use Rattle.presence_queues.proofs.hub.Hub.sweep_one.Goals as goal

some_not_none : (n : ℕ) → Some n ≡ None → ⊥
some_not_none n e = cc

pub returns-in_default-clause-answered : goal.returns-in_default-clause-answered
returns-in_default-clause-answered g c = (
  overdue-seen c.args.self.now c.args.now c.self.inside.queues.items c.deref.result.now None (sym (ap (λ h. h.queues) c.self.view_is)) c.deref.ensures.value c.in_default.ensures,
  next_overdue-seen c.args.self.now c.self.inside.queues.items c.deref-in_default.result.now c.next_overdue.result (sym (ap (λ h. h.queues) c.self.view_is)) c.deref-in_default.ensures.value c.next_overdue.ensures,
  refl,
)

pub returns-in_err-end-clause-none_overdue : goal.returns-in_err-end-clause-none_overdue
returns-in_err-end-clause-none_overdue g c = λ none.
    let some : overdue_user c.args.self.now c.args.now ≡ Some c.in-Some.user = overdue-seen c.args.self.now c.args.now c.self.inside.queues.items c.deref.result.now (Some c.in-Some.user) (sym (ap (λ h. h.queues) c.self.view_is)) c.deref.ensures.value c.in-Some.ensures in
    let no_user : overdue_user c.args.self.now c.args.now ≡ None = none_overdue c.args.self.now c.args.now none in
    absurd (some_not_none c.in-Some.user (sym some ∙ no_user))

pub returns-clause-answered : goal.returns-clause-answered
returns-clause-answered g c = (
  overdue-seen c.args.self.now c.args.now c.self.inside.queues.items c.deref.result.now (Some c.in-Some.user) (sym (ap (λ h. h.queues) c.self.view_is)) c.deref.ensures.value c.in-Some.ensures,
  count-seen c.args.self.now (is_swept (record { 0 = c.in-Some.user }) c.args.now) c.self.inside.queues.items c.deref-2.result.now c.count_ending-queues.result (sym (ap (λ h. h.queues) c.self.view_is)) c.deref-2.ensures.value c.count_ending-queues.ensures,
  c.in_ok-end.ensures.ok,
)

pub returns-clause-none_overdue : goal.returns-clause-none_overdue
returns-clause-none_overdue g c = λ none.
    let some : overdue_user c.args.self.now c.args.now ≡ Some c.in-Some.user = overdue-seen c.args.self.now c.args.now c.self.inside.queues.items c.deref.result.now (Some c.in-Some.user) (sym (ap (λ h. h.queues) c.self.view_is)) c.deref.ensures.value c.in-Some.ensures in
    let no_user : overdue_user c.args.self.now c.args.now ≡ None = none_overdue c.args.self.now c.args.now none in
    absurd (some_not_none c.in-Some.user (sym some ∙ no_user))
