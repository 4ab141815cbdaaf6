use Rattle.std.proofs.Common.{map, take, get_or, refl, sym, ap, ◌∙◌, subst, arith}
use Rattle.std.proofs.lemmas.List.{take_more}
use Rattle.chat_model.specs.declared.ids.DealNo.{DealNo}
use Rattle.chat_model.specs.declared.trigger.Way.TheVariants.{Mail, Push}
use Rattle.book_tables.specs.declared.tables.Waiting.{Waiting}
use Rattle.book_tables.specs.Batched.{AreReadied, period_in}
use Rattle.book_tables.specs.Notices.{is_at, is_named, readied_if, IsInOrder}
use Rattle.book_tables.proofs.Readied.{notices-then, readied-none, readied-then, same_periods}
use Rattle.book_tables.proofs.Sought.{order-map, ready-next, nobody-named}
use Rattle.book_tables.proofs.tables.Tables.ready_named.Goals as goal

pub loop-deal-init : goal.loop-deal-init
loop-deal-init c = record {
  rest = refl;
  waiting = sym (nobody-named c.args.user c.args.self.now.waiting.items);
  batches = readied-none (period_in c.args.self.now.preferences.items) c.args.at c.args.self.now.waiting.items c.args.self.now.batches c.requires.batches.rows;
  room = let room = c.requires.room in omega (arith, room);
}

pub ready_one-requires-clause-order : goal.ready_one-requires-clause-order
ready_one-requires-clause-order c =
    subst IsInOrder (sym c.loop-deal.invariant.waiting)
    (order-map (λ (w : Waiting). readied_if (is_named c.args.user (take c.loop-deal.deal-index c.args.deals.now) w) w) (λ w. refl) (λ w. refl) (λ w. refl) c.args.self.now.waiting.items c.requires.order)

pub ready_one-requires-in-loop-deal-clause-order : goal.ready_one-requires-in-loop-deal-clause-order
ready_one-requires-in-loop-deal-clause-order c =
    let ks = c.args.deals.now in let i = c.loop-deal.deal-index in let k = get_or ks i _ in
    subst IsInOrder (sym c.ready_one.ensures.waiting)
    (order-map (λ (w : Waiting). readied_if (is_at k c.args.user Mail w) w) (λ w. refl) (λ w. refl) (λ w. refl) c.loop-deal.self.waiting.items
    (subst IsInOrder (sym c.loop-deal.invariant.waiting)
    (order-map (λ (w : Waiting). readied_if (is_named c.args.user (take i ks) w) w) (λ w. refl) (λ w. refl) (λ w. refl) c.args.self.now.waiting.items c.requires.order)))

pub loop-deal-preserved : goal.loop-deal-preserved
loop-deal-preserved c =
    let old = c.args.self.now in let now = c.loop-deal.self in let mid = c.ready_one.new.self in let new = c.ready_one-in-loop-deal.new.self in
    let inv = c.loop-deal.invariant in let p = period_in old.preferences.items in
    let ws = old.waiting.items in let u = c.args.user in let ks = c.args.deals.now in let i = c.loop-deal.deal-index in
    let none : DealNo = record { 0 = 0 } in let k = get_or ks i none in
    let to_mid = notices-then old now mid inv.rest c.ready_one.ensures.rest in
    record {
      rest = notices-then old mid new to_mid c.ready_one-in-loop-deal.ensures.rest;
      waiting = c.ready_one-in-loop-deal.ensures.waiting
          ∙ (ap (map (λ (w : Waiting). readied_if (is_at k u Push w) w)) (c.ready_one.ensures.waiting ∙ ap (map (λ (w : Waiting). readied_if (is_at k u Mail w) w)) inv.waiting)
          ∙ (ready-next u (take i ks) k ws ∙ ap (λ ds. map (λ (w : Waiting). readied_if (is_named u ds w) w) ws) (sym (take_more ks i none c.loop-deal-test.true))));
      batches = readied-then p c.args.at mid.waiting.items new.waiting.items old.batches mid.batches new.batches
          (readied-then p c.args.at now.waiting.items mid.waiting.items old.batches now.batches mid.batches inv.batches
          (subst (λ q. AreReadied q c.args.at mid.waiting.items now.batches mid.batches) (same_periods old now inv.rest) c.ready_one.ensures.batches))
          (subst (λ q. AreReadied q c.args.at new.waiting.items mid.batches new.batches) (same_periods old mid to_mid) c.ready_one-in-loop-deal.ensures.batches);
      room = let mail = c.ready_one.ensures.spare in let push = c.ready_one-in-loop-deal.ensures.spare in let room = inv.room in omega (arith, mail, push, room);
    }
