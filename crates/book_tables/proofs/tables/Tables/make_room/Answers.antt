use Rattle.std.proofs.Common.{◌≤◌, List, length, sym, ap, subst, arith}
use Rattle.std.specs.Prelude.{OnOk}
use Rattle.std.specs.declared.result.Result.{Result}
use Rattle.std.specs.declared.result.Result.TheVariants.{Ok, Err}
use Rattle.book_tables.specs.declared.prepared.Effect.{Effect}
use Rattle.book_tables.specs.declared.tables.Waiting.{Waiting}
use Rattle.book_tables.specs.Notices.{of_deal, IsInOrder, IsStretchOf}
use Rattle.book_tables.specs.Rooms.{HasRoom}
use Rattle.book_tables.proofs.Sought.{stretch-long}
use Rattle.book_tables.proofs.tables.Tables.make_room.Goals as goal

on_ok : {T E : Type 0} (r : Result T E) {P Q : Type 0} → (P → Q) → OnOk r P → OnOk r Q
on_ok (Ok x) f p = f p
on_ok (Err e) f p = p

pub returns-in_ok-reserve-in-Dealt-clause-ok : goal.returns-in_ok-reserve-in-Dealt-clause-ok
returns-in_ok-reserve-in-Dealt-clause-ok c =
    let ws = c.args.self.now.waiting.items in let stretch = c.find_deal-stretch.result in let pushes = c.in-Dealt.pushes in
    let within : stretch.to ≤ length ws = subst (λ (vs : List Waiting). stretch.to ≤ length vs) c.deref.ensures.value c.find_deal-stretch.ensures.within in
    let found : IsInOrder ws → IsStretchOf (of_deal c.in-Dealt.deal) stretch.from stretch.to ws =
    subst (λ (vs : List Waiting). IsInOrder vs → IsStretchOf (of_deal c.in-Dealt.deal) stretch.from stretch.to vs) c.deref.ensures.value c.find_deal-stretch.ensures.found in
    let spare = ap (λ b. b.spare) c.in_ok-reserve-in-Dealt.ensures.ok in
    subst (λ (e : Effect). OnOk c.reserve-in-Dealt-2.result (HasRoom (record c.args.self.now { batches = c.reserve-in-Dealt.new.self; pushes = c.reserve-in-Dealt-2.new.self }) e)) (sym c.in-Dealt.is)
    (on_ok c.reserve-in-Dealt-2.result (λ kept.
    let room = ap (λ q. q.item_room) kept in (
      λ order. let long = stretch-long (of_deal c.in-Dealt.deal) stretch.from stretch.to ws c.find_deal-stretch.ensures.order within (found order) in omega (arith, long, spare),
      omega (arith, room, c.len-in-Dealt.ensures, pushes.ok.0),
    )) c.reserve-in-Dealt-2.ensures.ok)
