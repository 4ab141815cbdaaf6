use Rattle.std.proofs.Common.{◌+◌, ◌<◌, ◌≤◌, ℕ, List, cond, length, take, sym, ap, ◌∙◌, subst, arith}
use Rattle.std.specs.List.{zip}
use Rattle.std.proofs.lemmas.List.{take_all}
use Rattle.std.proofs.lemmas.Slice.Zip.{length-zip}
use Rattle.chat_model.specs.declared.ids.UserId.{UserId}
use Rattle.mail_batches.specs.declared.batches.DueUser.{DueUser}
use Rattle.mail_batches.specs.Batches.{IsLeast, is_due_before}
use Rattle.std.specs.Option.{option_map_or}
use Rattle.mail_batches.proofs.Leasts.{Least, least-more, zip-more}
use Rattle.mail_batches.proofs.by_user.ByUser+u64.least.Goals as goal

pub loop-i-preserved : goal.loop-i-preserved
loop-i-preserved c =
    let us = c.self.inside.users.items in let xs = c.self.inside.values.items in let i = c.loop-i.i in
    let in_us : i < length us = omega (arith, c.loop-i-test.true, c.len-i-end.ensures) in
    let in_xs : i < length xs = omega (arith, c.loop-i-test.true, c.len-i-end.ensures, c.self.invariant) in
    let more = zip-more us xs i c.index-in-loop-i.result.now c.index.result.now in_us in_xs c.index-in-loop-i.ensures c.index.ensures in
    let next : DueUser = record { due = c.index.result.now; user = c.index-in-loop-i.result.now } in
    subst (λ (d : DueUser). IsLeast (take (i + 1) (zip us xs)) d) (sym c.sooner.ensures)
    (subst (λ (es : List (UserId × ℕ)). IsLeast es (option_map_or (λ f. cond (is_due_before next f) next f) c.loop-i.first next)) (sym more) (least-more (take i (zip us xs)) c.loop-i.first (c.index-in-loop-i.result.now, c.index.result.now) c.loop-i.invariant))

pub returns : goal.returns
returns c =
    let us = c.self.inside.users.items in let xs = c.self.inside.values.items in
    let all : length (zip us xs) ≤ c.loop-i.i = omega (arith, length-zip us xs, c.loop-i-test.false, c.len-i-end.ensures) in
    subst (λ (es : List (UserId × ℕ)). Least es c.loop-i.first) (take_all c.loop-i.i (zip us xs) all ∙ ap (λ l. l.entries) c.self.view_is) c.loop-i.invariant
