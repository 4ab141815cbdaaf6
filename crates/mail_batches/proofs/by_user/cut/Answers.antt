use Rattle.std.proofs.Common.{◌≡◌, zero, suc, [], ◌∷◌, ◌+◌, ◌-◌, ◌++◌, ℕ, List, ◌≤◌, length, take, drop, ap, ◌∙◌, arith}
use Rattle.std.proofs.lemmas.List.{length-drop, drop_at, take_at, take-take}
use Rattle.mail_batches.proofs.by_user.cut.Goals as goal

take_past : {A : Type 0} (n k : ℕ) (xs ys : List A) → k ≡ length xs + n → take k (xs ++ ys) ≡ xs ++ take n ys
take_past n k [] ys e = ap (λ i. take i ys) (omega (arith, e))
take_past n zero (x ∷ xs) ys e = absurd (omega arith)
take_past n (suc k) (x ∷ xs) ys e = ap (λ zs. x ∷ zs) (take_past n k xs ys (omega arith))

-- the items behind a stretch to the front, the stretch cut off the end, and they go back
turned : {A : Type 0} (from to : ℕ) (xs : List A) → from ≤ to → to ≤ length xs →
    let cut = take (length xs - to + from) (drop to xs ++ take to xs) in
    drop (length xs - to) cut ++ take (length xs - to) cut ≡ take from xs ++ drop to xs
turned from to xs le within =
    let d = drop to xs in
    let n : length d ≡ length xs - to = length-drop to xs in
    let kept : take (length xs - to + from) (d ++ take to xs) ≡ d ++ take from xs =
    take_past from (length xs - to + from) d (take to xs) (omega (arith, n)) ∙ ap (λ ys. d ++ ys) (take-take from to xs le) in
    ap (λ ys. drop (length xs - to) ys ++ take (length xs - to) ys) kept
    ∙ (ap (λ ys. ys ++ take (length xs - to) (d ++ take from xs)) (drop_at d (take from xs) (length xs - to) n)
    ∙ ap (λ ys. take from xs ++ ys) (take_at d (take from xs) (length xs - to) n))

pub returns-clause-items : goal.returns-clause-items
returns-clause-items g c =
    let xs = c.args.items.now.items in
    let from = c.args.place.from in let to = c.args.place.to in
    let n : c.len.result ≡ length xs = omega arith in
    c.rotate_left-2.ensures.items
    ∙ (ap (λ ys. drop (c.len.result - to) ys ++ take (c.len.result - to) ys) (c.truncate.ensures.items ∙ ap (take (c.len.result - to + from)) c.rotate_left.ensures.items)
    ∙ (ap (λ m. drop (m - to) (take (m - to + from) (drop to xs ++ take to xs)) ++ take (m - to) (take (m - to + from) (drop to xs ++ take to xs))) n
    ∙ turned from to xs c.requires.order (omega (arith, c.requires.within))))
