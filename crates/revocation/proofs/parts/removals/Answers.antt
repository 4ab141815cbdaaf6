use Rattle.std.proofs.Common.{◌≡◌, ℕ, ◌+◌, ◌-◌, ◌*◌, ◌≤◌, min, List, [], ◌∷◌, ◌++◌, length, map, take, drop, sym, ap, ◌∙◌, arith}
use Rattle.std.specs.List.{range_with_len}
use Rattle.std.proofs.lemmas.List.{take_min, length-drop, map-append}
use Rattle.std.proofs.lemmas.List.FromFn.{map-range_with_len_more}
use Rattle.chat_model.specs.declared.ids.UserId.{UserId}
use Rattle.chat_model.specs.declared.ids.MessageId.{MessageId}
use Rattle.chat_model.specs.declared.push_item.PushItem.{PushItem}
use Rattle.chat_model.specs.declared.push_item.PushItem.TheVariants.{Remove}
use Rattle.revocation.specs.Removals.{part, most_messages}
use Rattle.revocation.proofs.parts.removals.Goals as goal

-- the items of a part, cut off where the list ends
cut_off : (size from : ℕ) (xs : List MessageId) → from ≤ length xs → take (min (length xs) (from + size) - from) (drop from xs) ≡ take size (drop from xs)
cut_off size from xs h =
    let e : min (length xs) (from + size) - from ≡ min size (length (drop from xs)) = omega (arith, length-drop from xs) in
    ap (λ n. take n (drop from xs)) e ∙ take_min size (drop from xs)

-- one more part, one more removal
one_more : (user : UserId) (xs ys : List MessageId) (k : ℕ) (items : List PushItem) → ys ≡ part most_messages xs k → items ≡ map (Remove user) (map (part most_messages xs) (range_with_len 0 k)) →
    items ++ Remove user ys ∷ [] ≡ map (Remove user) (map (part most_messages xs) (range_with_len 0 (k + 1)))
one_more user xs ys k items e h =
    ap (λ zs. zs ++ Remove user ys ∷ []) h
    ∙ (ap (λ zs. map (Remove user) (map (part most_messages xs) (range_with_len 0 k)) ++ Remove user zs ∷ []) e
    ∙ (sym (map-append (Remove user) (map (part most_messages xs) (range_with_len 0 k)) (part most_messages xs k ∷ []))
    ∙ sym (ap (map (Remove user)) (map-range_with_len_more (part most_messages xs) 0 k k (omega arith)))))

pub loop-k-preserved : goal.loop-k-preserved
loop-k-preserved c =
    let within : c.loop-k.k * most_messages ≤ length c.args.messages.now = omega (arith, c.loop-k-test.true, c.div_ceil-k-end.ensures) in
    let cut : c.in_ok-part.part.items ≡ part most_messages c.args.messages.now c.loop-k.k =
    c.in_ok-part.ensures.items
    ∙ (ap (λ n. take (n - c.loop-k.k * 200) (drop (c.loop-k.k * 200) c.args.messages.now)) c.min-to.ensures
    ∙ cut_off most_messages (c.loop-k.k * 200) c.args.messages.now within) in
    c.in_ok-push.ensures.ok ∙ one_more c.args.user c.args.messages.now c.from.result c.loop-k.k c.loop-k.items (c.from.ensures ∙ cut) c.loop-k.invariant

pub returns : goal.returns
returns c =
    let e : c.loop-k.k ≡ c.div_ceil-k-end.result = omega arith in
    c.loop-k.invariant ∙ ap (λ n. map (Remove c.args.user) (map (part most_messages c.args.messages.now) (range_with_len 0 n))) (e ∙ c.div_ceil-k-end.ensures)
