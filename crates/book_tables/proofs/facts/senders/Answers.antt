use Rattle.std.proofs.Common.{◌≡◌, ℕ, ◌+◌, ◌<◌, Bool, true, false, ◌&&◌, ◌||◌, ◌==◌, not, List, drop, get_or, length, sym, ap, ◌∙◌, arith, refl}
use Rattle.std.proofs.lemmas.List.{at_drop_more, at_drop_all}
use Rattle.chat_model.specs.declared.ids.ChannelId.{ChannelId}
use Rattle.chat_model.specs.declared.ids.UserId.{UserId}
use Rattle.notice_ledger.specs.Past.Values.{is_one_of, is_to_topic}
use Rattle.book_tables.specs.declared.tables.Message.{Message}
use Rattle.book_tables.specs.declared.user_set.UserSet.{UserSet}
use Rattle.book_tables.specs.Gathered.{took_part_from}
use Rattle.book_tables.specs.Receipts.{is_marked}
use Rattle.book_tables.proofs.Barring.{any-more}
use Rattle.book_tables.proofs.facts.senders.Goals.{then-not-is_marked+then-is_to_topic+in_ok-push, else-not-is_marked, else-not-is_marked-via-then-not-is_marked+else-is_to_topic, else-not-is_marked-via-else-not-is_marked}
use Rattle.book_tables.proofs.facts.senders.Goals as goal

-- the message at a place, and those behind it
next : (d : List Bool) (u : UserId) (c : ChannelId) (topic : List ℕ) (ms : List Message) (i : ℕ) (m : Message) → i < length ms → m ≡ get_or ms i m
    → took_part_from d u c topic (1 + i) (drop i ms) ≡ ((m.sender.0 == u.0 && is_to_topic c topic m.to && not (is_marked d (1 + i))) || took_part_from d u c topic (1 + (i + 1)) (drop (i + 1) ms))
next d u c topic ms i m lt is =
    let e : (1 + i) + 1 ≡ 1 + (i + 1) = omega arith in
    at_drop_more (took_part_from d u c topic (1 + i)) ms i m lt
    ∙ (ap (λ (k : Message). (k.sender.0 == u.0 && is_to_topic c topic k.to && not (is_marked d (1 + i))) || took_part_from d u c topic ((1 + i) + 1) (drop (i + 1) ms)) (sym is)
    ∙ ap (λ n. (m.sender.0 == u.0 && is_to_topic c topic m.to && not (is_marked d (1 + i))) || took_part_from d u c topic n (drop (i + 1) ms)) e)

counted : (x a b k r : Bool) → b ≡ true → k ≡ false → ((x || a) || r) ≡ (x || ((a && b && not k) || r))
counted true a b k r e f = refl
counted false a b k r e f = ap (λ y. y || r) (one a ∙ (λ i. a && sym e i && not (sym f i)))
  where
    one : (a : Bool) → a ≡ (a && true && not false)
    one true = refl
    one false = refl

passed_over : (x a b k r : Bool) → b ≡ false → (x || r) ≡ (x || ((a && b && not k) || r))
passed_over x a b k r e = ap (λ y. x || (y || r)) (none a k ∙ (λ i. a && sym e i && not k))
  where
    none : (a k : Bool) → false ≡ (a && false && not k)
    none true k = refl
    none false k = refl

deleted_over : (x a b k r : Bool) → k ≡ true → (x || r) ≡ (x || ((a && b && not k) || r))
deleted_over x a b k r e = ap (λ y. x || (y || r)) (none a b ∙ (λ i. a && b && not (sym e i)))
  where
    none : (a b : Bool) → false ≡ (a && b && not true)
    none true true = refl
    none true false = refl
    none false b = refl

pub loop-i-preserved : goal.loop-i-preserved
loop-i-preserved c = λ u.
    let d = c.args.deleted.now in let ch = c.args.channel in let topic = c.args.topic.now in let ms = c.args.messages.now in let i = c.loop-i.i in
    let m = c.index-messages-i.result in let x = is_one_of c.loop-i.senders.items u in let r = took_part_from d u ch topic (1 + (i + 1)) (drop (i + 1) ms) in
    let a = m.sender.0 == u.0 in let b = is_to_topic ch topic m.to in let k = is_marked d (1 + i) in
    (elim c.if-not-is_marked.branch [
      | then-not-is_marked+then-is_to_topic+in_ok-push w ↦ ap (λ v. is_one_of v.items u || r) w.senders-is
          ∙ (ap (λ us. is_one_of us u || r) w.in_ok-push.ensures.items ∙ (ap (λ y. y || r) (any-more (λ v. v.0 == u.0) c.loop-i.senders.items m.sender)
          ∙ counted x a b k r (sym w.is_to_topic.ensures ∙ w.if-is_to_topic.true) (sym c.is_marked.ensures ∙ w.if-not-is_marked.true)))
      | else-not-is_marked w ↦ ap (λ v. is_one_of v.items u || r) w.senders-is
          ∙ (elim w.else-not-is_marked.branch [
            | else-not-is_marked-via-then-not-is_marked+else-is_to_topic v ↦ passed_over x a b k r (sym v.is_to_topic.ensures ∙ v.if-is_to_topic.false)
            | else-not-is_marked-via-else-not-is_marked v ↦ deleted_over x a b k r (sym c.is_marked.ensures ∙ v.if-not-is_marked.false)
          ])
    ])
    ∙ (ap (λ y. x || y) (sym (next d u ch topic ms i m c.loop-i-test.true c.index-messages-i.is)) ∙ c.loop-i.invariant u)

pub returns : goal.returns
returns c = λ u.
    let d = c.args.deleted.now in let ch = c.args.channel in let topic = c.args.topic.now in let ms = c.args.messages.now in let i = c.loop-i.i in
    let x = is_one_of c.loop-i.senders.items u in
    sym (ap (λ y. x || y) (at_drop_all (took_part_from d u ch topic (1 + i)) ms i c.loop-i-test.false) ∙ or_none x) ∙ c.loop-i.invariant u
  where
    or_none : (b : Bool) → (b || false) ≡ b
    or_none true = refl
    or_none false = refl
