use Rattle.std.proofs.Common.{◌≡◌, Bool, ◌+◌, ◌-◌, ◌&&◌, ◌==◌, true, false, set, refl, sym, ap, ◌∙◌, arith}
use Rattle.std.proofs.lemmas.Bool.{eqb-true}
use Rattle.mail_batches.specs.Batches.{with_row}
use Rattle.book_tables.specs.Notices.{rank, is_undecided, is_undecided_mail, moved}
use Rattle.book_tables.specs.Batched.{period_in}
use Rattle.book_tables.proofs.Readied.{readied-one, readied-still, readied-so, rank-small}
use Rattle.book_tables.proofs.Sought.{got}
use Rattle.book_tables.proofs.tables.Tables.move_on.Goals.{then-readies+then-is_undecided_mail, else-readies, else-readies-via-then-readies+else-is_undecided_mail, else-readies-via-else-readies}
use Rattle.book_tables.proofs.tables.Tables.move_on.Goals as goal

pub returns-clause-batches : goal.returns-clause-batches
returns-clause-batches c =
    let x = c.index.result.now in let ws = c.args.self.now.waiting.items in let b = c.args.self.now.batches in let p = period_in c.args.self.now.preferences.items in
    elim c.if-readies.branch [
      | then-readies+then-is_undecided_mail w ↦
          readied-so p c.args.at (set c.if-readies.self.waiting.items c.args.place c.moved.result) (set ws c.args.place (moved c.args.readies x)) b c.if-readies.self.batches (with_row b x.user x.message (c.args.at + p x.user))
          (λ i. set (w.self-is i).waiting.items c.args.place (c.moved.ensures i))
          (ap (λ t. t.batches) w.self-is ∙ (w.ready.ensures ∙ ap (λ n. with_row b x.user x.message (c.args.at + n)) (w.period_of-period.ensures ∙ ap (λ ps. period_in ps x.user) w.deref.ensures.value)))
          (readied-one p c.args.at ws c.args.place x c.args.readies b c.requires.place c.index.ensures (λ i. w.if-readies.true i && (sym w.is_undecided_mail.ensures ∙ w.if-is_undecided_mail.true) i) c.requires.batches.rows)
      | else-readies w ↦
          let none : (c.args.readies && is_undecided_mail x) ≡ false = elim w.else-readies.branch [
            | else-readies-via-then-readies+else-is_undecided_mail v ↦ (λ i. v.if-readies.true i && (sym v.is_undecided_mail.ensures ∙ v.if-is_undecided_mail.false) i)
            | else-readies-via-else-readies v ↦ ap (λ r. r && is_undecided_mail x) v.if-readies.false
          ] in
          readied-so p c.args.at (set c.if-readies.self.waiting.items c.args.place c.moved.result) (set ws c.args.place (moved c.args.readies x)) b c.if-readies.self.batches b
          (λ i. set (w.self-is i).waiting.items c.args.place (c.moved.ensures i))
          (ap (λ t. t.batches) w.self-is)
          (readied-still p c.args.at ws c.args.place x c.args.readies b c.requires.place c.index.ensures none c.requires.batches.rows)
    ]

pub returns-clause-spare : goal.returns-clause-spare
returns-clause-spare c = λ v there.
    let x = c.index.result.now in let ws = c.args.self.now.waiting.items in let b = c.args.self.now.batches in
    let same : x ≡ v = c.index.ensures ∙ got ws c.args.place v x there in
    elim c.if-readies.branch [
      | then-readies+then-is_undecided_mail w ↦
          let first : rank x.way ≡ 0 = eqb-true (rank x.way) 0 (left (rank x.way == 0) (is_undecided x) (sym w.is_undecided_mail.ensures ∙ w.if-is_undecided_mail.true)) in
          let mail : rank v.way ≡ 0 = ap (λ u. rank u.way) (sym same) ∙ first in
          let room = c.requires.room v there in
          let less : c.if-readies.self.batches.spare ≡ b.spare - 1 = ap (λ t. t.batches.spare) w.self-is ∙ ap (λ b. b.spare) w.ready.ensures in
          omega (arith, mail, room, less)
      | else-readies w ↦
          let small = rank-small v.way in
          let kept : c.if-readies.self.batches.spare ≡ b.spare = ap (λ t. t.batches.spare) w.self-is in
          omega (arith, small, kept)
    ]
  where
    left : (a b : Bool) → (a && b) ≡ true → a ≡ true
    left true b h = refl
    left false b h = absurd (cc)
