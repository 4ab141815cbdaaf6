-- What passes a test of sameness is the same.
use Rattle.std.proofs.Common.{◌≡◌, ℕ, true, eqb, refl, ap, arith}
use Rattle.std.proofs.lemmas.Bool.{eqb-true}
use Rattle.std.proofs.lemmas.Bool.Decides.{nat_tests}
use Rattle.chat_model.specs.declared.ids.UserId.{UserId}
use Rattle.chat_model.specs.declared.ids.MessageId.{MessageId}
use Rattle.chat_model.specs.declared.trigger.Way.{Way}
use Rattle.chat_model.specs.declared.trigger.Way.TheVariants.{Mail, Push}
use Rattle.notice_ledger.specs.Past.Owed.{same_way}

pub eqb-turned : (a b : ℕ) → eqb a b ≡ eqb b a
eqb-turned a b = grind (arith, nat_tests)

pub same_user : (u v : UserId) → eqb u.0 v.0 ≡ true → u ≡ v
same_user u v h = ap (λ (k : ℕ). let x : UserId = record { 0 = k } in x) (eqb-true u.0 v.0 h)

pub same_message : (m n : MessageId) → eqb m.0 n.0 ≡ true → m ≡ n
same_message m n h = ap (λ (k : ℕ). let x : MessageId = record { 0 = k } in x) (eqb-true m.0 n.0 h)

pub same_ways : (v w : Way) → same_way v w ≡ true → v ≡ w
same_ways Mail Mail e = refl
same_ways Push Push e = refl
same_ways v w e = cc
