use Rattle.std.proofs.Common.{◌≡◌, ℕ, ◌≤◌, length, refl, sym, ap, ◌∙◌, Bor, arith}
use Rattle.std.specs.Prelude.{◌↔◌, Option, Some, None, is_some, nat_lt}
use Rattle.std.specs.Option.{option_copied}
use Rattle.std.proofs.lemmas.Bool.{ltb-true, ltb-false}
use Rattle.chat_model.specs.declared.deal.Deal.{Deal}
use Rattle.notice_ledger.specs.Lawful.{lawful}
use Rattle.notice_ledger.proofs.DealLemmas.{deals-counted}
use Rattle.book_tables.proofs.tables.Tables.deal.Goals as goal

-- a place is past the end where nothing was found there
none_past : (o : Option (Bor Deal)) (k n count : ℕ) → is_some o ≡ nat_lt k n → n ≡ count → (option_copied o ≡ None) ↔ (count ≤ k)
none_past None k n count found long = (λ e. omega (arith, ltb-false k n (sym found), long), λ h. refl)
none_past (Some d) k n count found long = (λ e. absurd (cc), λ h. absurd (omega (arith, ltb-true k n (sym found), long, h)))

pub returns-clause-none : goal.returns-clause-none
returns-clause-none c = λ j h.
    none_past c.get.result c.args.number.0 _ _ c.get.ensures.lookup.0 (ap length (c.deref.ensures.value ∙ h.deals) ∙ deals-counted (lawful j))
