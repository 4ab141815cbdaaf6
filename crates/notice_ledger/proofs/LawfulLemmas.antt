-- The lawful events of a list, event by event, and what a list of lawful events alone means.
use Rattle.std.proofs.Common.{◌≡◌, Bool, true, false, List, [], ◌∷◌, ◌++◌, refl, sym, ap, ◌∙◌, subst}
use Rattle.std.specs.Prelude.{if◌then◌else◌}
use Rattle.chat_model.specs.declared.event.Stamped.{Stamped}
use Rattle.notice_ledger.specs.Past.Lawful as past
use Rattle.notice_ledger.specs.Lawful.{is_lawful_after, kept_from, lawful, IsLawful}

kept_from-append : (kept j : List Stamped) (s : Stamped) → kept_from kept (j ++ s ∷ []) ≡ (if past.is_lawful_after (kept_from kept j) s then kept_from kept j ++ s ∷ [] else kept_from kept j)
kept_from-append kept [] s = refl
kept_from-append kept (t ∷ ts) s = kept_from-append (if past.is_lawful_after kept t then kept ++ t ∷ [] else kept) ts s

-- one more event is among the lawful ones where it is lawful after the list
pub lawful-append : (j : List Stamped) (s : Stamped) → lawful (j ++ s ∷ []) ≡ (if is_lawful_after j s then lawful j ++ s ∷ [] else lawful j)
unfolding lawful
lawful-append j s = kept_from-append [] j s

-- a lawful event is among the lawful ones
pub lawful-next : (j : List Stamped) (s : Stamped) → is_lawful_after j s ≡ true → lawful (j ++ s ∷ []) ≡ lawful j ++ s ∷ []
lawful-next j s next = lawful-append j s ∙ ap (λ b. if b then lawful j ++ s ∷ [] else lawful j) next

pub IsLawful-nil : IsLawful []
unfolding lawful
IsLawful-nil = refl

-- a lawful event keeps a list lawful
pub IsLawful-append : (j : List Stamped) (s : Stamped) → IsLawful j → is_lawful_after j s ≡ true → IsLawful (j ++ s ∷ [])
IsLawful-append j s h next = lawful-next j s next ∙ ap (λ k. k ++ s ∷ []) h

-- what is said of the lawful events of a list is said of a lawful list itself
pub of_lawful : {A : Type 0} (word : List Stamped → A) (j : List Stamped) → IsLawful j → word (lawful j) ≡ word j
of_lawful word j h = ap word h

kept_from-lawful : (kept j : List Stamped) → IsLawful kept → IsLawful (kept_from kept j)
kept_from-lawful kept [] h = h
kept_from-lawful kept (s ∷ ss) h = by (past.is_lawful_after kept s) refl (λ more is_lawful. kept_from-lawful more ss is_lawful)
  where
    by : (b : Bool) → past.is_lawful_after kept s ≡ b → ((more : List Stamped) → IsLawful more → IsLawful (kept_from more ss)) → IsLawful (kept_from (if b then kept ++ s ∷ [] else kept) ss)
    by true next rest = rest (kept ++ s ∷ []) (IsLawful-append kept s h (ap (λ k. past.is_lawful_after k s) h ∙ next))
    by false next rest = rest kept h

as_kept : (j : List Stamped) → kept_from [] j ≡ lawful j
unfolding lawful
as_kept j = refl

-- the lawful events of a list are a lawful list
pub lawful-lawful : (j : List Stamped) → IsLawful (lawful j)
lawful-lawful j = subst (λ k. lawful k ≡ k) (as_kept j) (kept_from-lawful [] j IsLawful-nil)

-- what holds of no events, and goes on to one more lawful event, holds of lawful events
pub lawful-by_steps : (P : List Stamped → Type 0) → P [] → ((j : List Stamped) (s : Stamped) → P j → past.is_lawful_after j s ≡ true → P (j ++ s ∷ [])) → (j : List Stamped) → P (lawful j)
unfolding lawful
lawful-by_steps P start step j = steps [] j start
  where
    steps : (kept j : List Stamped) → P kept → P (kept_from kept j)
    steps kept [] h = h
    steps kept (s ∷ ss) h = by (past.is_lawful_after kept s) refl (λ more p. steps more ss p)
      where
        by : (b : Bool) → past.is_lawful_after kept s ≡ b → ((more : List Stamped) → P more → P (kept_from more ss)) → P (kept_from (if b then kept ++ s ∷ [] else kept) ss)
        by true next rest = rest (kept ++ s ∷ []) (step kept s h next)
        by false next rest = rest kept h

-- where the step may also use that the events before it are lawful
pub lawful-by_lawful_steps : (P : List Stamped → Type 0) → P [] → ((j : List Stamped) (s : Stamped) → IsLawful j → P j → past.is_lawful_after j s ≡ true → P (j ++ s ∷ [])) → (j : List Stamped) → P (lawful j)
lawful-by_lawful_steps P start step j =
    (lawful-by_steps (λ k. IsLawful k × P k) (IsLawful-nil, start) (λ k s h next.
    (IsLawful-append k s h.0 (ap (λ l. past.is_lawful_after l s) h.0 ∙ next), step k s h.0 h.1 next)) j).1

-- an event that is lawful behind the lawful events is kept, and another isn't
pub kept-lawful : (j : List Stamped) (s : Stamped) (kept : List Stamped) → kept ≡ lawful j → past.is_lawful_after kept s ≡ true → kept ++ s ∷ [] ≡ lawful (j ++ s ∷ [])
kept-lawful j s kept so_far next =
    ap (λ k. k ++ s ∷ []) so_far ∙ sym (lawful-next j s (ap (λ k. past.is_lawful_after k s) (sym so_far) ∙ next))

pub kept-unlawful : (j : List Stamped) (s : Stamped) (kept : List Stamped) → kept ≡ lawful j → past.is_lawful_after kept s ≡ false → kept ≡ lawful (j ++ s ∷ [])
kept-unlawful j s kept so_far next =
    so_far
    ∙ sym (lawful-append j s ∙ ap (λ b. if b then lawful j ++ s ∷ [] else lawful j) (ap (λ k. past.is_lawful_after k s) (sym so_far) ∙ next))
