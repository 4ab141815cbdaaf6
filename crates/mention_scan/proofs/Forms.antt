-- The forms of a span.
use Rattle.std.proofs.Common.{◌≡◌, ℕ, ◌+◌, ◌-◌, ◌≤◌, ◌<◌, Bool, true, false, not, ◌||◌, cond, get_or, get_or-drop, List, [], ◌∷◌, ◌++◌, length, drop, Option, None, Some, refl, sym, ap, ◌∙◌, subst, arith, length-append, length-drop, length-take, nat_eq}
use Rattle.std.specs.Prelude.{IsUtf8, IsCharBoundary, take_while}
use Rattle.std.specs.List.{list_all, prefix_len, starts_with}
use Rattle.std.proofs.Math.Seq.{drop-append_seam}
use Rattle.std.proofs.lemmas.Bool.{and_from, and_parts, true≢false}
use Rattle.std.proofs.lemmas.Bool.Decides.{Decides-eqb, nat_tests}
use Rattle.std.proofs.lemmas.List.{drop-drop, take-append-drop}
use Rattle.std.proofs.lemmas.List.Sums.{prefix_len-le-length, take_while-cons}
use Rattle.std.proofs.lemmas.Slice.Eq.{starts_is}
use Rattle.std.proofs.lemmas.Str.{IsCharBoundary-after_ascii}
use Rattle.mention_scan.specs.Division.{Form, loud_user, silent_user, loud_group, silent_group, opening, closing, form_of, form_with, has_form, inner_in, is_group, is_inner, is_silent, last_character, may_begin, span_form, IsSpan}

-- what is made of whether it is silent and of a group is just that
pub form_with-silent : (silent group : Bool) → is_silent (form_with silent group) ≡ silent
form_with-silent true true = refl
form_with-silent true false = refl
form_with-silent false true = refl
form_with-silent false false = refl

pub form_with-group : (silent group : Bool) → is_group (form_with silent group) ≡ group
form_with-group true true = refl
form_with-group true false = refl
form_with-group false true = refl
form_with-group false false = refl

-- what has a form ends with its closing
pub form-closes : (form : Form) (bs : List ℕ) → has_form form bs ≡ true →
    drop (length (opening form) + length (inner_in form bs)) bs
    ≡ closing form ++ drop (length (closing form)) (drop (length (opening form) + length (inner_in form bs)) bs)
form-closes form bs h =
    (starts_is Decides-eqb (drop (length (opening form) + length (inner_in form bs)) bs) (closing form) _ refl).0 (and_parts _ _ h).1

pub closing-some : (form : Form) → 0 < length (closing form)
closing-some loud_user = omega arith
closing-some silent_user = omega arith
closing-some loud_group = omega arith
closing-some silent_group = omega arith

pub closing-last : (form : Form) (xs : List ℕ) → get_or (closing form ++ xs) (length (closing form) - 1) 0 ≡ 42
closing-last loud_user xs = refl
closing-last silent_user xs = refl
closing-last loud_group xs = refl
closing-last silent_group xs = refl

pub form-fits : (form : Form) (bs : List ℕ) → has_form form bs ≡ true →
    length (opening form) + length (inner_in form bs) + length (closing form) ≤ length bs
form-fits form bs h =
    let k = length (opening form) + length (inner_in form bs) in
    let all : length (drop k bs) ≡ length (closing form) + length (drop (length (closing form)) (drop k bs)) =
    ap length (form-closes form bs h) ∙ length-append (closing form) (drop (length (closing form)) (drop k bs)) in
    let some = closing-some form in
    omega (arith, all, length-drop k bs)

-- so its last byte is a star
pub form-star : (form : Form) (bs : List ℕ) → has_form form bs ≡ true →
    get_or bs (length (opening form) + length (inner_in form bs) + length (closing form) - 1) 0 ≡ 42
form-star form bs h =
    let k = length (opening form) + length (inner_in form bs) in
    let j = length (closing form) - 1 in
    let some = closing-some form in
    let at : k + j ≡ k + length (closing form) - 1 = omega arith in
    subst (λ i. get_or bs i 0 ≡ 42) at
    (sym (get_or-drop k bs j 0) ∙ ap (λ xs. get_or xs j 0) (form-closes form bs h) ∙ closing-last form (drop (length (closing form)) (drop k bs)))

pub form-boundary : (form : Form) (bs : List ℕ) (n : ℕ) → IsUtf8 bs → has_form form bs ≡ true →
    n ≡ length (opening form) + length (inner_in form bs) + length (closing form) → IsCharBoundary bs n
form-boundary form bs n u h e =
    let k = length (opening form) + length (inner_in form bs) in
    let j = length (closing form) - 1 in
    let some = closing-some form in
    let fits = form-fits form bs h in
    let star : get_or bs (k + j) 0 ≡ 42 =
    sym (get_or-drop k bs j 0) ∙ ap (λ xs. get_or xs j 0) (form-closes form bs h) ∙ closing-last form (drop (length (closing form)) (drop k bs)) in
    let last : (k + j) + 1 ≡ n = omega arith in
    subst (IsCharBoundary bs) last (IsCharBoundary-after_ascii bs (k + j) u (omega arith) (omega (arith, star)))

-- the form of a span that begins the bytes is one with which they begin
pub span_form-has : (before : Option ℕ) (bs : List ℕ) (form : Form) → span_form before bs ≡ Some form → has_form form bs ≡ true
span_form-has before bs form h = begins (may_begin before) h
  where
    last : (t : Bool) → has_form silent_group bs ≡ t → cond t (Some silent_group) None ≡ Some form → has_form form bs ≡ true
    last true e h = let same : silent_group ≡ form = cc in subst (λ f. has_form f bs ≡ true) same e
    last false e h = absurd cc

    third : (t : Bool) → has_form loud_group bs ≡ t → cond t (Some loud_group) (cond (has_form silent_group bs) (Some silent_group) None) ≡ Some form → has_form form bs ≡ true
    third true e h = let same : loud_group ≡ form = cc in subst (λ f. has_form f bs ≡ true) same e
    third false e h = last (has_form silent_group bs) refl h

    second : (t : Bool) → has_form silent_user bs ≡ t → cond t (Some silent_user) (cond (has_form loud_group bs) (Some loud_group) (cond (has_form silent_group bs) (Some silent_group) None)) ≡ Some form → has_form form bs ≡ true
    second true e h = let same : silent_user ≡ form = cc in subst (λ f. has_form f bs ≡ true) same e
    second false e h = third (has_form loud_group bs) refl h

    first : (t : Bool) → has_form loud_user bs ≡ t → cond t (Some loud_user) (cond (has_form silent_user bs) (Some silent_user) (cond (has_form loud_group bs) (Some loud_group) (cond (has_form silent_group bs) (Some silent_group) None))) ≡ Some form → has_form form bs ≡ true
    first true e h = let same : loud_user ≡ form = cc in subst (λ f. has_form f bs ≡ true) same e
    first false e h = second (has_form silent_user bs) refl h

    begins : (t : Bool) → cond t (form_of bs) None ≡ Some form → has_form form bs ≡ true
    begins true h = first (has_form loud_user bs) refl h
    begins false h = absurd cc

-- ---- spans that fit

-- what has a form is its opening, an Inner, its closing and what stands behind it
pub form-stands : (form : Form) (bs : List ℕ) → has_form form bs ≡ true →
    bs ≡ opening form ++ (inner_in form bs ++ (closing form ++ drop (length (closing form)) (drop (length (opening form) + length (inner_in form bs)) bs)))
form-stands form bs h =
    let inner = inner_in form bs in
    let k = length (opening form) in
    let opened : bs ≡ opening form ++ drop k bs =
    (starts_is Decides-eqb bs (opening form) _ refl).0 (and_parts (starts_with nat_eq bs (opening form)) _ (and_parts _ _ h).0).0 in
    let long : length inner ≡ prefix_len is_inner (drop k bs) = omega (arith, length-take (prefix_len is_inner (drop k bs)) (drop k bs), prefix_len-le-length is_inner (drop k bs)) in
    let behind = drop-drop (length inner) k bs ∙ form-closes form bs h in
    let split : drop k bs ≡ inner ++ drop (length inner) (drop k bs) =
    sym (take-append-drop (prefix_len is_inner (drop k bs)) (drop k bs)) ∙ ap (λ i. inner ++ drop i (drop k bs)) (sym long) in
    opened ∙ ap (λ xs. opening form ++ xs) (split ∙ ap (λ xs. inner ++ xs) behind)

-- what has a form has an Inner
pub form-some : (form : Form) (bs : List ℕ) → has_form form bs ≡ true → 0 < length (inner_in form bs)
form-some form bs h =
    let some = (and_parts (starts_with nat_eq bs (opening form)) _ (and_parts _ _ h).0).1 in
    grind (arith, nat_tests)

taken-pass : (p : ℕ → Bool) (xs : List ℕ) → list_all p (take_while p xs) ≡ true
taken-pass p [] = refl
taken-pass p (x ∷ xs) = ap (list_all p) (take_while-cons p x xs) ∙ by (p x) refl (taken-pass p xs)
  where
    by : (t : Bool) → p x ≡ t → list_all p (take_while p xs) ≡ true → list_all p (cond t (x ∷ take_while p xs) []) ≡ true
    by true is behind = and_from (p x) _ is behind
    by false is behind = refl

taken-while : (p : ℕ → Bool) (xs : List ℕ) (y : ℕ) (ys : List ℕ) → list_all p xs ≡ true → p y ≡ false → take_while p (xs ++ y ∷ ys) ≡ xs
taken-while p [] y ys pass stops = take_while-cons p y ys ∙ ap (λ t. cond t (y ∷ take_while p ys) []) stops
taken-while p (x ∷ xs) y ys pass stops =
    let parts = and_parts (p x) (list_all p xs) pass in
    take_while-cons p x (xs ++ y ∷ ys) ∙ ap (λ t. cond t (x ∷ take_while p (xs ++ y ∷ ys)) []) parts.0 ∙ ap (λ zs. x ∷ zs) (taken-while p xs y ys parts.1 stops)

-- the Inner ends at the closing's star
inner-ends : (form : Form) (inner after : List ℕ) → list_all is_inner inner ≡ true → take_while is_inner (inner ++ (closing form ++ after)) ≡ inner
inner-ends loud_user inner after within = taken-while is_inner inner 42 (42 ∷ after) within refl
inner-ends silent_user inner after within = taken-while is_inner inner 42 (42 ∷ after) within refl
inner-ends loud_group inner after within = taken-while is_inner inner 42 after within refl
inner-ends silent_group inner after within = taken-while is_inner inner 42 after within refl

-- a span that fits has the Inner that its form has
pub span-inner : (before rest : List ℕ) (form : Form) (inner : List ℕ) → IsSpan before rest form inner → inner_in form rest ≡ inner
span-inner before rest form inner s =
    ap (take_while is_inner) (ap (drop (length (opening form))) s.stands ∙ drop-append_seam (opening form) (inner ++ (closing form ++ s.after)))
    ∙ inner-ends form inner s.after s.within

-- and has its form
pub span-form : (before rest : List ℕ) (form : Form) (inner : List ℕ) → IsSpan before rest form inner → has_form form rest ≡ true
span-form before rest form inner s =
    let same = span-inner before rest form inner s in
    let behind : drop (length (opening form)) rest ≡ inner ++ (closing form ++ s.after) =
    ap (drop (length (opening form))) s.stands ∙ drop-append_seam (opening form) (inner ++ (closing form ++ s.after)) in
    let end : drop (length (opening form) + length (inner_in form rest)) rest ≡ closing form ++ s.after =
    ap (λ i. drop (length (opening form) + length i) rest) same ∙ sym (drop-drop (length inner) (length (opening form)) rest)
    ∙ ap (drop (length inner)) behind ∙ drop-append_seam inner (closing form ++ s.after) in
    let opened = (starts_is Decides-eqb rest (opening form) _ refl).1 (inner ++ (closing form ++ s.after)) s.stands in
    let closed = (starts_is Decides-eqb (drop (length (opening form) + length (inner_in form rest)) rest) (closing form) _ refl).1 s.after end in
    let long : length (inner_in form rest) ≡ length inner = ap length same in
    let some = s.some in
    let full : not (nat_eq (length (inner_in form rest)) 0) ≡ true = grind (arith, nat_tests) in
    and_from _ _ (and_from _ _ opened full) closed

-- where it may begin, a span of a form that the bytes have fits
pub form-span : (before rest : List ℕ) (form : Form) → may_begin (last_character before) ≡ true → has_form form rest ≡ true → IsSpan before rest form (inner_in form rest)
form-span before rest form place h = record {
  place = place;
  after = drop (length (closing form)) (drop (length (opening form) + length (inner_in form rest)) rest);
  stands = form-stands form rest h;
  some = form-some form rest h;
  within = taken-pass is_inner (drop (length (opening form)) rest);
}

-- where no span begins, none fits
pub span_form-none : (before rest : List ℕ) (form : Form) (inner : List ℕ) → span_form (last_character before) rest ≡ None → IsSpan before rest form inner → ⊥
span_form-none before rest form inner none s =
    found form (span-form before rest form inner s) (ap (λ t. cond t (form_of rest) None) (sym s.place) ∙ none)
  where
    found : (f : Form) → has_form f rest ≡ true → form_of rest ≡ None → ⊥
    found loud_user h e = let one : form_of rest ≡ Some loud_user = ap (λ t. cond t (Some loud_user) (cond (has_form silent_user rest) (Some silent_user) (cond (has_form loud_group rest) (Some loud_group) (cond (has_form silent_group rest) (Some silent_group) None)))) h in cc
    found silent_user h e = second (has_form loud_user rest) (ap (λ t. cond (has_form loud_user rest) (Some loud_user) (cond t (Some silent_user) (cond (has_form loud_group rest) (Some loud_group) (cond (has_form silent_group rest) (Some silent_group) None)))) (sym h) ∙ e)
      where
        second : (t : Bool) → cond t (Some loud_user) (Some silent_user) ≡ None → ⊥
        second true e = cc
        second false e = cc
    found loud_group h e = third (has_form loud_user rest) (has_form silent_user rest) (ap (λ t. cond (has_form loud_user rest) (Some loud_user) (cond (has_form silent_user rest) (Some silent_user) (cond t (Some loud_group) (cond (has_form silent_group rest) (Some silent_group) None)))) (sym h) ∙ e)
      where
        third : (t u : Bool) → cond t (Some loud_user) (cond u (Some silent_user) (Some loud_group)) ≡ None → ⊥
        third true u e = cc
        third false true e = cc
        third false false e = cc
    found silent_group h e = last (has_form loud_user rest) (has_form silent_user rest) (has_form loud_group rest) (ap (λ t. cond (has_form loud_user rest) (Some loud_user) (cond (has_form silent_user rest) (Some silent_user) (cond (has_form loud_group rest) (Some loud_group) (cond t (Some silent_group) None)))) (sym h) ∙ e)
      where
        last : (t u v : Bool) → cond t (Some loud_user) (cond u (Some silent_user) (cond v (Some loud_group) (Some silent_group))) ≡ None → ⊥
        last true u v e = cc
        last false true v e = cc
        last false false true e = cc
        last false false false e = cc

-- where a span's form was found, it may begin
pub span_form-place : (character : Option ℕ) (bs : List ℕ) (form : Form) → span_form character bs ≡ Some form → may_begin character ≡ true
span_form-place character bs form h = by (may_begin character) refl h
  where
    by : (t : Bool) → may_begin character ≡ t → cond t (form_of bs) None ≡ Some form → may_begin character ≡ true
    by true is e = is
    by false is e = absurd cc

-- ---- one form fits

-- the second byte of a span tells whether it is silent
second-byte : (before rest : List ℕ) (form : Form) (inner : List ℕ) → IsSpan before rest form inner → get_or rest 1 0 ≡ cond (is_silent form) 95 42
second-byte before rest loud_user inner s = ap (λ bs. get_or bs 1 0) s.stands
second-byte before rest silent_user inner s = ap (λ bs. get_or bs 1 0) s.stands
second-byte before rest loud_group inner s = ap (λ bs. get_or bs 1 0) s.stands
second-byte before rest silent_group inner s = ap (λ bs. get_or bs 1 0) s.stands

inner-no_star : (inner after : List ℕ) → 0 < length inner → list_all is_inner inner ≡ true → nat_eq (get_or (inner ++ after) 0 0) 42 ≡ false
inner-no_star [] after some within = absurd (omega arith)
inner-no_star (x ∷ xs) after some within = by (nat_eq x 42) (and_parts (is_inner x) _ within).0
  where
    by : (t : Bool) → not (t || nat_eq x 10) ≡ true → t ≡ false
    by true h = absurd (true≢false (sym h))
    by false h = refl

-- and the byte behind its first star whether it is of a user
third-byte : (before rest : List ℕ) (form : Form) (inner : List ℕ) → IsSpan before rest form inner → nat_eq (get_or rest (cond (is_silent form) 3 2) 0) 42 ≡ not (is_group form)
third-byte before rest loud_user inner s = ap (λ bs. nat_eq (get_or bs 2 0) 42) s.stands
third-byte before rest silent_user inner s = ap (λ bs. nat_eq (get_or bs 3 0) 42) s.stands
third-byte before rest loud_group inner s = ap (λ bs. nat_eq (get_or bs 2 0) 42) s.stands ∙ inner-no_star inner (closing loud_group ++ s.after) s.some s.within
third-byte before rest silent_group inner s = ap (λ bs. nat_eq (get_or bs 3 0) 42) s.stands ∙ inner-no_star inner (closing silent_group ++ s.after) s.some s.within

made-of : (form : Form) → form_with (is_silent form) (is_group form) ≡ form
made-of loud_user = refl
made-of silent_user = refl
made-of loud_group = refl
made-of silent_group = refl

same-bytes : (a b : Bool) → ◌≡◌ {A = ℕ} (cond a 95 42) (cond b 95 42) → a ≡ b
same-bytes true true e = refl
same-bytes true false e = absurd (omega arith)
same-bytes false true e = absurd (omega arith)
same-bytes false false e = refl

same-not : (a b : Bool) → not a ≡ not b → a ≡ b
same-not true true e = refl
same-not true false e = absurd (true≢false (sym e))
same-not false true e = absurd (true≢false e)
same-not false false e = refl

-- of the four forms no two fit at one place
pub one-form : (before rest : List ℕ) (f g : Form) (i j : List ℕ) → IsSpan before rest f i → IsSpan before rest g j → f ≡ g
one-form before rest f g i j s t =
    let silent : is_silent f ≡ is_silent g = same-bytes _ _ (sym (second-byte before rest f i s) ∙ second-byte before rest g j t) in
    let group : is_group f ≡ is_group g =
    same-not _ _ (sym (third-byte before rest f i s) ∙ ap (λ b. nat_eq (get_or rest (cond b 3 2) 0) 42) silent ∙ third-byte before rest g j t) in
    sym (made-of f) ∙ ap (λ b. form_with b (is_group f)) silent ∙ ap (form_with (is_silent g)) group ∙ made-of g
