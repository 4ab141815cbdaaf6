-- Being of one conversation is the same from either side, and carries on.
use Rattle.std.proofs.Common.{◌≡◌, ℕ, Bool, true, false, ◌||◌, ◌==◌, List, [], ◌∷◌, refl, sym, ap, ◌∙◌, subst, inl, inr}
use Rattle.std.specs.List.{list_all, list_any}
use Rattle.std.specs.Str.{bytes_eq, str_eq_ignore_ascii_case, str_to_ascii_lowercase}
use Rattle.std.proofs.lemmas.Bool.{and_from, and_parts, cases_eq, eq-eqb, eqb-true, false≢true, ne_eqb, or_left}
use Rattle.chat_model.specs.declared.ids.UserId.{UserId}
use Rattle.chat_model.specs.declared.entry.Conversation.{Conversation}
use Rattle.chat_model.specs.declared.entry.Conversation.TheVariants.{Channel, Direct}
use Rattle.mail_batches.specs.Conversations.{has_user, same_users, same_conversation}

bytes-same : (xs ys : List ℕ) → bytes_eq xs ys ≡ true → xs ≡ ys
bytes-same [] [] h = refl
bytes-same [] (y ∷ ys) h = absurd (false≢true h)
bytes-same (x ∷ xs) [] h = absurd (false≢true h)
bytes-same (x ∷ xs) (y ∷ ys) h =
    let parts = and_parts (x == y) (bytes_eq xs ys) h in
    ap (λ n. n ∷ xs) (eqb-true x y parts.0) ∙ ap (λ zs. y ∷ zs) (bytes-same xs ys parts.1)

bytes-itself : (xs : List ℕ) → bytes_eq xs xs ≡ true
bytes-itself [] = refl
bytes-itself (x ∷ xs) = and_from (x == x) (bytes_eq xs xs) (eq-eqb x x refl) (bytes-itself xs)

bytes-from : (xs ys : List ℕ) → xs ≡ ys → bytes_eq xs ys ≡ true
bytes-from xs ys e = subst (λ (zs : List ℕ). bytes_eq xs zs ≡ true) e (bytes-itself xs)

-- ---- sets of users

among-more : (u : UserId) (us vs : List UserId) → list_all (has_user us) vs ≡ true → list_all (has_user (u ∷ us)) vs ≡ true
among-more u us [] h = refl
among-more u us (v ∷ vs) h =
    let parts = and_parts (has_user us v) (list_all (has_user us) vs) h in
    and_from (has_user (u ∷ us) v) (list_all (has_user (u ∷ us)) vs) (or_right (u.0 == v.0) parts.0) (among-more u us vs parts.1)
  where
    or_right : {b : Bool} (a : Bool) → b ≡ true → (a || b) ≡ true
    or_right true k = refl
    or_right false k = k

among-itself : (us : List UserId) → list_all (has_user us) us ≡ true
among-itself [] = refl
among-itself (u ∷ us) =
    and_from (has_user (u ∷ us) u) (list_all (has_user (u ∷ us)) us) (or_left (u.0 == u.0) (has_user us u) (eq-eqb u.0 u.0 refl)) (among-more u us us (among-itself us))

-- a user who is one of those who are all among others is among the others
through : (u : UserId) (vs ws : List UserId) → has_user vs u ≡ true → list_all (has_user ws) vs ≡ true → has_user ws u ≡ true
through u [] ws h all = absurd (false≢true h)
through u (v ∷ vs) ws h all =
    let parts = and_parts (has_user ws v) (list_all (has_user ws) vs) all in
    elim (cases_eq v.0 u.0) [
      | inl e ↦ ap (λ n. list_any (λ (w : UserId). w.0 == n) ws) (sym e) ∙ parts.0
      | inr ne ↦ through u vs ws (sym (ap (λ b. b || has_user vs u) (ne_eqb v.0 u.0 ne)) ∙ h) parts.1
    ]

among-through : (us vs ws : List UserId) → list_all (has_user vs) us ≡ true → list_all (has_user ws) vs ≡ true → list_all (has_user ws) us ≡ true
among-through [] vs ws h all = refl
among-through (u ∷ us) vs ws h all =
    let parts = and_parts (has_user vs u) (list_all (has_user vs) us) h in
    and_from (has_user ws u) (list_all (has_user ws) us) (through u vs ws parts.0 all) (among-through us vs ws parts.1 all)

-- ---- conversations

pub same-itself : (a : Conversation) → same_conversation a a ≡ true
same-itself (Channel c name topic) = and_from (c.0 == c.0) (str_eq_ignore_ascii_case topic topic) (eq-eqb c.0 c.0 refl) (bytes-itself (str_to_ascii_lowercase topic))
same-itself (Direct us s) = and_from (s.0 == s.0) (same_users us us) (eq-eqb s.0 s.0 refl) (and_from (list_all (has_user us) us) (list_all (has_user us) us) (among-itself us) (among-itself us))

pub same-turned : (a b : Conversation) → same_conversation a b ≡ true → same_conversation b a ≡ true
same-turned (Channel c name topic) (Channel d other_name other) h =
    let parts = and_parts (c.0 == d.0) (str_eq_ignore_ascii_case topic other) h in
    and_from (d.0 == c.0) (str_eq_ignore_ascii_case other topic) (eq-eqb d.0 c.0 (sym (eqb-true c.0 d.0 parts.0)))
    (bytes-from (str_to_ascii_lowercase other) (str_to_ascii_lowercase topic) (sym (bytes-same (str_to_ascii_lowercase topic) (str_to_ascii_lowercase other) parts.1)))
same-turned (Channel c name topic) (Direct us s) h = absurd (false≢true h)
same-turned (Direct us s) (Channel c name topic) h = absurd (false≢true h)
same-turned (Direct us s) (Direct vs r) h =
    let parts = and_parts (s.0 == r.0) (same_users us vs) h in
    let sets = and_parts (list_all (has_user vs) us) (list_all (has_user us) vs) parts.1 in
    and_from (r.0 == s.0) (same_users vs us) (eq-eqb r.0 s.0 (sym (eqb-true s.0 r.0 parts.0))) (and_from (list_all (has_user us) vs) (list_all (has_user vs) us) sets.1 sets.0)

pub same-through : (a b c : Conversation) → same_conversation a b ≡ true → same_conversation b c ≡ true → same_conversation a c ≡ true
same-through (Channel c name topic) (Channel d other_name other) (Channel e third_name third) h k =
    let hs = and_parts (c.0 == d.0) (str_eq_ignore_ascii_case topic other) h in
    let ks = and_parts (d.0 == e.0) (str_eq_ignore_ascii_case other third) k in
    and_from (c.0 == e.0) (str_eq_ignore_ascii_case topic third) (eq-eqb c.0 e.0 (eqb-true c.0 d.0 hs.0 ∙ eqb-true d.0 e.0 ks.0))
    (bytes-from (str_to_ascii_lowercase topic) (str_to_ascii_lowercase third) (bytes-same (str_to_ascii_lowercase topic) (str_to_ascii_lowercase other) hs.1 ∙ bytes-same (str_to_ascii_lowercase other) (str_to_ascii_lowercase third) ks.1))
same-through (Direct us s) (Direct vs r) (Direct ws q) h k =
    let hs = and_parts (s.0 == r.0) (same_users us vs) h in
    let ks = and_parts (r.0 == q.0) (same_users vs ws) k in
    let first = and_parts (list_all (has_user vs) us) (list_all (has_user us) vs) hs.1 in
    let second = and_parts (list_all (has_user ws) vs) (list_all (has_user vs) ws) ks.1 in
    and_from (s.0 == q.0) (same_users us ws) (eq-eqb s.0 q.0 (eqb-true s.0 r.0 hs.0 ∙ eqb-true r.0 q.0 ks.0))
    (and_from (list_all (has_user ws) us) (list_all (has_user us) ws) (among-through us vs ws first.0 second.0) (among-through ws vs us second.1 first.1))
same-through (Channel c name topic) (Channel d other_name other) (Direct ws q) h k = absurd (false≢true k)
same-through (Channel c name topic) (Direct vs r) e h k = absurd (false≢true h)
same-through (Direct us s) (Channel d other_name other) e h k = absurd (false≢true h)
same-through (Direct us s) (Direct vs r) (Channel e third_name third) h k = absurd (false≢true k)
