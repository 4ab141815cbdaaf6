use Rattle.std.proofs.Common.{◌≡◌, ℕ, ◌||◌, ◌==◌, List, [], ◌∷◌, refl, ap, ◌∙◌}
use Rattle.chat_model.specs.declared.ids.UserId.{UserId}
use Rattle.chat_model.specs.Ascending.{ascending_once_by}
use Rattle.chat_model.proofs.OnceEach.{put_once-has, ascending_once-ascending}
use Rattle.notice_ledger.specs.InOrder.{is_ascending}
use Rattle.notice_ledger.specs.Past.Values.{is_one_of}
use Rattle.book_tables.proofs.facts.set_of.Goals as goal

abbrev number : UserId → ℕ
number u = u.0

-- who is among users is among them in order, once each
has_once : (us : List UserId) (u : UserId) → is_one_of (ascending_once_by number us) u ≡ is_one_of us u
has_once [] u = refl
has_once (v ∷ vs) u = put_once-has number u.0 v (ascending_once_by number vs) ∙ ap (λ b. v.0 == u.0 || b) (has_once vs u)

pub from_ascending-requires : goal.from_ascending-requires
from_ascending-requires c =
    ap is_ascending (c.ascending_users.ensures ∙ ap (ascending_once_by number) c.from.ensures) ∙ ascending_once-ascending number c.args.users.items

pub returns : goal.returns
returns c = λ u.
    ap (λ (us : List UserId). is_one_of us u) (c.from_ascending.ensures ∙ (c.ascending_users.ensures ∙ ap (ascending_once_by number) c.from.ensures)) ∙ has_once c.args.users.items u
