-- Which deals still wait for a user, after a list of outcomes.
use Rattle.std.specs.Prelude.{Bool, true, false, not, ◌==◌, ◌&&◌, List, [], ◌∷◌, ◌++◌, Option, Some, None, filter, if◌then◌else◌}
use Rattle.std.specs.List.{list_any}
use Rattle.std.specs.Option.{option_to_list}
use Rattle.chat_model.specs.declared.ids.DealNo.{DealNo}
use Rattle.chat_model.specs.declared.ids.UserId.{UserId}
use Rattle.chat_model.specs.declared.deal.Outcome.{Outcome}
use Rattle.chat_model.specs.declared.deal.Outcome.TheVariants.{Dealt, Cleared, Missed}
use Rattle.chat_model.specs.Ascending.{ascending_once_by}
pub use Rattle.chat_model.specs.Outcomes.{has_deal, is_live, gives_live}

-- the deal that the outcome gives Live for the user
abbrev pub dealt_live : UserId → Outcome → Option DealNo
dealt_live u (Dealt k verdicts) = if gives_live verdicts u then Some k else None
dealt_live u o = None

-- the outcome clears or misses the deal for the user
abbrev pub names : UserId → DealNo → Outcome → Bool
names u k (Dealt d verdicts) = false
names u k (Cleared v deals queue) = v.0 == u.0 && has_deal deals k
names u k (Missed v deals) = v.0 == u.0 && has_deal deals k

-- the deals that a Dealt gives Live for the user and that no later Cleared or Missed for the user names, as they were dealt
abbrev pub left_waiting : List Outcome → UserId → List DealNo
left_waiting [] u = []
left_waiting (o ∷ later) u = filter (λ k. not (list_any (names u k) later)) (option_to_list (dealt_live u o)) ++ left_waiting later u

-- these deals ascending
unfoldable pub outstanding : List Outcome → UserId → List DealNo
outstanding outcomes u = ascending_once_by (λ k. k.0) (left_waiting outcomes u)
