-- Lists of outcomes in which each may stand where it stands.
use Rattle.std.specs.Prelude.{◌≡◌, ◌≢◌, ◌+◌, ⊤, true, List, [], ◌∷◌, ◌++◌, Option, Some, None, IfSome}
use Rattle.std.specs.List.{filter_map, last_or, list_all}
use Rattle.chat_model.specs.declared.ids.DealNo.{DealNo}
use Rattle.chat_model.specs.declared.ids.UserId.{UserId}
use Rattle.chat_model.specs.declared.deal.Outcome.{Outcome}
use Rattle.chat_model.specs.declared.deal.Outcome.TheVariants.{Dealt, Cleared, Missed}
use Rattle.chat_model.specs.declared.deal.UserVerdict.{UserVerdict}
use Rattle.chat_model.specs.Ascending.{is_ascending_by}
use Rattle.missed_hook.specs.Outstanding.{has_deal, outstanding}

-- the deal that the outcome deals
abbrev pub deal_dealt : Outcome → Option DealNo
deal_dealt (Dealt k verdicts) = Some k
deal_dealt o = None

-- the deal that was dealt last
unfoldable pub last_dealt : List Outcome → Option DealNo
last_dealt outcomes = last_or None (filter_map deal_dealt outcomes)

-- the deal is the one after the last, if one was dealt before, and its users ascend
pub record DealsNext (past : List Outcome) (k : DealNo) (verdicts : List UserVerdict) : Type 0 where
  pub next : IfSome (last_dealt past) (λ last. k.0 ≡ last.0 + 1)
  pub ascending : is_ascending_by (λ v. v.user.0) verdicts ≡ true

-- an ascending part, which isn't empty, of what is outstanding for the user
pub record ClearsPart (past : List Outcome) (u : UserId) (deals : List DealNo) : Type 0 where
  pub some : deals ≢ []
  pub ascending : is_ascending_by (λ k. k.0) deals ≡ true
  pub waited : list_all (has_deal (outstanding past u)) deals ≡ true

-- all that is outstanding for the user, which isn't empty
pub record MissesAll (past : List Outcome) (u : UserId) (deals : List DealNo) : Type 0 where
  pub some : deals ≢ []
  pub all : deals ≡ outstanding past u

-- the outcome may stand next after these
abbrev pub MayFollow : List Outcome → Outcome → Type 0
MayFollow past (Dealt k verdicts) = DealsNext past k verdicts
MayFollow past (Cleared u deals queue) = ClearsPart past u deals
MayFollow past (Missed u deals) = MissesAll past u deals

-- each outcome of the second list may stand next after the first list and those before it
abbrev pub FollowOn : List Outcome → List Outcome → Type 0
FollowOn past [] = ⊤
FollowOn past (o ∷ os) = MayFollow past o × FollowOn (past ++ o ∷ []) os

-- each outcome may stand next after those before it
pub record IsOrderly (outcomes : List Outcome) : Type 0 where
  pub each : FollowOn [] outcomes
