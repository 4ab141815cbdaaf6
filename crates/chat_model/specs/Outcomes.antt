-- What one outcome says of one user and one deal.
use Rattle.std.specs.Prelude.{Bool, true, false, ◌==◌, ◌&&◌, List}
use Rattle.std.specs.List.{list_any}
use Rattle.chat_model.specs.declared.ids.DealNo.{DealNo}
use Rattle.chat_model.specs.declared.ids.UserId.{UserId}
use Rattle.chat_model.specs.declared.deal.Outcome.{Outcome}
use Rattle.chat_model.specs.declared.deal.Outcome.TheVariants.{Dealt, Cleared, Missed}
use Rattle.chat_model.specs.declared.deal.UserVerdict.{UserVerdict}
use Rattle.chat_model.specs.declared.deal.Verdict.{Verdict}
use Rattle.chat_model.specs.declared.deal.Verdict.TheVariants.{Idle, Live}

-- the list has the deal
abbrev pub has_deal : List DealNo → DealNo → Bool
has_deal deals k = list_any (λ d. d.0 == k.0) deals

abbrev pub is_live : Verdict → Bool
is_live Idle = false
is_live Live = true

abbrev pub is_idle : Verdict → Bool
is_idle Idle = true
is_idle Live = false

-- one of the verdicts is Live for the user
abbrev pub gives_live : List UserVerdict → UserId → Bool
gives_live verdicts u = list_any (λ v. v.user.0 == u.0 && is_live v.verdict) verdicts

-- one of the verdicts is Idle for the user
abbrev pub gives_idle : List UserVerdict → UserId → Bool
gives_idle verdicts u = list_any (λ v. v.user.0 == u.0 && is_idle v.verdict) verdicts

-- the outcome deals the deal
abbrev pub is_dealt : DealNo → Outcome → Bool
is_dealt k (Dealt d verdicts) = d.0 == k.0
is_dealt k o = false

-- the outcome deals the deal with Live for the user
abbrev pub is_dealt_live : UserId → DealNo → Outcome → Bool
is_dealt_live u k (Dealt d verdicts) = d.0 == k.0 && gives_live verdicts u
is_dealt_live u k o = false

-- the outcome deals the deal with Idle for the user
abbrev pub is_dealt_idle : UserId → DealNo → Outcome → Bool
is_dealt_idle u k (Dealt d verdicts) = d.0 == k.0 && gives_idle verdicts u
is_dealt_idle u k o = false

-- the outcome clears the deal for the user
abbrev pub is_cleared : UserId → DealNo → Outcome → Bool
is_cleared u k (Cleared v deals queue) = v.0 == u.0 && has_deal deals k
is_cleared u k o = false

-- the outcome misses the deal for the user
abbrev pub is_missed : UserId → DealNo → Outcome → Bool
is_missed u k (Missed v deals) = v.0 == u.0 && has_deal deals k
is_missed u k o = false
