-- Which rule of a request is broken after any list of events.
use Rattle.std.specs.Prelude.{◌≡◌, ◌≤◌, true, false, IsTrue, List, Option, Some, None, All, Any}
use Rattle.chat_model.specs.declared.event.Stamped.{Stamped}
use Rattle.chat_model.specs.declared.request.Request.{Request}
use Rattle.chat_model.specs.declared.request.Refusal.{Refusal}
use Rattle.chat_model.specs.Refusals.{refusal_number}
use Rattle.chat_model.specs.Ascending.{is_ascending_by}
use Rattle.notice_ledger.specs.Past.Refusals.{Rule}
use Rattle.notice_ledger.specs.Past.Refusals as past
use Rattle.notice_ledger.specs.Lawful.{lawful}

-- the refusal of a request after the lawful events: the first, by number, whose rule is broken
abbrev pub refusal : List Stamped → Request → Option Refusal
refusal j request = past.refusal (lawful j) request

-- ---- laws

-- the rules of a request stand in the order of their refusals' numbers
abbrev pub RulesAscend : Type 0
RulesAscend = (j : List Stamped) (request : Request) → IsTrue (is_ascending_by (λ r. refusal_number r.refusal) (past.rules_of (lawful j) request))

-- none of the rules is broken; or the refusal is that of a broken one, and no broken one has a refusal of a lesser number
abbrev pub IsLeastBroken : List Rule → Option Refusal → Type 0
IsLeastBroken rules None = All (λ r. r.broken ≡ false) rules
IsLeastBroken rules (Some refusal) =
    Any (λ r. (r.broken ≡ true) × (r.refusal ≡ refusal)) rules
    × All (λ r. r.broken ≡ true → refusal_number refusal ≤ refusal_number r.refusal) rules

-- a request is refused by the broken rule of the least number
abbrev pub RefusalIsLeast : Type 0
RefusalIsLeast = (j : List Stamped) (request : Request) → IsLeastBroken (past.rules_of (lawful j) request) (refusal j request)
