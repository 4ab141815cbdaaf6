-- The lawful events of any list of events.
use Rattle.std.specs.Prelude.{◌≡◌, Bool, List, [], ◌∷◌, ◌++◌, if◌then◌else◌}
use Rattle.chat_model.specs.declared.event.Stamped.{Stamped}
use Rattle.notice_ledger.specs.Past.Lawful as past

-- the lawful events, from front to back: each that is lawful behind those kept before it
abbrev pub kept_from : List Stamped → List Stamped → List Stamped
kept_from kept [] = kept
kept_from kept (s ∷ ss) = kept_from (if past.is_lawful_after kept s then kept ++ s ∷ [] else kept) ss

-- the lawful events of a list
unfoldable pub lawful : List Stamped → List Stamped
lawful j = kept_from [] j

-- a list of lawful events alone
abbrev pub IsLawful : List Stamped → Type 0
IsLawful j = lawful j ≡ j

-- an event is lawful after a list of events where it is lawful behind the lawful ones
abbrev pub is_lawful_after : List Stamped → Stamped → Bool
is_lawful_after j s = past.is_lawful_after (lawful j) s
