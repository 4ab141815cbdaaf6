-- How many owed notices stand where, and how many outbox entries there are.
use Rattle.std.specs.Prelude.{ℕ, ◌-◌, ◌^◌, Bool, true, false, List, length, min, count_by}
use Rattle.chat_model.specs.declared.event.Stamped.{Stamped}
use Rattle.chat_model.specs.declared.counts.Counts.{Counts}
use Rattle.chat_model.specs.declared.row.Cause.{Cause}
use Rattle.chat_model.specs.declared.row.Cause.TheVariants.{Read, Deleted, SwitchedOff}
use Rattle.notice_ledger.specs.declared.accounts.Account.{Account}
use Rattle.notice_ledger.specs.declared.accounts.Account.TheVariants.{NotOwed, Flight, Held, Ready, Handed, Cancelled, LiveQueue}
use Rattle.notice_ledger.specs.Past.Owed.{notices, account_of}
use Rattle.notice_ledger.specs.Past.Pushes.{is_removal_waiting, is_removal_written}
use Rattle.notice_ledger.specs.Past.Outbox.{outbox}

-- two causes are the same
abbrev pub same_cause : Cause → Cause → Bool
same_cause Read Read = true
same_cause Deleted Deleted = true
same_cause SwitchedOff SwitchedOff = true
same_cause _ _ = false

-- two accounts are the same
abbrev pub same_account : Account → Account → Bool
same_account NotOwed NotOwed = true
same_account Flight Flight = true
same_account Held Held = true
same_account Ready Ready = true
same_account Handed Handed = true
same_account (Cancelled cause) (Cancelled other) = same_cause cause other
same_account LiveQueue LiveQueue = true
same_account _ _ = false

-- how many owed notices have an account
unfoldable pub owed_with : List Stamped → Account → ℕ
owed_with j account = count_by (λ n. same_account (account_of j n) account) (notices j)

-- how many pushes are revoked whose removal waits, and how many whose removal was written
unfoldable pub removals_waiting : List Stamped → ℕ
removals_waiting j = count_by (is_removal_waiting j) (notices j)

unfoldable pub removals_written : List Stamped → ℕ
removals_written j = count_by (is_removal_written j) (notices j)

-- a count in 64 bits: a greater one is given as the greatest that they hold
abbrev pub in_64_bits : ℕ → ℕ
in_64_bits count = min count (2 ^ 64 - 1)

-- the owed notices by account, the outbox entries, and the revoked pushes whose removal waits or was written
abbrev pub counts_of : List Stamped → Counts
counts_of j = record {
  flight = in_64_bits (owed_with j Flight);
  held = in_64_bits (owed_with j Held);
  ready = in_64_bits (owed_with j Ready);
  handed = in_64_bits (owed_with j Handed);
  read = in_64_bits (owed_with j (Cancelled Read));
  deleted = in_64_bits (owed_with j (Cancelled Deleted));
  off = in_64_bits (owed_with j (Cancelled SwitchedOff));
  live = in_64_bits (owed_with j LiveQueue);
  entries = in_64_bits (length (outbox j));
  waiting = in_64_bits (removals_waiting j);
  written = in_64_bits (removals_written j);
}
