use Rattle.std.proofs.Common.{length}
use denote.Text.{Utf8}
use denote.Shadow.{shadow}
use Rattle.mention_scan.proofs.Lines.{LinesScanned}
use Rattle.mention_scan.proofs.spans.scan.Given as goal

abbrev pub invariant-lines : goal.invariant-lines
invariant-lines l = record { text : shadow (Utf8 l.rest); lines : LinesScanned l.text l.rest l.start l.current l.found }

abbrev pub decreases-lines : goal.decreases-lines
decreases-lines l = length l.rest
