use Rattle.std.proofs.Common.{length}
use denote.Text.{Utf8}
use denote.Shadow.{shadow}
use Rattle.mention_scan.proofs.Reading.{Reading}
use Rattle.mention_scan.proofs.line.scan_line.Given as goal

abbrev pub invariant-reading : goal.invariant-reading
invariant-reading l = record { text : shadow (Utf8 l.rest); reading : Reading l.quoted l.line l.rest l.start l.place l.before l.initial.found l.found }

abbrev pub decreases-reading : goal.decreases-reading
decreases-reading l = length l.rest
