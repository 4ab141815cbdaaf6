use Rattle.std.proofs.Common.{◌≡◌, ◌<◌, ◌∙◌, ap, arith, length, sym, subst, take}
use Rattle.std.specs.Prelude.{All}
use Rattle.mention_scan.specs.Division.{LiesWithin, division, spans_of}
use Rattle.mention_scan.proofs.Divides.{division-is}
use Rattle.mention_scan.proofs.Fencing.{manner_of}
use Rattle.mention_scan.proofs.Lines.{IsScanned, LinesScanned-begin, LinesScanned-line, LinesScanned-end, line_feed-boundary, behind-boundary, front-range}
use Rattle.mention_scan.proofs.Within.{spans_of-within}
use Rattle.mention_scan.proofs.spans.scan.Goals as goal

pub lines-init : goal.lines-init
lines-init c = record { text = c.utf8.text; lines = rw c.new-found.ensures (LinesScanned-begin c.args.text.now) }

pub range-line-requires-clause-end_boundary : goal.range-line-requires-clause-end_boundary
range-line-requires-clause-end_boundary c =
    let first = rw c.as_bytes.ensures.value at c.line_length-length.ensures.value in
    line_feed-boundary c.lines.rest.now c.line_length-length.result first

all : (c : goal.Then-length-rest) → c.scan_in.new.found ≡ spans_of c.args.text.now
all c =
    let first = rw c.as_bytes.ensures.value at c.line_length-length.ensures.value in
    let line : c.range-line.result.now ≡ take c.line_length-length.result c.lines.rest.now =
    c.range-line.ensures.value ∙ front-range c.lines.rest.now c.line_length-length.result in
    let manner = c.of.ensures ∙ ap (manner_of c.lines.current) (c.as_bytes-in-lines.ensures.value ∙ line) in
    let scanned = subst (λ l. IsScanned c.of.result l c.lines.start c.lines.found c.scan_in.new.found) line
    record { fenced = c.in_ok-scan_in.ensures.fenced; quoted = c.in_ok-scan_in.ensures.quoted; plain = c.in_ok-scan_in.ensures.plain } in
    let here = subst (λ m. IsScanned m (take c.line_length-length.result c.lines.rest.now) c.lines.start c.lines.found c.scan_in.new.found) manner scanned in
    LinesScanned-end c.args.text.now c.lines.rest.now c.lines.start c.line_length-length.result c.lines.current c.lines.found c.scan_in.new.found c.lines.invariant.lines first c.if-length-rest.true here

pub returns-then-length-rest-clause-spans : goal.returns-then-length-rest-clause-spans
returns-then-length-rest-clause-spans c = all c

pub returns-then-length-rest-clause-divided : goal.returns-then-length-rest-clause-divided
returns-then-length-rest-clause-divided c = record { parts = division c.args.text.now; divide = division-is c.args.text.now c.utf8.text; are = all c }

pub returns-then-length-rest-clause-within : goal.returns-then-length-rest-clause-within
returns-then-length-rest-clause-within c =
    subst (All (LiesWithin c.args.text.now)) (sym (all c)) (spans_of-within c.args.text.now c.utf8.text)

pub range_from-rest-requires : goal.range_from-rest-requires
range_from-rest-requires c =
    let first = rw c.as_bytes.ensures.value at c.line_length-length.ensures.value in
    λ _. behind-boundary c.lines.rest.now c.line_length-length.result c.lines.invariant.text first (omega (arith, c.if-length-rest.false, c.line_length-length.ensures.bound, ap length c.as_bytes.ensures.value))

pub lines-preserved : goal.lines-preserved
lines-preserved c =
    let first = rw c.as_bytes.ensures.value at c.line_length-length.ensures.value in
    let more : c.line_length-length.result < length c.lines.rest.now = omega (arith, c.if-length-rest.false, c.line_length-length.ensures.bound, ap length c.as_bytes.ensures.value) in
    let line : c.range-line.result.now ≡ take c.line_length-length.result c.lines.rest.now =
    c.range-line.ensures.value ∙ front-range c.lines.rest.now c.line_length-length.result in
    let manner = c.of.ensures ∙ ap (manner_of c.lines.current) (c.as_bytes-in-lines.ensures.value ∙ line) in
    let scanned = subst (λ l. IsScanned c.of.result l c.lines.start c.lines.found c.scan_in.new.found) line
    record { fenced = c.in_ok-scan_in.ensures.fenced; quoted = c.in_ok-scan_in.ensures.quoted; plain = c.in_ok-scan_in.ensures.plain } in
    let here = subst (λ m. IsScanned m (take c.line_length-length.result c.lines.rest.now) c.lines.start c.lines.found c.scan_in.new.found) manner scanned in
    record {
      text = c.range_from-rest.utf8;
      lines = rw (c.behind-current.ensures, c.as_bytes-in-lines-2.ensures.value, line, c.range_from-rest.ensures.value)
          (LinesScanned-line c.args.text.now c.lines.rest.now c.lines.start c.line_length-length.result c.lines.current c.lines.found c.scan_in.new.found c.lines.invariant.lines first more
          (rw line at c.range-line.utf8) here);
    }
