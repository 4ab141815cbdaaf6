use Rattle.std.proofs.Common.{◌≡◌, ◌∙◌, ◌++◌, None, ap, arith, sym}
use Rattle.std.specs.Char.{encode_utf8}
use Rattle.mention_scan.specs.Division.{Form, form_with, run_length, span_form}
use Rattle.mention_scan.proofs.Forms.{form-boundary, form_with-group, form_with-silent, span_form-has}
use Rattle.mention_scan.proofs.Reading.{Reading-begin, Reading-run, Reading-span, Reading-single}
use Rattle.mention_scan.proofs.Runs.{run_part-boundary}
use Rattle.mention_scan.proofs.line.scan_line.Goals as goal

pub reading-init : goal.reading-init
reading-init c = record { text = c.utf8.line; reading = Reading-begin c.args.quoted c.args.line.now c.args.start c.args.found.now }

pub range_from-rest-requires : goal.range_from-rest-requires
range_from-rest-requires c =
    let begins = rw c.as_bytes.ensures.value at c.run_of-run.ensures.value in
    let size = rw c.as_bytes-then-run-gt0.ensures.value at c.run_part_length-length.ensures.value in
    λ _. run_part-boundary c.run_of-run.result c.run_part_length-length.result c.reading.rest.now c.reading.invariant.text begins c.if-run-gt0.true size

pub reading-preserved-then-run-gt0 : goal.reading-preserved-then-run-gt0
reading-preserved-then-run-gt0 c =
    let begins = rw c.as_bytes.ensures.value at c.run_of-run.ensures.value in
    let size = rw c.as_bytes-then-run-gt0.ensures.value at c.run_part_length-length.ensures.value in
    let bound = rw c.as_bytes-then-run-gt0.ensures.value at c.run_part_length-length.ensures.bound in
    record {
      text = c.range_from-rest.utf8;
      reading = rw c.range_from-rest.ensures.value (Reading-run c.args.quoted c.args.line.now c.reading.rest.now c.args.start c.reading.place c.run_of-run.result c.run_part_length-length.result c.reading.before c.args.found.now c.reading.found c.reading.invariant.reading c.reading.invariant.text begins c.if-run-gt0.true size bound);
    }

pub length-length-requires : goal.length-length-requires
length-length-requires c =
    let formed = sym (rw c.as_bytes-else-run-gt0.ensures.value at c.in-Some.ensures) in
    let form : Form = form_with c.in-Some.form.silent c.in-Some.form.group in
    record { begins = rw c.as_bytes-in-Some.ensures.value (span_form-has c.reading.before c.reading.rest.now form formed) }

pub range_from-rest-requires-in-Some : goal.range_from-rest-requires-in-Some
range_from-rest-requires-in-Some c =
    let formed = sym (rw c.as_bytes-else-run-gt0.ensures.value at c.in-Some.ensures) in
    let form : Form = form_with c.in-Some.form.silent c.in-Some.form.group in
    let size = rw c.as_bytes-in-Some.ensures.value at c.length-length.ensures.value in
    λ _. form-boundary form c.reading.rest.now c.length-length.result c.reading.invariant.text (span_form-has c.reading.before c.reading.rest.now form formed) size

pub reading-preserved-in-Some : goal.reading-preserved-in-Some
reading-preserved-in-Some c =
    let begins = rw c.as_bytes.ensures.value at c.run_of-run.ensures.value in
    let none : run_length c.reading.rest.now ≡ 0 = omega (arith, begins, c.if-run-gt0.false) in
    let formed = sym (rw c.as_bytes-else-run-gt0.ensures.value at c.in-Some.ensures) in
    let form : Form = form_with c.in-Some.form.silent c.in-Some.form.group in
    let size = rw c.as_bytes-in-Some.ensures.value at c.length-length.ensures.value in
    let read = Reading-span c.args.quoted c.args.line.now c.reading.rest.now c.args.start c.reading.place c.length-length.result c.reading.before c.args.found.now c.reading.found form c.reading.invariant.reading c.reading.invariant.text none formed size in
    let made = rw (form_with-silent c.in-Some.form.silent c.in-Some.form.group, form_with-group c.in-Some.form.silent c.in-Some.form.group) at read in
    record {
      text = c.range_from-rest-in-Some.utf8;
      reading = rw (c.in_ok-push.ensures.ok, c.range_from-rest-in-Some.ensures.value, c.is_silent_in.ensures) made;
    }

pub reading-preserved : goal.reading-preserved
reading-preserved c =
    let begins = rw c.as_bytes.ensures.value at c.run_of-run.ensures.value in
    let none : run_length c.reading.rest.now ≡ 0 = omega (arith, begins, c.if-run-gt0.false) in
    let unformed : span_form c.reading.before c.reading.rest.now ≡ None = sym (rw c.as_bytes-else-run-gt0.ensures.value at c.in_default.ensures) in
    let stands : c.reading.rest.now ≡ encode_utf8 c.in-Some-next.c ++ c.as_str-rest.result.now =
    sym c.chars-characters.ensures.rest ∙ c.in-Some-next.ensures.steps.0 ∙ ap (λ bs. encode_utf8 c.in-Some-next.c ++ bs) (sym c.as_str-rest.ensures) in
    record {
      text = c.as_str-rest.utf8;
      reading = rw c.len_utf8-place.ensures.value (Reading-single c.args.quoted c.args.line.now c.reading.rest.now c.as_str-rest.result.now c.args.start c.reading.place c.in-Some-next.c c.reading.before c.args.found.now c.reading.found c.reading.invariant.reading none unformed c.reading.invariant.text stands);
    }
