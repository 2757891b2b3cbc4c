-- The length first; and there are as many keys as records. Assumes nothing.
use Rattle.std.proofs.Common.{arith, ◌≡◌, length}
use Rattle.shift_file.specs.Read.{records_in}
use Rattle.crossing_keys.proofs.Places.{records_counted}
use Rattle.summary_check.proofs.Tests.{summary_told, short_told}
use Rattle.summary_check.proofs.is_summary.Goals as goal

pub returns-then-summary-file : goal.returns-then-summary-file
returns-then-summary-file c =
    let f = c.args.file.now in
    short_told f.form (records_in f.form f.bytes.now) c.args.summary.now (omega (arith, records_counted f))

pub returns : goal.returns
returns c =
    let f = c.args.file.now in
    let o = c.sorted-ordered in
    let rs = records_in f.form f.bytes.now in
    let many : length o.result.keys.now ≡ length rs = omega (arith, o.ensures.counted, records_counted f) in
    summary_told f.form rs c.args.summary.now _ _ many (omega (arith, many, records_counted f)) (rw o.ensures.same at c.are_those.ensures)
