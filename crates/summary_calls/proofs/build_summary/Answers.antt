-- The summary stands at the front. Assumes nothing.
use Rattle.std.proofs.Common.{arith, ◌*◌, ◌≤◌, length}
use borrow.Author.Tests.{le-ltb}
use Rattle.shift_file.specs.Read.{records_in}
use Rattle.shift_reader.proofs.Files.{file_known}
use Rattle.shift_writer.proofs.Answers.{from_start}
use Rattle.crossing_keys.proofs.Places.{records_counted}
use Rattle.shift_summary.specs.Built.{summary_of}
use Rattle.shift_summary.proofs.Built.{built_length}
use Rattle.summary_calls.proofs.build_summary.Goals as goal

pub returns : goal.returns
returns c =
    let f = c.in_ok-records.records in
    let s = c.in_ok-records.ensures.same in
    let rs = records_in f.form f.bytes.now in
    let room : 13 * length rs ≤ length c.args.summary.now = omega (arith, records_counted f) in
    rw (← s.0, ← s.1) (record {
      answered = rw (f.checked, le-ltb (length c.args.summary.now) (13 * length rs) room);
      written = from_start (summary_of f.form rs) c.args.summary.now _ c.write_summary.ensures (omega (arith, built_length f.form rs (file_known f).its.has));
    })
