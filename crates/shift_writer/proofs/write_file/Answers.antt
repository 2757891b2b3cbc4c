-- `write_file` meets its contract: the file is put where the output has room for it.
-- Assumes nothing.
use native.Mathlib.Omega.{arith}
use mathlib.Core.Path.{◌≡◌, refl, ◌∙◌}
use lib.ListN.{length}
use borrow.Author.Tests.{le-ltb}
use Rattle.std.proofs.lemmas.Result.{err_from_is_err_and}
use Rattle.shift_writer.specs.Records.{file_made}
use Rattle.shift_writer.proofs.Answers.{from_start}
use Rattle.shift_writer.proofs.write_file.Goals as goal

pub returns-in_err-list : goal.returns-in_err-list
returns-in_err-list c =
    let p = err_from_is_err_and c.from_residual.result c.from_residual.ensures.1 in
    rw (p.1, p.2) (record { answered = rw (c.in_err-list.ensures.refused.0, c.in_err-list.ensures.refused.1); size = rw c.in_err-list.ensures.refused.0; written = refl })

pub returns : goal.returns
returns c =
    let s = c.in_ok-list.ensures.same in
    let file = file_made c.args.form c.args.records.now in
    let size : c.file_size-size.result ≡ length file = c.file_size-size.ensures ∙ rw (s.0, s.1) in
    record {
      answered = rw (c.in_ok-list.ensures.accepted, le-ltb (length c.args.output.now) (length file) (omega arith));
      size = size;
      written = from_start file c.args.output.now _ (rw (s.0, s.1) at c.put_file.ensures) (omega arith);
    }
