-- `write_record` meets its contract: what the opening refuses, 16 by the size, and then the record is put.
-- Assumes nothing.
use native.Mathlib.Omega.{arith}
use mathlib.Core.Path.{◌≡◌, refl, sym, ◌∙◌}
use lib.ListN.{length}
use borrow.Author.Tests.{lt-ltb, le-ltb}
use Rattle.std.proofs.lemmas.Result.{err_from_is_err_and}
use Rattle.yuv_error.proofs.First.{after_refused, after_finished}
use Rattle.shift_file.specs.File.{bytes_of}
use Rattle.shift_writer.specs.Output.{output_rules}
use Rattle.shift_writer.proofs.Answers.{from_start}
use Rattle.shift_record.specs.Record.{record_made, opening_rules}
use Rattle.shift_record.proofs.Made.{refused_size}
use Rattle.shift_record.proofs.write_record.Goals as goal

pub returns-in_err-planes : goal.returns-in_err-planes
returns-in_err-planes c =
    let k = c.args in
    let p = err_from_is_err_and c.from_residual.result c.from_residual.ensures.1 in
    let refused = c.in_err-planes.ensures.refused in
    rw (p.1, p.2) (record {
      answered =
          after_refused (opening_rules k.frame k.y.now k.u.now k.v.now)
          (output_rules (length (bytes_of (record_made k.frame k.y.now k.u.now k.v.now))) (length k.output.now)) refl refl refused;
      size = refused_size k.frame k.y.now k.u.now k.v.now _ _ refused;
      written = refl;
    })

pub returns-then-output-size : goal.returns-then-output-size
returns-then-output-size c =
    let k = c.args in
    let s = c.in_ok-planes.ensures.same in
    let bytes = bytes_of (record_made k.frame k.y.now k.u.now k.v.now) in
    let size : c.record_size-size.result ≡ length bytes = c.record_size-size.ensures ∙ rw (s.0, s.1, s.2, s.3) in
    record {
      answered =
          sym (after_finished (opening_rules k.frame k.y.now k.u.now k.v.now) (output_rules (length bytes) (length k.output.now)) refl refl c.in_ok-planes.ensures.accepted
          ∙ rw (lt-ltb (length k.output.now) (length bytes) (omega arith)));
      size = size;
      written = refl;
    }

pub returns : goal.returns
returns c =
    let k = c.args in
    let s = c.in_ok-planes.ensures.same in
    let bytes = bytes_of (record_made k.frame k.y.now k.u.now k.v.now) in
    let size : c.record_size-size.result ≡ length bytes = c.record_size-size.ensures ∙ rw (s.0, s.1, s.2, s.3) in
    record {
      answered =
          sym (after_finished (opening_rules k.frame k.y.now k.u.now k.v.now) (output_rules (length bytes) (length k.output.now)) refl refl c.in_ok-planes.ensures.accepted
          ∙ rw (le-ltb (length k.output.now) (length bytes) (omega arith)));
      size = size;
      written = from_start bytes k.output.now _ (rw (s.0, s.1, s.2, s.3) at c.put_record.ensures) (omega arith);
    }
