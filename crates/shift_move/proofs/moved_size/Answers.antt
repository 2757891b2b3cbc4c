-- `moved_size` meets its contract: the record's bytes, less its header, and the header of the other form.
-- Assumes nothing.
use native.Mathlib.Omega.{arith}
use mathlib.Core.Path.{◌≡◌}
use Rattle.shift_file.specs.File.{header_size}
use Rattle.shift_move.specs.Move.{other_form}
use Rattle.shift_move.proofs.Files.{record_moves}
use Rattle.shift_move.proofs.moved_size.Goals as goal

pub overflow_sub-result : goal.overflow_sub-result
overflow_sub-result c =
    let f = c.args.file_record.now.file in
    let m = record_moves c.args.file_record.now in
    omega (arith, c.entry.ensures.size, c.header_size.ensures.0, m.header)

pub overflow_add-result : goal.overflow_add-result
overflow_add-result c =
    let f = c.args.file_record.now.file in
    let m = record_moves c.args.file_record.now in
    omega (arith, c.entry.ensures.size, m.most)

pub returns : goal.returns
returns c =
    let f = c.args.file_record.now.file in
    let m = record_moves c.args.file_record.now in
    let header : c.header_size-2.result ≡ header_size (other_form f.form) = rw c.other_form.ensures at c.header_size-2.ensures.0 in
    omega (arith, c.entry.ensures.size, c.header_size.ensures.0, header, m.header, m.size)
