-- `put_record` meets its contract: header, settings and planes, one after the other.
-- Assumes nothing.
use native.Mathlib.Omega.{arith}
use Prim.Native.Nat.{◌+◌, ◌≤◌}
use mathlib.Core.Path.{◌≡◌, ap, ◌∙◌}
use lib.ListN.{length, length-drop}
use lib.Seq.{length-take-le}
use Rattle.shift_file.specs.File.{settings_size, header_size, bytes_of}
use Rattle.shift_reader.specs.Entry.{record_of}
use Rattle.shift_move.specs.Move.{other_form}
use Rattle.shift_move.proofs.Moved.{length_plain, record_steps}
use Rattle.shift_move.proofs.Files.{record_moves}
use Rattle.shift_move.proofs.put_record.Goals.{After-bytes-bytes}
use Rattle.shift_move.proofs.put_record.Goals as goal

-- the header is there, and the rest has room behind the other one
sizes : (c : After-bytes-bytes) → let f = c.args.file_record.now.file in let r = record_of f.form f.bytes.now c.args.file_record.now.k in
    (length c.bytes-bytes.result.now ≡ length (bytes_of r)) × (header_size f.form ≤ length (bytes_of r))
    × (header_size (other_form f.form) + length (bytes_of r) ≤ length c.args.output.now + header_size f.form)
sizes c =
    let m = record_moves c.args.file_record.now in
    (ap length c.bytes-bytes.ensures, m.header, omega (arith, c.requires, m.size))

pub from_place-planes-requires : goal.from_place-planes-requires
from_place-planes-requires c = omega (arith, c.header_size.ensures.0, sizes (goal.at.from_place-planes-requires c).After-bytes-bytes)

pub part_of-requires : goal.part_of-requires
part_of-requires c = omega (arith, sizes (goal.at.part_of-requires c).After-bytes-bytes)

pub put-requires : goal.put-requires
put-requires c =
    let n = sizes (goal.at.put-requires c).After-bytes-bytes in
    omega (arith, ap length c.part_of.ensures ∙ length-take-le 8 c.bytes-bytes.result.now (omega (arith, n)), n)

pub put-requires-2 : goal.put-requires-2
put-requires-2 c =
    let settings : length c.plain_settings.result.now ≡ settings_size (other_form c.args.file_record.now.file.form) = ap length c.plain_settings.ensures ∙ rw c.other_form-to.ensures (length_plain (other_form c.args.file_record.now.file.form)) in
    omega (arith, settings, c.put.auto.output, sizes (goal.at.put-requires-2 c).After-bytes-bytes)

pub put-requires-3 : goal.put-requires-3
put-requires-3 c =
    let there : c.header_size-2.result ≡ header_size (other_form c.args.file_record.now.file.form) = rw c.other_form-to.ensures at c.header_size-2.ensures.0 in
    omega (
      arith,
      there,
      ap length c.from_place-planes.ensures ∙ length-drop c.header_size.result c.bytes-bytes.result.now,
      c.header_size.ensures.0,
      c.put-2.auto.output,
      c.put.auto.output,
      sizes (goal.at.put-requires-3 c).After-bytes-bytes,
    )

pub returns : goal.returns
returns c =
    let f = c.args.file_record.now.file in
    let m = record_moves c.args.file_record.now in
    let there : c.header_size-2.result ≡ header_size (other_form f.form) = rw c.other_form-to.ensures at c.header_size-2.ensures.0 in
    record_steps (other_form f.form) f.form (record_of f.form f.bytes.now c.args.file_record.now.k) m.settings
    c.args.output.now _ _ _ _ _ _ _ _ _ c.bytes-bytes.ensures c.part_of.ensures c.put.ensures
    c.other_form-to.ensures (c.put-2.ensures ∙ rw c.plain_settings.ensures) c.header_size.ensures.0 c.from_place-planes.ensures there c.put-3.ensures
