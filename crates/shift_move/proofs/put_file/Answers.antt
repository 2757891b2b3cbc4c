-- `put_file` meets its contract: mark and count, pairs and records, one after the other.
-- Assumes nothing.
use native.Mathlib.Omega.{arith}
use Prim.Native.Nat.{◌+◌, ◌*◌, ◌≤◌}
use mathlib.Core.Path.{◌≡◌}
use lib.ListN.{length}
use Rattle.shift_file.specs.File.{pairs_at, record_bytes}
use Rattle.shift_file.specs.Read.{records_in}
use Rattle.shift_move.specs.Move.{other_form, moved}
use Rattle.shift_move.proofs.Files.{file_records, room, file_steps}
use Rattle.shift_move.proofs.put_file.Goals.{After-write_front-pairs}
use Rattle.shift_move.proofs.put_file.Goals as goal

-- the pairs stand where the other form has them, and the output has room
sizes : (c : After-write_front-pairs) → let f = c.args.file.now in (c.write_front-pairs.result ≡ pairs_at (other_form f.form))
    × (c.write_front-pairs.result + 12 * f.count + length (record_bytes (moved (other_form f.form) (records_in f.form f.bytes.now))) ≤ length c.args.output.now)
sizes c =
    let f = c.args.file.now in
    let h = file_records f in
    let is : c.write_front-pairs.result ≡ pairs_at (other_form f.form) = rw c.other_form-to.ensures at c.write_front-pairs.ensures.value in
    (is, omega (arith, is, c.requires, room f.form f.bytes.now f.count h))

pub write_front-pairs-requires : goal.write_front-pairs-requires
write_front-pairs-requires c =
    let f = c.args.file.now in
    rw c.other_form-to.ensures (omega (arith, c.requires, room f.form f.bytes.now f.count (file_records f)))

pub write_pairs-requires : goal.write_pairs-requires
write_pairs-requires c =
    let z = sizes (goal.at.write_pairs-requires c).After-write_front-pairs in
    record {
      room = omega (arith, c.write_front-pairs.auto.output, z);
      most = omega (arith, z);
    }

pub put_records-requires : goal.put_records-requires
put_records-requires c =
    omega (arith, c.write_pairs.auto.output, c.write_front-pairs.auto.output, sizes (goal.at.put_records-requires c).After-write_front-pairs)

pub returns : goal.returns
returns c =
    let f = c.args.file.now in
    let h = file_records f in
    file_steps f.form f.bytes.now f.count h c.args.output.now _ _ _ _ _ c.other_form-to.ensures
    c.write_front-pairs.ensures.written (sizes (goal.at.returns c).After-write_front-pairs).0 c.write_pairs.ensures c.put_records.ensures
