-- `put_records` meets its contract: the records left to put, put from here on, are all of them put from the start.
-- Assumes nothing.
use native.Mathlib.Omega.{arith}
use Prim.Native.Nat.{◌+◌, ◌-◌, ◌≤◌, ◌<◌}
use mathlib.Core.Path.{sym, ◌∙◌}
use lib.ListN.{length, drop}
use Rattle.little_endian.proofs.Stores.{sets_part}
use Rattle.shift_file.specs.File.{bytes_of, record_bytes}
use Rattle.shift_file.specs.Read.{records_in}
use Rattle.shift_reader.specs.Entry.{record_of}
use Rattle.shift_move.specs.Move.{other_form, moved_record, moved}
use Rattle.shift_move.proofs.Files.{file_records}
use Rattle.shift_move.proofs.Steps.{left_next, record_next, record_last}
use Rattle.shift_move.proofs.put_records.Goals.{In-loop-k}
use Rattle.shift_move.proofs.put_records.Goals.{After-moved_size-at}
use Rattle.shift_move.proofs.put_records.Goals as goal

below : (c : In-loop-k) → c.loop-k.k < length (records_in c.args.file.now.form c.args.file.now.bytes.now)
below c =
    let f = c.args.file.now in
    let h = file_records f in
    omega (arith, h.count, c.loop-k-test.true)

-- what is left behind this record has room
inside : (c : After-moved_size-at) → let f = c.args.file.now in
    c.loop-k.at + c.moved_size-at.result + length (record_bytes (moved (other_form f.form) (drop (c.loop-k.k + 1) (records_in f.form f.bytes.now)))) ≤ length c.args.output.now
inside c =
    let f = c.args.file.now in
    let h = file_records f in
    omega (arith, (rw (c.record-record.ensures.0, c.record-record.ensures.1) at c.moved_size-at.ensures), c.loop-k.invariant.room, left_next (records_in f.form f.bytes.now) c.loop-k.k (other_form f.form) (omega (arith, h.count, c.loop-k-test.true)))

-- a record has room behind those that were put
fits : (c : In-loop-k) → let f = c.args.file.now in
    c.loop-k.at + length (bytes_of (moved_record (other_form f.form) (record_of f.form f.bytes.now c.loop-k.k))) ≤ length c.args.output.now
fits c =
    let f = c.args.file.now in
    omega (arith, c.loop-k.invariant.room, left_next (records_in f.form f.bytes.now) c.loop-k.k (other_form f.form) (below c))

pub put_record-requires : goal.put_record-requires
put_record-requires c =
    rw (c.record-record.ensures.0, c.record-record.ensures.1) (omega (arith, fits (goal.at.put_record-requires c).In-loop-k))

pub overflow_add-at : goal.overflow_add-at
overflow_add-at c = omega (arith, inside (goal.at.overflow_add-at c).After-moved_size-at)

pub loop-k-preserved : goal.loop-k-preserved
loop-k-preserved c =
    let f = c.args.file.now in
    let fit = fits (goal.at.loop-k-preserved c).In-loop-k in
    record {
      same = rw ((rw (c.record-record.ensures.0, c.record-record.ensures.1) at c.put_record.ensures), sets_part c.loop-k.output (bytes_of (moved_record (other_form f.form) (record_of f.form f.bytes.now c.loop-k.k))) c.loop-k.at (length c.loop-k.output - c.loop-k.at) (omega (arith, fit)) (omega (arith, fit)))
          (record_next (records_in f.form f.bytes.now) c.loop-k.k (other_form f.form) c.loop-k.output c.loop-k.at _ (below (goal.at.loop-k-preserved c).In-loop-k) (rw (c.record-record.ensures.0, c.record-record.ensures.1) at c.moved_size-at.ensures) ∙ c.loop-k.invariant.same);
      room = inside (goal.at.loop-k-preserved c).After-moved_size-at;
    }

pub returns : goal.returns
returns c =
    let f = c.args.file.now in
    let h = file_records f in
    sym (record_last (records_in f.form f.bytes.now) c.loop-k.k (other_form f.form) c.loop-k.output c.loop-k.at (omega (arith, h.count, c.loop-k-test.false))) ∙ c.loop-k.invariant.same
