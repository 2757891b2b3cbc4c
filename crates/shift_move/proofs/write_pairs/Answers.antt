-- `write_pairs` meets its contract: the pairs left to write, written from here on, are all of them written from the start.
-- Assumes nothing.
use native.Mathlib.Omega.{arith}
use native.Mathlib.Nat.{add-zero}
use Prim.Native.Nat.{◌+◌, ◌*◌, ◌<◌}
use mathlib.Core.Path.{◌≡◌, refl, sym, ◌∙◌}
use lib.ListN.{length, drop}
use Rattle.shift_file.specs.File.{record_bytes}
use Rattle.shift_file.specs.Read.{records_in}
use Rattle.shift_move.specs.Move.{other_form, moved}
use Rattle.shift_move.proofs.Files.{file_records}
use Rattle.shift_move.proofs.Steps.{left_next, pair_next, pair_last}
use Rattle.shift_move.proofs.write_pairs.Goals.{In-loop-k}
use Rattle.shift_move.proofs.write_pairs.Goals.{After-moved_size-size}
use Rattle.shift_move.proofs.write_pairs.Goals as goal

below : (c : In-loop-k) → c.loop-k.k < length (records_in c.args.file.now.form c.args.file.now.bytes.now)
below c =
    let f = c.args.file.now in
    let h = file_records f in
    omega (arith, h.count, c.loop-k-test.true)

-- what is left behind this record
inside : (c : After-moved_size-size) → let f = c.args.file.now in let rs = records_in f.form f.bytes.now in let to = other_form f.form in
    c.loop-k.at + c.moved_size-size.result + length (record_bytes (moved to (drop (c.loop-k.k + 1) rs))) ≡ c.args.first + length (record_bytes (moved to rs))
inside c =
    let f = c.args.file.now in
    let h = file_records f in
    omega (arith, (rw (c.«record».ensures.0, c.«record».ensures.1) at c.moved_size-size.ensures), c.loop-k.invariant.here, left_next (records_in f.form f.bytes.now) c.loop-k.k (other_form f.form) (omega (arith, h.count, c.loop-k-test.true)))

pub loop-k-init : goal.loop-k-init
loop-k-init c = record { same = rw add-zero; here = refl }

pub overflow_add-at : goal.overflow_add-at
overflow_add-at c = omega (arith, inside (goal.at.overflow_add-at c).After-moved_size-size, c.requires.most)

pub loop-k-preserved : goal.loop-k-preserved
loop-k-preserved c =
    let f = c.args.file.now in
    let pair : c.args.first_pair + 12 * (c.loop-k.k + 1) ≡ c.args.first_pair + 12 * c.loop-k.k + 12 = omega arith in record {
      same = rw (pair, c.write_pair.ensures)
          (pair_next (records_in f.form f.bytes.now) c.loop-k.k (other_form f.form) c.loop-k.output c.loop-k.at _ _ (below (goal.at.loop-k-preserved c).In-loop-k) (rw (c.«record».ensures.0, c.«record».ensures.1) at c.moved_size-size.ensures) ∙ c.loop-k.invariant.same);
      here = inside (goal.at.loop-k-preserved c).After-moved_size-size;
    }

pub returns : goal.returns
returns c =
    let f = c.args.file.now in
    let h = file_records f in
    sym (pair_last (records_in f.form f.bytes.now) c.loop-k.k (other_form f.form) c.loop-k.output c.loop-k.at _ (omega (arith, h.count, c.loop-k-test.false))) ∙ c.loop-k.invariant.same
