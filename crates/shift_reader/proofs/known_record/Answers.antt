-- Assumes nothing.
use native.Mathlib.Omega.{arith}
use mathlib.Core.Path.{◌≡◌}
use mathlib.Core.Bool.{true}
use Rattle.little_endian.specs.Number.{Bytes}
use Rattle.shift_file.specs.Read.{records_in}
use Rattle.shift_file.specs.Check.{is_file}
use Rattle.shift_file.proofs.File.{is_checked}
use Rattle.shift_reader.proofs.Places.{Known, known, pairs_inside}
use Rattle.shift_reader.proofs.known_record.Goals.{Start}
use Rattle.shift_reader.proofs.known_record.Goals as goal

checked : (c : Start) → is_file c.args.form c.args.file.now ≡ true
checked c = is_checked c.args.form c.args.file.now (records_in c.args.form c.args.file.now) c.requires.is_file_lem

its : (c : Start) → Bytes c.args.file.now → Known c.args.form c.args.file.now
its c = known c.args.form c.args.file.now (checked c)

pub count_at-count-requires : goal.count_at-count-requires
count_at-count-requires c = pairs_inside c.args.form c.args.file.now (records_in c.args.form c.args.file.now) c.requires.is_file_lem

pub invariant_of-file : goal.invariant_of-file
invariant_of-file c = record {
  checked = checked (goal.at.invariant_of-file c).Start;
  counted = c.count_at-count.ensures;
  few = omega (arith, c.count_at-count.ensures, (its (goal.at.invariant_of-file c).Start (λ i. omega (arith, c.type_inv.file i))).few);
  are_bytes = λ i. omega (arith, c.type_inv.file i);
}

pub invariant_of-result : goal.invariant_of-result
invariant_of-result c = record { below = omega (arith, c.requires.below, (its (goal.at.invariant_of-result c).Start (λ i. omega (arith, c.type_inv.file i))).count, c.count_at-count.ensures) }
