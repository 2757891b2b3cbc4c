-- What the exported calls of the shift file come to: the numbers that they told are those of the first rule that holds, and refused, they wrote nothing.
-- Assumes nothing.
use Prim.Native.Nat.{ℕ, ◌≤◌}
use mathlib.Core.Path.{◌≡◌, refl, ap, subst, ◌∙◌}
use mathlib.Core.List.{List}
use Rattle.std.specs.Prelude.{Result}
use Rattle.yuv_error.specs.declared.YuvError.{YuvError}
use Rattle.yuv_error.specs.Numbers.{numbers, numbers_of}
use Rattle.yuv_error.specs.Rules.{first_numbers}
use Rattle.yuv_error.proofs.Plain.{Plain, alone}
use Rattle.shift_file.specs.declared.ShiftForm.{ShiftForm}
use Rattle.shift_file.specs.declared.ShiftForm.TheVariants.{WithoutSettings, WithSettings}
use Rattle.shift_reader.specs.Reading.{read_outcome}
use Rattle.shift_reader.proofs.Post.{refused_writes_nothing, read_refused}
use Rattle.shift_writer.specs.Output.{outcome_of, overwritten}
use Rattle.frame_calls.specs.Lists.{numbers_told}
use Rattle.shift_calls.specs.Shift.{ExportedReading, rules_of_reading, ReadingKept, rules_of_reading_any, ReadingAnyKept}
use Rattle.shift_calls.specs.Shift.{ExportedWriting, rules_of_writing, WritingKept}
use Rattle.shift_calls.specs.Shift.{ExportedRecord, rules_of_record, RecordKept}
use Rattle.shift_calls.specs.Shift.{ExportedMove, rules_of_move, MoveKept}
use Rattle.frame_calls.proofs.Lists.{is_refused}

-- an output that a refused call left
pub unwritten : (a : Result Unit YuvError) (bytes : List ℕ) {before after : List ℕ} → 1 ≤ (numbers_of a).number → after ≡ overwritten a bytes before → after ≡ before
unwritten a bytes {before} l e = e ∙ ap (λ (a : Result Unit YuvError). overwritten a bytes before) (is_refused a l).1

module _ {k : ExportedReading} (p : ReadingKept k) where
  pub reading_first : numbers k.number 0 0 ≡ first_numbers (rules_of_reading k)
  reading_first = alone (rules_of_reading k) (read_outcome p.reading) (refl, tt) p.number p.read.answered

  pub reading_writes_nothing : 1 ≤ k.number → k.entries' ≡ k.entries
  reading_writes_nothing l =
      refused_writes_nothing (read_refused (is_refused (read_outcome p.reading) (subst (λ (n : ℕ). 1 ≤ n) p.number l)).1) p.read

module _ {k : ExportedReading} (p : ReadingAnyKept k) where
  pub reading_any_first : numbers k.number 0 0 ≡ first_numbers (rules_of_reading_any k)
  reading_any_first = alone (rules_of_reading_any k) (read_outcome p.reading) (refl, tt) p.number p.read.answered

  pub reading_any_writes_nothing : 1 ≤ k.number → k.entries' ≡ k.entries
  reading_any_writes_nothing l =
      refused_writes_nothing (read_refused (is_refused (read_outcome p.reading) (subst (λ (n : ℕ). 1 ≤ n) p.number l)).1) p.read

module _ {form : ShiftForm} {k : ExportedWriting} (p : WritingKept form k) where
  pub writing_first : numbers k.number 0 0 ≡ first_numbers (rules_of_writing form k)
  writing_first = alone (rules_of_writing form k) (outcome_of p.written) (refl, (refl, tt)) p.number p.wrote.answered

  pub writing_writes_nothing : 1 ≤ k.number → k.file' ≡ k.file
  writing_writes_nothing l = unwritten (outcome_of p.written) _ (subst (λ (n : ℕ). 1 ≤ n) p.number l) p.wrote.written

module _ {form : ShiftForm} {k : ExportedRecord} (p : RecordKept form k) where
  pub record_first : numbers_told k.number k.told ≡ first_numbers (rules_of_record form k)
  record_first = rw (p.number, p.told) p.wrote.answered

  pub record_writes_nothing : 1 ≤ k.number → k.output' ≡ k.output
  record_writes_nothing l = unwritten (outcome_of p.written) _ (subst (λ (n : ℕ). 1 ≤ n) p.number l) p.wrote.written

Plain-moves : (from : ShiftForm) (k : ExportedMove) → Plain (rules_of_move from k)
Plain-moves WithoutSettings k = (refl, (refl, tt))
Plain-moves WithSettings k = (refl, (refl, (refl, tt)))

module _ {from : ShiftForm} {k : ExportedMove} (p : MoveKept from k) where
  pub move_first : numbers k.number 0 0 ≡ first_numbers (rules_of_move from k)
  move_first = alone (rules_of_move from k) (outcome_of p.written) (Plain-moves from k) p.number p.moved.answered

  pub move_writes_nothing : 1 ≤ k.number → k.output' ≡ k.output
  move_writes_nothing l = unwritten (outcome_of p.written) _ (subst (λ (n : ℕ). 1 ≤ n) p.number l) p.moved.written
