-- What a refused reading leaves: everything as it was. Assumes nothing.
use Prim.Native.Nat.{ℕ}
use mathlib.Core.Path.{◌≡◌, ◌∙◌}
use mathlib.Core.List.{List}
use native.Mathlib.Nat.{mul-zero}
use Rattle.yuv_error.specs.declared.YuvError.{YuvError}
use Rattle.std.specs.Prelude.{Result, Ok, Err}
use Rattle.shift_file.specs.declared.ShiftForm.{ShiftForm}
use Rattle.shift_reader.specs.declared.EntryKind.{EntryKind}
use Rattle.shift_reader.specs.declared.ShiftReading.{ShiftReading}
use Rattle.shift_reader.specs.Entry.{entries_of}
use Rattle.shift_reader.specs.Reading.{ReadPost, read_outcome, reading_of}

-- a call that was refused has no reading
pub read_refused : {r : Result ShiftReading YuvError} {e : YuvError} → read_outcome r ≡ Err e → r ≡ Err e
read_refused {r = Ok reading} is = cc is
read_refused {r = Err d} is = cc is

pub refused_writes_nothing : {kind : EntryKind} {form : ShiftForm} {file : List ℕ} {first : ℕ} {before after : List ℕ} {r : Result ShiftReading YuvError} {e : YuvError}
    → r ≡ Err e → ReadPost kind form file first before r after → after ≡ before
unfolding entries_of
refused_writes_nothing {r = r} is p = let none : (reading_of r).told ≡ 0 = rw is in p.entries ∙ rw (none, mul-zero)
