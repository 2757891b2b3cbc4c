-- What moving a shift file means: docs/RULES.md, 11.8.
-- Assumes nothing.
use Rattle.std.specs.Prelude.{ℕ, ◌≡◌, true, List}
use Rattle.shift_file.specs.declared.ShiftForm.{ShiftForm}
use Rattle.shift_file.specs.File.{ShiftRecord, IsFileOf}
use Rattle.shift_move.specs.Move.{other_form, may_move, moved, moved_file}

-- RULES 11.8: a moved file is the file of the moved records
abbrev pub MovedIsFile : Type 0
MovedIsFile = (from : ShiftForm) (file : List ℕ) (rs : List ShiftRecord) → IsFileOf from file rs → may_move from rs ≡ true
    → IsFileOf (other_form from) (moved_file from file) (moved (other_form from) rs)

-- RULES 11.8: and may move back
abbrev pub MayReturn : Type 0
MayReturn = (from : ShiftForm) (rs : List ShiftRecord) → may_move (other_form from) (moved (other_form from) rs) ≡ true

-- RULES 11.8: moved there and back, it is the same file, byte for byte
abbrev pub ThereAndBack : Type 0
ThereAndBack = (from : ShiftForm) (file : List ℕ) (rs : List ShiftRecord) → IsFileOf from file rs → may_move from rs ≡ true
    → moved_file (other_form from) (moved_file from file) ≡ file
