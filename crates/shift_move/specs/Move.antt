-- A shift file in the other form: docs/RULES.md, 11.8. `Means` says that moved there and back it is the same file.
-- Assumes nothing.
use Rattle.std.specs.Prelude.{ℕ, Bool, true, ◌&&◌, List, [], ◌∷◌, map, eqb, get_or}
use Rattle.shift_file.specs.declared.ShiftForm.{ShiftForm}
use Rattle.shift_file.specs.declared.ShiftForm.TheVariants.{WithoutSettings, WithSettings}
use Rattle.shift_file.specs.File.{ShiftRecord, not_recorded, file_of}
use Rattle.shift_file.specs.Read.{records_in}

abbrev pub other_form : ShiftForm → ShiftForm
other_form WithoutSettings = WithSettings
other_form WithSettings = WithoutSettings

-- RULES 11.8: the settings of a moved record: 4:2:0 and three times not recorded, or none in the form without
abbrev pub plain_settings : ShiftForm → List ℕ
plain_settings WithoutSettings = []
plain_settings WithSettings = not_recorded

-- RULES 11.8: a record in this form: its settings alone are others
abbrev pub moved_record : (to : ShiftForm) → ShiftRecord → ShiftRecord
moved_record to r = record {
  crossing = r.crossing;
  width = r.width;
  height = r.height;
  settings = plain_settings to;
  y = r.y;
  u = r.u;
  v = r.v;
}

-- RULES 11.8: records moved, in their order
abbrev pub moved : (to : ShiftForm) → List ShiftRecord → List ShiftRecord
moved to rs = map (moved_record to) rs

-- RULES 11.8: the file of this form, moved to the other
unfoldable pub moved_file : (from : ShiftForm) → (file : List ℕ) → List ℕ
moved_file from file = file_of (other_form from) (moved (other_form from) (records_in from file))

-- ---- which records may move back

-- RULES 11.8: 4:2:0, and range, matrix and transfer not recorded
abbrev pub is_plain : (settings : List ℕ) → Bool
is_plain s = eqb (get_or s 0 0) 0 && (eqb (get_or s 1 0) 255 && (eqb (get_or s 2 0) 255 && eqb (get_or s 3 0) 255))

-- RULES 11.8
abbrev pub are_plain : List ShiftRecord → Bool
are_plain [] = true
are_plain (r ∷ rs) = is_plain r.settings && are_plain rs

-- RULES 11.8: forward all may move
abbrev pub may_move : (from : ShiftForm) → List ShiftRecord → Bool
may_move WithoutSettings rs = true
may_move WithSettings rs = are_plain rs
