-- Where the records of a file and their planes stand, and their settings: docs/RULES.md, 11.4 and 11.7.
-- Assumes nothing.
use Rattle.std.specs.Prelude.{ℕ, zero, suc, ◌+◌, List, [], ◌∷◌, ◌++◌, length, get_or, take}
use Rattle.shift_file.specs.declared.ShiftForm.{ShiftForm}
use Rattle.shift_file.specs.File.{ShiftRecord, header_size, settings_told, records_at, bytes_of, record_bytes}
use Rattle.shift_file.specs.Read.{records_in}
use Rattle.shift_reader.specs.declared.EntryKind.{EntryKind}
use Rattle.shift_reader.specs.declared.EntryKind.TheVariants.{Places, PlacesAndSettings}
use Rattle.shift_reader.specs.declared.ShiftEntry.{ShiftEntry}

-- RULES 11.4: what stands past the end of a list, where no call looks
abbrev pub no_record : ShiftRecord
no_record = record { crossing = 0; width = 0; height = 0; settings = []; y = []; u = []; v = [] }

-- RULES 11.4: record k of a list
abbrev pub nth : List ShiftRecord → (k : ℕ) → ShiftRecord
nth rs k = get_or rs k no_record

-- RULES 11.4: record k of a file
abbrev pub record_of : ShiftForm → (file : List ℕ) → (k : ℕ) → ShiftRecord
record_of form file k = nth (records_in form file) k

-- RULES 11.4: where record k stands in the file of a list
abbrev pub offset_of : ShiftForm → List ShiftRecord → (k : ℕ) → ℕ
offset_of form rs k = records_at form (length rs) + length (record_bytes (take k rs))

-- RULES 11.4: the eleven numbers of a record that stands at `at`: its own, then offset and length of itself and of its planes
abbrev pub places_of : ShiftForm → (at : ℕ) → ShiftRecord → List ℕ
places_of form at r =
    let y = at + header_size form in
    let u = y + length r.y in
    r.crossing ∷ r.width ∷ r.height ∷ at ∷ length (bytes_of r) ∷ y ∷ length r.y ∷ u ∷ length r.u ∷ (u + length r.u) ∷ length r.v ∷ []

-- RULES 11.7: its settings after them, where they are told
abbrev pub settings_after : EntryKind → ShiftForm → ShiftRecord → List ℕ
settings_after Places form r = []
settings_after PlacesAndSettings form r = settings_told form r.settings

-- RULES 11.4, 11.7
abbrev pub entry_of : EntryKind → ShiftForm → (at : ℕ) → ShiftRecord → List ℕ
entry_of kind form at r = places_of form at r ++ settings_after kind form r

-- RULES 11.4: eleven numbers. RULES 11.7: fifteen
abbrev pub entry_size : EntryKind → ℕ
entry_size Places = 11
entry_size PlacesAndSettings = 15

-- RULES 11.4: the entries of n records, from record k on
unfoldable pub entries_of : EntryKind → ShiftForm → List ShiftRecord → (k n : ℕ) → List ℕ
entries_of kind form rs k zero = []
entries_of kind form rs k (suc n) = entry_of kind form (offset_of form rs k) (nth rs k) ++ entries_of kind form rs (k + 1) n

-- RULES 11.4: the eleven numbers, of an entry
abbrev pub entry_numbers : ShiftEntry → List ℕ
entry_numbers e =
    e.crossing ∷ e.width ∷ e.height ∷ e.offset ∷ e.length ∷ e.y_offset ∷ e.y_length
    ∷ e.u_offset ∷ e.chroma_length ∷ e.v_offset ∷ e.chroma_length ∷ []
