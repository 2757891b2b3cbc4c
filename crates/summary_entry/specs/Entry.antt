-- An entry of a summary and its bytes, written and read: docs/RULES.md, 12.1.
-- Assumes nothing.
use Rattle.std.specs.Prelude.{ℕ, zero, suc, Bool, ◌&&◌, List, [], ◌∷◌, ◌++◌, eqb, drop}
use Rattle.little_endian.specs.Number.{low_bytes, number_in}
use Rattle.summary_entry.specs.declared.SummaryEntry.{SummaryEntry}

-- RULES 12.1: crossing, offset, mean luma
unfoldable pub entry_bytes : SummaryEntry → List ℕ
entry_bytes e = low_bytes 4 e.crossing ++ (low_bytes 8 e.offset ++ low_bytes 1 e.mean)

-- RULES 12.1: entries back to back
unfoldable pub entries_bytes : List SummaryEntry → List ℕ
entries_bytes [] = []
entries_bytes (e ∷ es) = entry_bytes e ++ entries_bytes es

-- RULES 12.1: the entry that stands at the front
unfoldable pub entry_in : List ℕ → SummaryEntry
entry_in l = record { crossing = number_in 4 l; offset = number_in 8 (drop 4 l); mean = number_in 1 (drop 12 l) }

-- RULES 12.1: the first n entries
unfoldable pub entries_in : (n : ℕ) → List ℕ → List SummaryEntry
entries_in zero l = []
entries_in (suc n) l = entry_in l ∷ entries_in n (drop 13 l)

abbrev pub same_entry : SummaryEntry → SummaryEntry → Bool
same_entry a b = eqb a.crossing b.crossing && (eqb a.offset b.offset && eqb a.mean b.mean)

-- what stands past the end of a list of entries
abbrev pub no_entry : SummaryEntry
no_entry = record { crossing = 0; offset = 0; mean = 0 }
