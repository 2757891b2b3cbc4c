-- The record of a crossing: docs/RULES.md, 12.6.
-- Assumes nothing.
use Rattle.std.specs.Prelude.{ℕ, suc, ◌<◌, ◌≡◌, cond, List, [], ◌∷◌, ltb, eqb, length, Option, Some, None}
use Rattle.shift_file.specs.File.{ShiftRecord}
use Rattle.shift_reader.specs.Entry.{nth}

-- RULES 12.6: how many records stand before the first of a crossing; all of them where none has it
unfoldable pub place_of_first : (crossing : ℕ) → List ShiftRecord → ℕ
place_of_first crossing [] = 0
place_of_first crossing (r ∷ rs) = cond (eqb r.crossing crossing) 0 (suc (place_of_first crossing rs))

-- RULES 12.6: the first by offset, or none
abbrev pub found_among : (crossing : ℕ) → List ShiftRecord → Option ℕ
found_among crossing rs = cond (ltb (place_of_first crossing rs) (length rs)) (Some (place_of_first crossing rs)) None

-- RULES 12.6: what is found has the number, and no record before it has
pub record IsFirst (crossing : ℕ) (rs : List ShiftRecord) (k : ℕ) : Type 0 where
  pub below : k < length rs
  pub has : (nth rs k).crossing ≡ crossing
  pub before : (i : ℕ) → i < k → (nth rs i).crossing ≡ crossing → ⊥

-- RULES 12.6
pub record Finds : Type 0 where
  pub some : (crossing : ℕ) (rs : List ShiftRecord) (k : ℕ) → found_among crossing rs ≡ Some k → IsFirst crossing rs k
  pub none : (crossing : ℕ) (rs : List ShiftRecord) → found_among crossing rs ≡ None → (i : ℕ) → i < length rs → (nth rs i).crossing ≡ crossing → ⊥
