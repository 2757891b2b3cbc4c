-- The three arrays of a desk while a call has them, and as it leaves them. This serves the contracts of the smaller functions; the meaning stands in
-- Numbers.
-- Assumes nothing.
use Rattle.std.specs.Prelude.{◌≡◌}
use Rattle.desk_numbers.specs.declared.LentDesk.{LentDesk}
use Rattle.desk_numbers.specs.Numbers.{DeskNumbers, desk_numbers}

abbrev pub numbers_in : LentDesk → DeskNumbers
numbers_in d = desk_numbers d.numbers.now d.customs.now d.parts.now

-- the same three arrays, with these numbers in them
pub record Leaves (n : DeskNumbers) (old new : LentDesk) : Type 0 where
  pub numbers : numbers_in new ≡ n
  pub lent_numbers : new.numbers.ghost_name ≡ old.numbers.ghost_name
  pub lent_customs : new.customs.ghost_name ≡ old.customs.ghost_name
  pub lent_parts : new.parts.ghost_name ≡ old.parts.ghost_name
