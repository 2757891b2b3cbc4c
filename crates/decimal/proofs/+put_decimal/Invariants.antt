-- A tenth is less, so it ends.
-- Assumes nothing.
use Rattle.decimal.proofs.+put_decimal.Given as goal

abbrev pub decreases-put_decimal : goal.decreases-put_decimal
decreases-put_decimal l = l.number
