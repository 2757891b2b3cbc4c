-- `bits_of` is safe: a float that is equal to itself is no NaN.
-- Assumes nothing.
use mathlib.Core.Path.{sym, subst}
use mathlib.Core.Bool.{Bool, not}
use lib.Dec.{T}
use lib.Ieee.{Float, nan, inf, fin, eq, is_nan}
use Rattle.replay_desk.proofs.bits_of.Goals as goal

itself : (x : Float) → T (eq x x) → T (not (is_nan x))
unfolding eq is_nan
itself nan h = absurd h
itself (inf s) h = tt
itself (fin s m e) h = tt

pub float_to_bits-result : goal.float_to_bits-result
float_to_bits-result c = itself c.args.custom (subst (λ (b : Bool). T b) (sym c.if-custom.true) tt)
