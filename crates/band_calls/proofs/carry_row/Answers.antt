-- A turn of `carry_row` paints three bytes more.
-- Assumes nothing.
use Prim.Native.Nat.{ℕ, ◌+◌, ◌*◌, ◌/◌, ◌%◌, ◌≤◌, ◌<◌}
use mathlib.Core.Path.{◌≡◌}
use mathlib.Core.List.{List}
use native.Mathlib.Omega.{arith}
use lib.ListN.{length, get_or, set, length-set}
use Rattle.definitions.specs.Painted.{Painted}
use Rattle.definitions.specs.Row.{pixels_of}
use Rattle.definitions.proofs.Painted.{Painted-more}
use Rattle.band_calls.proofs.carry_row.Goals as goal

-- byte i of pixel x, and where it is to stand
is_byte : (row : List ℕ) (count x i at to : ℕ) → i < 3 → at ≡ x * count + i → to ≡ x * 3 + i → get_or row at 0 ≡ pixels_of count row (to / 3) (to % 3)
unfolding pixels_of
is_byte row count x i at to l e f =
    let column : to / 3 ≡ x = omega arith in
    let byte : to % 3 ≡ i = omega arith in
    rw (column, byte, e)

-- three bytes more
painted_three : {f : ℕ → ℕ} {d e : List ℕ} (i a b c : ℕ) → i + 3 ≤ length e → a ≡ f i → b ≡ f (i + 1) → c ≡ f (i + 2) → Painted i f d e
    → Painted (i + 3) f d (set (set (set e i a) (i + 1) b) (i + 2) c)
painted_three {f} {d} {e} i a b c inside x y z p =
    let one = Painted-more a (omega arith) x p in
    let two = Painted-more b (simp length-set (omega arith)) y one in
    let count : i + 1 + 1 ≡ i + 2 = omega arith in
    let last : i + 2 + 1 ≡ i + 3 = omega arith in
    rw last at (Painted-more c (simp length-set (omega arith)) z (rw count at two))

pub loop-x-preserved : goal.loop-x-preserved
loop-x-preserved c =
    let x = c.loop-x.x in
    let room : x * 3 + 3 ≤ length c.loop-x.carried = omega (arith, c.requires.width_in_bounds, c.loop-x.invariant.size, c.loop-x-test.true) in
    let put = is_byte c.args.row.now c.args.count x in
    let end : (x + 1) * 3 ≡ x * 3 + 3 = omega arith in
    rw end (painted_three (x * 3) _ _ _ room (put 0 (x * c.args.count) (x * 3) (omega arith) (omega arith) (omega arith))
    (put 1 (x * c.args.count + 1) (x * 3 + 1) (omega arith) (omega arith) (omega arith))
    (put 2 (x * c.args.count + 2) (x * 3 + 2) (omega arith) (omega arith) (omega arith)) c.loop-x.invariant)
