-- i32 expressions that do not wrap. The idea: an expression carries a bound on the size of its value, and each product or sum of
-- such expressions carries the product or sum of their bounds; where that is below 2 ^ 31 the machine's value is the exact one.
-- Assumes nothing.
use mathlib.Core.Path.{◌≡◌, refl, ◌∙◌}
use Prim.Native.Nat.{ℕ, ◌+◌, ◌*◌, ◌^◌, ◌≤◌, ◌<◌}
use native.Mathlib.Nat.{le_refl, mul-le-mul, lt_of_le_of_lt}
use native.Mathlib.Omega.{arith}
use lib.Dec.{lit<}
use lib.IntN.{ℤ, pos, negsuc, nat_abs, ◌+ℤ◌, ◌*ℤ◌}
use lib.Signed.{shr_z, mag_shr}
use mir.Syntax.{w8, w32}
use mir.Val.{Fits, SFits, to_z, of_z}
use mir.Facts.{to_z-of_z, to_z_pos}
use Rattle.std.proofs.lemmas.Int.{unsigned_abs-mul}
use Rattle.forward_transform.proofs.Signed.{fits_i32, size_add}
use Rattle.definitions.specs.Pixel.{floor_div}

-- ---- what the machine reads back

-- a number that was kept in 32 bits
abbrev pub kept : ℤ → ℤ
kept z = to_z w32 (of_z w32 z)

pub read_i32 : {z : ℤ} → SFits w32 z → kept z ≡ z
read_i32 = to_z-of_z

pub read_small : (z : ℤ) → nat_abs z ≤ 8193 → kept z ≡ z
read_small z h = read_i32 (fits_i32 z (omega arith))

pub read_byte : {x : ℕ} → Fits w8 x → to_z w32 x ≡ pos x
read_byte f = to_z_pos w32 (omega (arith, f.fits))

-- ---- expressions

-- what the machine computes, the integer that it is, and a bound on its size
pub record Exact : Type 0 where
  pub machine : ℤ
  pub value : ℤ
  pub size : ℕ
  pub same : machine ≡ value
  pub bound : nat_abs value ≤ size
  pub room : size < 2 ^ 31

pub fits : (e : Exact) → SFits w32 e.machine
fits e = rw e.same (fits_i32 e.value (omega (arith, e.bound, e.room)))

pub kept_same : (e : Exact) → kept e.machine ≡ e.value
kept_same e = read_i32 (fits e) ∙ e.same

-- a byte times a weight
abbrev pub product : (x : ℕ) (w : ℤ) → x < 2 ^ 8 → nat_abs w ≤ 8193 → Exact
product x w hx hw =
    record {
      machine = to_z w32 x *ℤ kept w;
      value = pos x *ℤ w;
      size = 255 * 8193;
      same = rw (read_byte (record { fits = hx }), read_small w hw);
      bound = rw (unsigned_abs-mul (pos x) w) (mul-le-mul {n₁ = x} {m₁ = nat_abs w} {n₂ = 255} {m₂ = 8193} (omega arith) hw);
      room = lit< tt;
    }

abbrev pub literal : (n : ℕ) → n < 2 ^ 31 → Exact
literal n h = record { machine = pos n; value = pos n; size = n; same = refl; bound = le_refl n; room = h }

abbrev pub sum : (a b : Exact) → a.size + b.size < 2 ^ 31 → Exact
sum a b h =
    record {
      machine = kept a.machine +ℤ kept b.machine;
      value = a.value +ℤ b.value;
      size = a.size + b.size;
      same = rw (kept_same a, kept_same b);
      bound = omega (arith, size_add a.value b.value, a.bound, b.bound);
      room = h;
    }

-- the shift by 13 rounds down
floor : (z : ℤ) → shr_z z 8192 ≡ floor_div z 8192
floor (pos n) = refl
floor (negsuc n) = refl

pub shifted : (e : Exact) → kept (shr_z (kept e.machine) 8192) ≡ floor_div e.value 8192
shifted e =
    rw (kept_same e) (read_i32 (record { sfits = lt_of_le_of_lt (mag_shr e.value 8192) (fits_i32 e.value (omega (arith, e.bound, e.room))).sfits })
    ∙ floor e.value)
