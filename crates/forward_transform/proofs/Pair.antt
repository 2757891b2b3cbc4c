-- An accepted pair in units: kr and kb, 1 - kr and 1 - kb, and kg, which is 1 - kr - kb but for two roundings.
-- Assumes nothing.
use Rattle.std.proofs.Common.{◌≡◌, ℕ, ◌+◌, ◌-◌, ◌*◌, ◌/◌, ◌^◌, ◌≤◌, min, Bool, true, false, T, pos, refl, subst, le_of_suc-le-suc, div-lt_iff_lt-mul, div-mul-le_self, arith, lit≤}
use native.Mathlib.Nat.{lt-div-mul-add}
use lib.Ieee.{Float, nan, inf, fin, up, down, of_bits}
use lib.Ieee.Fits.{down_pos}
use Rattle.yuv_support.proofs.Accepted.{FromZeroToHalf}
use Rattle.forward_transform.specs.Transform.{◌-f◌, one}
use Rattle.forward_transform.proofs.Units.{per_one, Between, wider, sub-mul}
use Rattle.forward_transform.proofs.Operations.{less}

-- one of the three numbers: from least to most units, and next to 0 where it is written as negative
pub record Number (x : Float) : Type 0 where
  pub sign : Bool
  pub least : ℕ
  pub most : ℕ
  pub size : Between x sign least most
  pub top : most ≤ per_one
  pub nothing : T sign → most ≤ 2 ^ 17

-- ---- kr and kb: a number from 0 to 1 / 2, to the unit
pub record Part (k : Float) : Type 0 where
  pub sign : Bool
  pub units : ℕ
  pub size : Between k sign (units - 1) units
  pub half : 2 * units ≤ per_one
  pub nothing : T sign → units ≡ 0

pub part : (k : Float) → FromZeroToHalf k → Part k
part nan h = absurd h
part (inf s) h = absurd h
part (fin true m e) h = record {
  sign = true;
  units = 0;
  size = record { mantissa = m; exponent = e; is = refl; size = (omega arith, omega (arith, h.0 tt)) };
  half = omega arith;
  nothing = λ t. refl;
}
part (fin false m e) h =
    let a = m * up e * per_one in
    let c = down e in
    let q = (a + (c - 1)) / c in
    let C = down_pos e in
    let next = lt-div-mul-add {a = a + (c - 1)} {b = c} C in
    let last = div-mul-le_self (a + (c - 1)) c in
    let q≤ : q ≤ 2 ^ 39 = le_of_suc-le-suc ((div-lt_iff_lt-mul C).1 (omega (arith, h.1))) in
    record {
      sign = false;
      units = q;
      size = record { mantissa = m; exponent = e; is = refl; size = (rw (sub-mul q 1 c) (omega arith), omega arith) };
      half = omega arith;
      nothing = λ f. absurd f;
    }

abbrev pub of_part : {k : Float} → Part k → Number k
of_part p = record {
  sign = p.sign;
  least = p.units - 1;
  most = p.units;
  size = p.size;
  top = omega (arith, p.half);
  nothing = λ t. omega (arith, p.nothing t);
}

-- ---- 1 - k is d, but for a rounding
one_is : Between one false per_one per_one
unfolding of_bits
one_is = record { mantissa = 1; exponent = pos 0; is = refl; size = (lit≤ tt, lit≤ tt) }

no_sign : (s : Bool) → (T s → ⊥) → s ≡ false
no_sign true h = absurd (h tt)
no_sign false h = refl

-- how far, with the unit by which k is known
abbrev pub slack : ℕ
slack = 2 ^ 15 + 1

-- what is divided by is a half at least, but for the rounding
pub record Divisor (d : Float) (lo hi : ℕ) : Type 0 where
  pub size : Between d false lo hi
  pub half : per_one ≤ 2 * lo + 2 ^ 17
  pub half' : per_one ≤ 2 * hi

pub one_less : {k : Float} (p : Part k) (d : ℕ) → d + p.units ≡ per_one → Divisor (one -f k) (d - slack) (min (d + slack) per_one)
one_less {k} p d e =
    let h = p.half in
    let r = less one_is p.size p.nothing (min (d + 1) per_one) (omega arith) (omega arith) (omega arith) in
    let s = no_sign r.0 (λ t. omega (arith, r.2 t)) in
    record {
      size =
          subst (λ (b : Bool). Between (one -f k) b (d - slack) (min (d + slack) per_one)) s (wider {s = r.0} _ _ r.1 (omega arith) (omega arith));
      half = omega arith;
      half' = omega arith;
    }

-- ---- the pair in units: kr is r and kb is b, 1 - kr is dr and 1 - kb is db, and kg is G, which is g but for two roundings
pub record Pair (kr kb : Float) : Type 0 where
  pub r : Part kr
  pub b : Part kb
  pub dr : ℕ
  pub db : ℕ
  pub g : ℕ
  pub dr_is : dr + r.units ≡ per_one
  pub db_is : db + b.units ≡ per_one
  pub g_is : g + b.units ≡ dr
  pub G : Number (one -f kr -f kb)
  pub G≥ : g ≤ G.least + 2 * slack
  pub G≤ : G.most ≤ g + 2 * slack

pub pair : {kr kb : Float} → Part kr → Part kb → Pair kr kb
pair {kr} {kb} r b =
    let hr = r.half in
    let hb = b.half in
    let dr = per_one - r.units in
    let g = dr - b.units in
    let dr_is : dr + r.units ≡ per_one = omega arith in
    let m = less (one_less r dr dr_is).size b.size b.nothing (min (g + slack + 1) per_one) (omega arith) (omega arith) (omega arith) in
    record {
      r = r;
      b = b;
      dr = dr;
      db = per_one - b.units;
      g = g;
      dr_is = dr_is;
      db_is = omega arith;
      g_is = omega arith;
      G = record {
        sign = m.0;
        least = g - 2 * slack;
        most = min (g + 2 * slack) per_one;
        size = wider {s = m.0} _ _ m.1 (omega arith) (omega arith);
        top = omega arith;
        nothing = λ t. omega (arith, m.2 t);
      };
      G≥ = omega arith;
      G≤ = omega arith;
    }
