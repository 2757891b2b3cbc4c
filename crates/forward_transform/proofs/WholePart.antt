-- What `nearest_whole` finds of a number that is small and not below 0: the cast gives its whole part q, and the comparison with q + 1/2, which
-- f32 holds exactly, says whether what is left is below a half.
-- Assumes nothing.
use Rattle.std.proofs.Common.{◌≡◌, ℕ, ◌+◌, ◌-◌, ◌*◌, ◌/◌, ◌%◌, ◌^◌, ◌<◌, ◌≤◌, min, Bool, true, false, not, T, ℤ, pos, neg_ℤ, sym, refl, ap, ◌∙◌, subst, true≢false, le_of_suc-le-suc, lt_of_le_of_lt, mul-le-mul_right, mul_assoc, div-lt_iff_lt-mul, lt_of_mul-lt-mul_right, mul-pos, div-add-mod', not-le_of_lt, le_of_mul-le-mul_right, arith, lit<, ltb→lt, lt→ltb, leb→le, nltb→le}
use native.Mathlib.Nat.{mod-le, zero-div}
use lib.Ieee.{Float, nan, inf, fin, binary32, up, down, add, sum, lt, of_int, of_bits, to_unsigned}
use lib.Ieee.Fits.{down_pos}
use lib.Ieee.Exact.{HasValue, round_exact}
use lib.Ieee.Scale.{round_same}
use lib.Ieee.Back.{round_whole}
use Rattle.forward_transform.specs.Rounding.{nearest_whole, signed, round_half_away}
use Rattle.forward_transform.specs.Transform.{f32, half}
use Rattle.forward_transform.specs.Small.{zero, small}
use Rattle.forward_transform.proofs.Rounding.{nearest_down, nearest_up}

-- x is a / c, small and not negative, or -0
pub record Plain (x : Float) : Type 0 where
  pub sign : Bool
  pub mantissa : ℕ
  pub exponent : ℤ
  pub is : x ≡ fin sign mantissa exponent
  pub nothing : T sign → mantissa * up exponent ≡ 0
  pub top : mantissa * up exponent ≤ 2 ^ 14 * down exponent

pub plain : (x : Float) → T (small x) → T (not (lt x zero)) → Plain x
unfolding lt
plain nan h l = absurd h
plain (inf s) h l = absurd h
plain (fin true m e) h l = record {
  sign = true;
  mantissa = m;
  exponent = e;
  is = refl;
  nothing = λ t. omega (arith, nltb→le 0 (m * up e * 1 + 0 * down e) l);
  top = leb→le (m * up e) (2 ^ 14 * down e) h;
}
plain (fin false m e) h l = record {
  sign = false;
  mantissa = m;
  exponent = e;
  is = refl;
  nothing = λ f. absurd f;
  top = leb→le (m * up e) (2 ^ 14 * down e) h;
}

-- ---- the cast
-- what `truncating_f32_to_u64` asks
abbrev pub Castable : Float → Type 0
Castable x = T (lt (fin true 1 (pos 0)) x) × T (lt x (fin false 1 (pos 64)))

Castable-at : (s : Bool) (m : ℕ) (e : ℤ) → (T s → m * up e ≡ 0) → m * up e ≤ 2 ^ 14 * down e → Castable (fin s m e)
unfolding lt
Castable-at true m e z h =
    let d> = down_pos e in
    (lt→ltb (m * up e * 1) (1 * down e) (omega (arith, z tt)), lt→ltb 0 (m * up e * 1 + 2 ^ 64 * down e) (omega arith))
Castable-at false m e z h =
    let d> = down_pos e in
    (lt→ltb 0 (1 * down e + m * up e * 1) (omega arith), lt→ltb (m * up e * 1) (2 ^ 64 * down e) (omega arith))

pub castable : (x : Float) → Plain x → Castable x
castable x p = subst Castable (sym p.is) (Castable-at p.sign p.mantissa p.exponent p.nothing p.top)

-- and what it gives
cut : (s : Bool) (m : ℕ) (e : ℤ) → (T s → m * up e ≡ 0) → m * up e / down e ≤ 2 ^ 14 → to_unsigned 64 (fin s m e) ≡ m * up e / down e
unfolding to_unsigned
cut true m e z h = sym (ap (λ (a : ℕ). a / down e) (z tt) ∙ zero-div (down e))
cut false m e z h = capped (m * up e / down e) h
  where
    capped : (q : ℕ) → q ≤ 2 ^ 14 → min q (2 ^ 64 - 1) ≡ q
    capped q h = omega arith

-- ---- the comparison
-- q + 1/2 in f32
Half-more : (y : Float) (q : ℕ) → q ≤ 2 ^ 14 → HasValue y false q 1 → HasValue (add binary32 y half) false (2 * q + 1) 2
unfolding add sum of_bits
Half-more nan q h v = absurd v
Half-more (inf s) q h v = absurd v
Half-more (fin true m e) q h v = absurd (true≢false v.0)
Half-more (fin false m e) q h v =
    let c> = mul-pos (down_pos e) (lit< {m = 0} {n = 2} tt) in
    let same = round_same binary32 false (m * up e * 2 + 1 * down e) (down e * 2) (2 * q + 1) 2 c> (lit< tt) (omega (arith, v.1)) in
    let top = lt_of_le_of_lt (mul-le-mul_right (2 ^ 148) (few q h)) (lit< tt) in
    let held = round_exact binary32 false (2 * q + 1) 2 (2 * q + 1) 148 (lit< tt) (omega arith) top (sym (mul_assoc (2 * q + 1) (2 ^ 148) 2)) in
    subst (λ (z : Float). HasValue z false (2 * q + 1) 2) (sym same) held
  where
    few : (q : ℕ) → q ≤ 2 ^ 14 → 2 * q + 1 ≤ 2 ^ 16
    few q h = omega arith

-- whether what is left of a / c is below a half
Rest : ℕ → ℕ → Bool → Type 0
Rest a c b = (T b → 2 * (a % c) < c) × (T (not b) → c ≤ 2 * (a % c))

-- a / c against b / d, which is q + 1/2
module _ (a c b d : ℕ) (D : 0 < d) (is : b * 2 ≡ (2 * (a / c) + 1) * d) where
  below_half : a * d < b * c → 2 * (a % c) < c
  below_half h =
      let x : 2 * a * d < (2 * (a / c) + 1) * c * d = omega (arith, ap (λ (w : ℕ). w * c) is) in
      omega (arith, lt_of_mul-lt-mul_right d x, div-add-mod' a c)

  half_or_more : b * c ≤ a * d → c ≤ 2 * (a % c)
  half_or_more h =
      let x : (2 * (a / c) + 1) * c * d ≤ 2 * a * d = omega (arith, ap (λ (w : ℕ). w * c) is) in
      omega (arith, le_of_mul-le-mul_right x D, div-add-mod' a c)

test : (s : Bool) (m : ℕ) (e : ℤ) (y : Float) → (T s → m * up e ≡ 0) → HasValue y false (2 * (m * up e / down e) + 1) 2
    → Rest (m * up e) (down e) (lt (fin s m e) y)
unfolding lt Rest
test s m e nan z v = absurd v
test s m e (inf t) z v = absurd v
test s m e (fin true n f) z v = absurd (true≢false v.0)
test true m e (fin false n f) z v =
    let n> : 0 < n * up f = omega (arith, v.1, down_pos f) in (
      λ t. omega (arith, z tt, mod-le (m * up e) (down e), down_pos e),
      λ t. absurd (not-le_of_lt (mul-pos n> (down_pos e)) (omega (arith, nltb→le 0 (m * up e * down f + n * up f * down e) t))),
    )
test false m e (fin false n f) z v = (
  λ t. below_half (m * up e) (down e) (n * up f) (down f) (down_pos f) v.1 (ltb→lt _ _ t),
  λ t. half_or_more (m * up e) (down e) (n * up f) (down f) (down_pos f) v.1 (nltb→le _ _ t),
)

-- ---- so the number is rounded
signed_as : (s : Bool) (n : ℕ) → (T s → n ≡ 0) → pos n ≡ signed s n
signed_as true n z = ap pos (z tt) ∙ sym (ap (λ (k : ℕ). neg_ℤ (pos k)) (z tt))
signed_as false n z = refl

module _ (x : Float) (p : Plain x) (q : ℕ) (is : q ≡ to_unsigned 64 x) where
  abbrev a : ℕ
  a = p.mantissa * up p.exponent

  abbrev c : ℕ
  c = down p.exponent

  few : a / c ≤ 2 ^ 14
  few = le_of_suc-le-suc ((div-lt_iff_lt-mul (down_pos p.exponent)).1 (omega (arith, p.top, down_pos p.exponent)))

  whole : q ≡ a / c
  whole = is ∙ ap (to_unsigned 64) p.is ∙ cut p.sign p.mantissa p.exponent p.nothing few

  pub few_whole : q ≤ 2 ^ 14
  few_whole = omega (arith, whole, few)

  abbrev mid : Float
  mid = add binary32 (f32 q) half

  mid_is : HasValue mid false (2 * (a / c) + 1) 2
  unfolding of_int
  mid_is = subst (λ (n : ℕ). HasValue mid false (2 * n + 1) 2) whole (Half-more (f32 q) q few_whole (round_whole binary32 false q (omega (arith, few_whole))))

  rest : Rest a c (lt x mid)
  rest = subst (λ (z : Float). Rest a c (lt z mid)) (sym p.is) (test p.sign p.mantissa p.exponent mid p.nothing mid_is)

  rounded : (n : ℕ) → nearest_whole a c ≡ n → (T p.sign → n ≡ 0) → pos n ≡ round_half_away x
  unfolding round_half_away
  rounded n e z = signed_as p.sign n z ∙ ap (signed p.sign) (sym e) ∙ sym (ap round_half_away p.is)

  pub rounded_down : lt x mid ≡ true → pos q ≡ round_half_away x
  unfolding Rest
  rounded_down e =
      rounded q (nearest_down a c (rest.0 (subst T (sym e) tt)) ∙ sym whole)
      (λ t. whole ∙ ap (λ (n : ℕ). n / c) (p.nothing t) ∙ zero-div c)

  pub rounded_up : lt x mid ≡ false → pos (q + 1) ≡ round_half_away x
  unfolding Rest
  rounded_up e =
      let r = rest.1 (subst (λ (b : Bool). T (not b)) (sym e) tt) in
      rounded (q + 1) (nearest_up a c r ∙ ap (λ (n : ℕ). n + 1) (sym whole))
      (λ t. absurd (not-le_of_lt (down_pos p.exponent) (omega (arith, p.nothing t, mod-le a c))))
