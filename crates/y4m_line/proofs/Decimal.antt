-- Laws of decimals and sizes. Assumes nothing.
use Prim.Native.Nat.{ℕ, zero, suc, ◌+◌, ◌*◌, ◌-◌, ◌≤◌, ◌<◌}
use mathlib.Core.Path.{◌≡◌, refl, sym}
use mathlib.Core.Bool.{Bool, true, false, ◌&&◌}
use mathlib.Core.List.{List, [], ◌∷◌}
use native.Mathlib.Omega.{arith}
use lib.Dec.{leb}
use lib.ListN.{length, get_or, drop, drop_of_length-le}
use lib.Seq.{drop-cons}
use borrow.Author.Tests.{le-leb, lt-leb, leb-true, leb-false, eq-eqb, ne_eqb}
use Rattle.std.proofs.lemmas.Bool.{and_parts, and_left, and_right, cond-false, cond_both}
use Rattle.std.specs.Prelude.{Option, Some, None, SomeIff}
use Rattle.std.specs.Char.{digit_value}
use Rattle.std.specs.Option.{unwrap_or}
use Rattle.std.proofs.lemmas.Bool.Decides.{nat_tests}
use Rattle.std.proofs.lemmas.Option.{none-some, same_Some}
use Rattle.yuv_support.specs.declared.YuvChromaSubsampling.{YuvChromaSubsampling}
use Rattle.y4m_line.specs.Line.{digit, digits, value}
use Rattle.y4m_line.specs.Header.{is_size, size, one_size, sampling_said}
use Rattle.y4m_line.specs.Found.{side_told, sampling_told}

pub digit_low : (d : ℕ) → d < 48 → digit d ≡ 10
unfolding digit
digit_low d h = rw (lt-leb 48 d h)

pub digit_high : (d : ℕ) → 57 < d → digit d ≡ 10
unfolding digit
digit_high d h = rw (le-leb 48 d (omega arith), lt-leb d 57 h)

pub digit_is : (d : ℕ) → 48 ≤ d → d ≤ 57 → digit d ≡ d - 48
unfolding digit
digit_is d h k = rw (le-leb 48 d h, le-leb d 57 k)

-- what `to_digit` of radix 10 answers
pub digit_told : (d : ℕ) (r : Option ℕ) → SomeIff r (digit_value d < 10) (digit_value d) → unwrap_or r 10 ≡ digit d
unfolding digit
digit_told d None none = grind (arith, nat_tests)
digit_told d (Some x) some = let is : x ≡ digit_value d = some.1 in let low : digit_value d < 10 = some.0 in grind (arith, nat_tests)

module _ (t : List ℕ) (i : ℕ) (h : i < length t) where
  pub digits_bad : 9 < digit (get_or t i 0) → digits (drop i t) ≡ false
  unfolding digits
  digits_bad k = rw (drop-cons t i 0 h, lt-leb (digit (get_or t i 0)) 9 k)

  pub digits_next : digit (get_or t i 0) ≤ 9 → digits (drop i t) ≡ digits (drop (i + 1) t)
  unfolding digits
  digits_next k = let s : i + 1 ≡ suc i = omega arith in rw (drop-cons t i 0 h, le-leb (digit (get_or t i 0)) 9 k, s)

  pub value_next : (v : ℕ) → value v (drop i t) ≡ value (v * 10 + digit (get_or t i 0)) (drop (i + 1) t)
  unfolding value
  value_next v = let s : i + 1 ≡ suc i = omega arith in rw (drop-cons t i 0 h, s)

pub value_grows : (v : ℕ) (l : List ℕ) → v ≤ value v l
unfolding value
value_grows v [] = omega arith
value_grows v (d ∷ l) = omega (arith, value_grows (v * 10 + digit d) l)

pub digits_end : (t : List ℕ) (i : ℕ) → length t ≤ i → digits (drop i t) ≡ true
unfolding digits
digits_end t i h = rw (drop_of_length-le t {i = i} h)

pub value_end : (t : List ℕ) (i v : ℕ) → length t ≤ i → value v (drop i t) ≡ v
unfolding value
value_end t i v h = rw (drop_of_length-le t {i = i} h)

pub size_empty : (t : List ℕ) → length t ≡ 0 → size t ≡ 0
unfolding size is_size
size_empty [] h = refl
size_empty (a ∷ t) h = absurd (omega arith)

pub size_zero : (t : List ℕ) → 0 < length t → get_or t 0 0 ≡ 48 → size t ≡ 0
unfolding size is_size
size_zero [] h e = absurd (omega arith)
size_zero (a ∷ t) h e = rw (eq-eqb a 48 e)

pub size_bad : (t : List ℕ) → digits t ≡ false → size t ≡ 0
unfolding size is_size
size_bad t e = cond-false (is_size t) (value 0 t) 0 (and_right _ _ (and_left _ _ e))

pub size_large : (t : List ℕ) → 16384 < value 0 t → size t ≡ 0
unfolding size is_size
size_large t h = cond-false (is_size t) (value 0 t) 0 (and_right _ _ (and_right _ _ (lt-leb (value 0 t) 16384 h)))

digit_some : (d : ℕ) → (d ≡ 48 → ⊥) → digit d ≤ 9 → 1 ≤ digit d
digit_some d n h = cases (leb 48 d) refl
  where
    above : (t : Bool) → leb d 57 ≡ t → 48 ≤ d → 1 ≤ digit d
    above true e l = let is = digit_is d l (leb-true d 57 e) in omega (arith, is, ne_more n)
      where
        ne_more : (d ≡ 48 → ⊥) → 49 ≤ d
        ne_more n = omega (arith, n)
    above false e l = absurd (omega (arith, digit_high d (leb-false d 57 e)))

    cases : (t : Bool) → leb 48 d ≡ t → 1 ≤ digit d
    cases true e = above (leb d 57) refl (leb-true 48 d e)
    cases false e = absurd (omega (arith, digit_low d (leb-false 48 d e)))

-- the side of digits, the first of them not 0
pub value_some : (t : List ℕ) → 0 < length t → (get_or t 0 0 ≡ 48 → ⊥) → digits t ≡ true → 1 ≤ value 0 t
unfolding digits value
value_some [] h n e = absurd (omega arith)
value_some (a ∷ t) h n e =
    let one = digit_some a n (leb-true (digit a) 9 (and_parts (leb (digit a) 9) (digits t) e).0) in
    omega (arith, value_grows (0 * 10 + digit a) t)

pub size_ok : (t : List ℕ) → 0 < length t → (get_or t 0 0 ≡ 48 → ⊥) → digits t ≡ true → value 0 t ≤ 16384 → size t ≡ value 0 t
unfolding size is_size
size_ok [] h n e k = absurd (omega arith)
size_ok (a ∷ t) h n e k = rw (ne_eqb a 48 n, e, le-leb (value 0 (a ∷ t)) 16384 k)

pub size_bound : (t : List ℕ) → size t ≤ 16384
unfolding size is_size
size_bound t =
    cond_both (is_size t) (value 0 t) 0 (λ n. n ≤ 16384)
    (λ e. leb-true (value 0 t) 16384 (and_parts (digits t) _ (and_parts _ (digits t && _) e).1).1) (λ e. omega arith)

pub one_bound : (ts : List (List ℕ)) → one_size ts ≤ 16384
one_bound [] = omega arith
one_bound (t ∷ []) = size_bound t
one_bound (t ∷ u ∷ ts) = omega arith

-- ---- what is told of a side or a code

pub told_size : (n side : ℕ) → n ≡ side → 0 < side → Some side ≡ side_told n
told_size n zero e h = absurd (omega arith)
told_size n (suc side) e h = rw e

pub side_none : (n : ℕ) → side_told n ≡ None → n ≡ 0
side_none zero e = refl
side_none (suc n) e = absurd (none-some (suc n) (sym e))

pub side_some : (n side : ℕ) → side_told n ≡ Some side → (0 < n) × (side ≡ n)
side_some zero side e = absurd (none-some side e)
side_some (suc n) side e = (omega arith, sym (same_Some (suc n) side e))

pub sampling_none : (n : ℕ) → sampling_told n ≡ None → n ≡ 0
sampling_none zero e = refl
sampling_none (suc n) e = absurd (none-some _ (sym e))

pub sampling_some : (n : ℕ) (sampling : YuvChromaSubsampling) → sampling_told n ≡ Some sampling → (0 < n) × (sampling ≡ sampling_said n)
sampling_some zero sampling e = absurd (none-some sampling e)
sampling_some (suc n) sampling e = (omega arith, sym (same_Some _ sampling e))
