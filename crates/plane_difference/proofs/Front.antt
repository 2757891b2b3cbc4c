-- How far two planes are equal: the front grows by an equal byte, or number of bytes, and ends at the first unequal one; all is equal where it
-- reaches the end. Assumes nothing.
use Prim.Native.Nat.{ℕ, zero, suc, ◌+◌, ◌*◌, ◌/◌, ◌%◌, ◌≤◌, ◌<◌}
use mathlib.Core.Path.{◌≡◌, refl, sym, ◌∙◌, ap, ap₂}
use mathlib.Core.Bool.{Bool, true, false, cond, ◌&&◌}
use mathlib.Core.List.{List, [], ◌∷◌}
use native.Mathlib.Nat.{add-zero, mul-suc, mul-add-div, mul-add-mod_self_left, div-eq_of_lt, mod-eq_of_lt, mul-le-mul_left}
use native.Mathlib.Omega.{arith}
use borrow.Author.Tests.{eqb-true, eq-eqb, ne_eqb, lt-ltb, le-ltb, leb-true, le-leb, lt-leb}
use lib.Dec.{leb, eqb}
use lib.ListN.{length, get_or, drop, take}
use lib.Pointwise.{pointwise}
use lib.Seq.{get_or-drop, drop-drop, drop-cons}
use Rattle.little_endian.specs.Number.{Bytes, number_in}
use Rattle.std.proofs.Common.{Some, None}
use Rattle.std.proofs.lemmas.Bool.{false_from_ne_true, both_ways}
use Rattle.plane_difference.specs.Difference.{equal_front, plane_difference}

-- one byte more, or none
step : (t : Bool) (i f : ℕ) → suc i ≤ cond t (suc f) 0 → (t ≡ true) × (i ≤ f)
step true i f h = (refl, omega arith)
step false i f h = absurd (omega arith)

pub front_more : (a b : List ℕ) (i : ℕ) → i < length a → i < length b → get_or a i 0 ≡ get_or b i 0 → i ≤ equal_front a b → i + 1 ≤ equal_front a b
unfolding equal_front
front_more [] b i ha hb e h = absurd (omega arith)
front_more (x ∷ a) [] i ha hb e h = absurd (omega arith)
front_more (x ∷ a) (y ∷ b) zero ha hb e h = rw (eq-eqb x y e) (omega arith)
front_more (x ∷ a) (y ∷ b) (suc i) ha hb e h =
    let s = step (eqb x y) i (equal_front a b) h in
    let later = front_more a b i (omega arith) (omega arith) e s.1 in
    rw s.0 (omega arith)

pub front_ends : (a b : List ℕ) (i : ℕ) → (get_or a i 0 ≡ get_or b i 0 → ⊥) → i ≤ equal_front a b → equal_front a b ≡ i
unfolding equal_front
front_ends [] b i d h = omega arith
front_ends (x ∷ a) [] i d h = omega arith
front_ends (x ∷ a) (y ∷ b) zero d h = rw (ne_eqb x y d)
front_ends (x ∷ a) (y ∷ b) (suc i) d h =
    let s = step (eqb x y) i (equal_front a b) h in
    rw s.0 (ap suc (front_ends a b i d s.1))

pub front_whole : (a b : List ℕ) → length a ≡ length b → length a ≤ equal_front a b → a ≡ b
unfolding equal_front
front_whole [] [] l h = refl
front_whole [] (y ∷ b) l h = absurd (omega arith)
front_whole (x ∷ a) [] l h = absurd (omega arith)
front_whole (x ∷ a) (y ∷ b) l h =
    let s = step (eqb x y) (length a) (equal_front a b) h in
    ap₂ ◌∷◌ (eqb-true x y s.0) (front_whole a b (omega arith) s.1)

pub front_same : (a : List ℕ) → equal_front a a ≡ length a
unfolding equal_front
front_same [] = refl
front_same (x ∷ a) = rw (eq-eqb x x refl) (ap suc (front_same a))

-- ---- numbers of n bytes

pub front_byte : (a b : List ℕ) (i : ℕ) → i < equal_front a b → get_or a i 0 ≡ get_or b i 0
unfolding equal_front
front_byte [] b i h = absurd (omega arith)
front_byte (x ∷ a) [] i h = absurd (omega arith)
front_byte (x ∷ a) (y ∷ b) zero h = eqb-true x y (step (eqb x y) 0 (equal_front a b) (omega arith)).0
front_byte (x ∷ a) (y ∷ b) (suc i) h = front_byte a b i (step (eqb x y) (suc i) (equal_front a b) (omega arith)).1

-- a number's low byte, and what is above it
low : (x y m n : ℕ) → x < 256 → y < 256 → x + 256 * m ≡ y + 256 * n → (x ≡ y) × (m ≡ n)
low x y m n hx hy e = (omega arith, omega arith)

-- a number of one byte more, from any place on
one_more : (n i : ℕ) (a : List ℕ) → number_in (suc n) (drop i a) ≡ get_or a i 0 + 256 * number_in n (drop (i + 1) a)
unfolding number_in
one_more n i a = simp (get_or-drop, drop-drop, add-zero)

-- equal numbers are equal bytes, and the other way round
pub front_number : (n i : ℕ) (a b : List ℕ) → Bytes a → Bytes b → i + n ≤ length a → i + n ≤ length b
    → number_in n (drop i a) ≡ number_in n (drop i b) → i ≤ equal_front a b → i + n ≤ equal_front a b
front_number zero i a b ba bb ha hb e h = omega arith
front_number (suc n) i a b ba bb ha hb e h =
    let parts = low (get_or a i 0) (get_or b i 0) _ _ (ba i) (bb i) (sym (one_more n i a) ∙ e ∙ one_more n i b) in
    let first = front_more a b i (omega arith) (omega arith) parts.0 h in
    let rest = front_number n (i + 1) a b ba bb (omega arith) (omega arith) parts.1 first in
    omega arith

number_front : (n i : ℕ) (a b : List ℕ) → i + n ≤ equal_front a b → number_in n (drop i a) ≡ number_in n (drop i b)
unfolding number_in
number_front zero i a b h = refl
number_front (suc n) i a b h =
    one_more n i a ∙ ap₂ (λ (x m : ℕ). x + 256 * m) (front_byte a b i (omega arith)) (number_front n (i + 1) a b (omega arith)) ∙ sym (one_more n i b)

-- ---- what the test of a row answers

not_below : (e f : ℕ) → (e ≤ f → ⊥) → false ≡ leb e f
not_below e f h = sym (false_from_ne_true (leb e f) (λ q. h (leb-true e f q)))

pub word_differs : (n i e : ℕ) (a b : List ℕ) → i + n ≤ e → (number_in n (drop i a) ≡ number_in n (drop i b) → ⊥) → false ≡ leb e (equal_front a b)
word_differs n i e a b h d = not_below e (equal_front a b) (λ l. d (number_front n i a b (omega arith)))

pub byte_differs : (i e : ℕ) (a b : List ℕ) → i < e → (get_or a i 0 ≡ get_or b i 0 → ⊥) → false ≡ leb e (equal_front a b)
byte_differs i e a b h d = not_below e (equal_front a b) (λ l. d (front_byte a b i (omega arith)))

-- the bytes of the tail, n from place i on, tell whether the front reaches its end
pub tail_told : (n i : ℕ) (a b : List ℕ) → i + n ≤ length a → i + n ≤ length b → i ≤ equal_front a b
    → pointwise eqb (take n (drop i a)) (take n (drop i b)) ≡ leb (i + n) (equal_front a b)
tail_told zero i a b ha hb h = sym (le-leb (i + 0) (equal_front a b) (omega arith))
tail_told (suc n) i a b ha hb h =
    rw (drop-cons a i 0 (omega arith), drop-cons b i 0 (omega arith))
    (at (λ more. tail_told n (suc i) a b (omega arith) (omega arith) more) (eqb (get_or a i 0) (get_or b i 0)) refl)
  where
    at : (suc i ≤ equal_front a b → pointwise eqb (take n (drop (suc i) a)) (take n (drop (suc i) b)) ≡ leb (suc i + n) (equal_front a b))
        → (t : Bool) → eqb (get_or a i 0) (get_or b i 0) ≡ t
        → (t && pointwise eqb (take n (drop (suc i) a)) (take n (drop (suc i) b))) ≡ leb (i + suc n) (equal_front a b)
    at later true e =
        let more = front_more a b i (omega arith) (omega arith) (eqb-true (get_or a i 0) (get_or b i 0) e) h in
        let same : suc i + n ≡ i + suc n = omega arith in
        later (omega arith) ∙ ap (λ (m : ℕ). leb m (equal_front a b)) same
    at later false e =
        let ends = front_ends a b i (λ s. both_ways _ e (eq-eqb (get_or a i 0) (get_or b i 0) s)) h in
        sym (lt-leb (i + suc n) (equal_front a b) (omega arith))

-- ---- rows

-- a row below h ends within h rows
pub row_end : (w r h : ℕ) → r < h → w * r + w ≤ w * h
row_end w r h l = omega (arith, mul-le-mul_left {m = suc r} {n = h} w (omega arith), mul-suc w r)

-- ---- what a comparison answers

pub differs_at : (w : ℕ) (a b : List ℕ) (r c : ℕ) → c < w → w * r + c < length a → equal_front a b ≡ w * r + c → Some (r, c) ≡ plane_difference w a b
unfolding plane_difference
differs_at w a b r c hc inside e =
    let row : (w * r + c) / w ≡ r = mul-add-div {m = w} (omega arith) r c ∙ ap (λ (k : ℕ). r + k) (div-eq_of_lt hc) ∙ add-zero r in
    let column : (w * r + c) % w ≡ c = mul-add-mod_self_left w r c ∙ mod-eq_of_lt hc in
    rw (e, lt-ltb (w * r + c) (length a) inside) (ap₂ (λ (x y : ℕ). Some (x, y)) (sym row) (sym column))

pub nowhere : (w : ℕ) (a b : List ℕ) → length a ≤ equal_front a b → None ≡ plane_difference w a b
unfolding plane_difference
nowhere w a b h = rw (le-ltb (equal_front a b) (length a) h)
