-- Laws of two painted rows, and of the bytes that a pair of pixels writes: f x and f next, where an odd last pixel is its own neighbour.
-- The idea: of four bytes that a block writes the two of the upper row come first, and a byte that is written twice is written once.
-- Assumes nothing.
use mathlib.Core.Path.{◌≡◌, refl, ap, ◌∙◌, subst}
use mathlib.Core.List.{List}
use Prim.Native.Nat.{ℕ, ◌+◌, ◌-◌, ◌≤◌, ◌<◌, min}
use native.Mathlib.Omega.{arith}
use lib.ListN.{length, get_or, set, length-set}
use lib.Seq.{get_or-set_same, get_or-set_other, set_comm, set-set}
use Rattle.definitions.specs.Painted.{Painted}
use Rattle.pixel_pairs.specs.Rows.{TwoPainted, put_pair}
use Rattle.definitions.proofs.Painted.{Painted-more}
use Rattle.definitions.proofs.Planes.{below?}

-- a byte more of each
pub two_more : {upper lower n : ℕ} {f g : ℕ → ℕ} {d e : List ℕ} (a b : ℕ) → upper + n < lower → lower + n < length e → a ≡ f n → b ≡ g n
    → TwoPainted upper lower n f g d e
    → TwoPainted upper lower (n + 1) f g d (set (set e (upper + n) a) (lower + n) b)
two_more {upper} {lower} {n} {f} {g} {d} {e} a b apart inside ea eb p =
    record { size = length-set e1 (lower + n) b ∙ length-set e (upper + n) a ∙ p.size; in_upper = in_upper; in_lower = in_lower; other = other }
  where
    e1 : List ℕ
    e1 = set e (upper + n) a

    e2 : List ℕ
    e2 = set e1 (lower + n) b

    -- another byte than these two
    past : (q : ℕ) → (q ≡ upper + n → ⊥) → (q ≡ lower + n → ⊥) → get_or e2 q 0 ≡ get_or e q 0
    past q h k = get_or-set_other e1 (lower + n) q b 0 (λ x. k (omega arith)) ∙ get_or-set_other e (upper + n) q a 0 (λ x. h (omega arith))

    in_upper : (k : ℕ) → k < n + 1 → get_or e2 (upper + k) 0 ≡ f k
    in_upper k h =
        below? k n (λ l. past (upper + k) (λ x. omega arith) (λ x. omega arith) ∙ p.in_upper k l)
        (λ l. let x : k ≡ n = omega arith in rw x (get_or-set_other e1 (lower + n) (upper + n) b 0 (λ y. omega arith)
        ∙ get_or-set_same e (upper + n) a 0 (omega arith) ∙ ea))

    in_lower : (k : ℕ) → k < n + 1 → get_or e2 (lower + k) 0 ≡ g k
    in_lower k h =
        below? k n (λ l. past (lower + k) (λ x. omega arith) (λ x. omega arith) ∙ p.in_lower k l)
        (λ l. let x : k ≡ n = omega arith in rw x (get_or-set_same e1 (lower + n) b 0 (omega (arith, length-set e (upper + n) a)) ∙ eb))

    other : (q : ℕ) → (upper ≤ q → q < upper + (n + 1) → ⊥) → (lower ≤ q → q < lower + (n + 1) → ⊥) → get_or e2 q 0 ≡ get_or d q 0
    other q h k = past q (λ x. h (omega arith) (omega arith)) (λ x. k (omega arith) (omega arith))
        ∙ p.other q (λ x y. h x (omega arith)) (λ x y. k x (omega arith))

pub two_to : {upper lower m n : ℕ} {f g : ℕ → ℕ} {d e : List ℕ} → m ≡ n → TwoPainted upper lower m f g d e → TwoPainted upper lower n f g d e
two_to {upper = upper} {lower = lower} {f = f} {g = g} {d = d} {e = e} h p = subst (λ (n : ℕ). TwoPainted upper lower n f g d e) h p

pub Painted-to : {m n : ℕ} {f : ℕ → ℕ} {d e : List ℕ} → m ≡ n → Painted m f d e → Painted n f d e
Painted-to {f = f} {d = d} {e = e} h p = subst (λ (n : ℕ). Painted n f d e) h p

pub length_as : (y : List ℕ) {y' l : List ℕ} → y' ≡ l → length l ≡ length y → length y' ≡ length y
length_as y e h = ap length e ∙ h

module _ {w n next : ℕ} (inside : n < w) (is : next ≡ min (n + 1) (w - 1)) {f : ℕ → ℕ} {d e : List ℕ} where
  -- the bytes of a pair more, of a row that begins at 0
  pub Painted-pair : w ≤ length e → Painted n f d e → Painted (next + 1) f d (put_pair 0 n next f e)
  Painted-pair room p = below? (n + 1) w right last
    where
      here : 0 + n ≡ n
      here = omega arith

      right : n + 1 < w → Painted (next + 1) f d (put_pair 0 n next f e)
      right h =
          let k : next ≡ n + 1 = omega arith in
          let after : 0 + (n + 1) ≡ n + 1 = omega arith in
          rw (k, here, after) (Painted-more (f (n + 1)) (omega (arith, length-set e n (f n))) refl (Painted-more (f n) (omega arith) refl p))

      last : w ≤ n + 1 → Painted (next + 1) f d (put_pair 0 n next f e)
      last h = let k : next ≡ n = omega arith in rw (k, here, set-set e n (f n) (f n)) (Painted-more (f n) (omega arith) refl p)

  -- and of two rows
  module _ {upper lower : ℕ} {g : ℕ → ℕ} (apart : upper + w ≤ lower) (room : lower + w ≤ length e) (p : TwoPainted upper lower n f g d e) where
    pub two_pairs : TwoPainted upper lower (next + 1) f g d (put_pair lower n next g (put_pair upper n next f e))
    two_pairs = below? (n + 1) w right last
      where
        right : n + 1 < w → TwoPainted upper lower (next + 1) f g d (put_pair lower n next g (put_pair upper n next f e))
        right h =
            let k : next ≡ n + 1 = omega arith in
            let one = two_more (f n) (g n) (omega arith) (omega arith) refl refl p in
            let e1 = set e (upper + n) (f n) in
            let order : set (set e1 (lower + n) (g n)) (upper + (n + 1)) (f (n + 1)) ≡ set (set e1 (upper + (n + 1)) (f (n + 1))) (lower + n) (g n) =
            set_comm e1 (lower + n) (upper + (n + 1)) (g n) (f (n + 1)) (λ x. omega arith) in
            rw k (subst (λ (l : List ℕ). TwoPainted upper lower (n + 1 + 1) f g d (set l (lower + (n + 1)) (g (n + 1)))) order
            (two_more (f (n + 1)) (g (n + 1)) (omega arith) (omega (arith, length-set e1 (lower + n) (g n), length-set e (upper + n) (f n))) refl refl one))

        last : w ≤ n + 1 → TwoPainted upper lower (next + 1) f g d (put_pair lower n next g (put_pair upper n next f e))
        last h =
            let k : next ≡ n = omega arith in
            let e1 = set e (upper + n) (f n) in
            let one = set-set e (upper + n) (f n) (f n) in
            let two = set-set e1 (lower + n) (g n) (g n) in
            rw (k, one, two) (two_more (f n) (g n) (omega arith) (omega arith) refl refl p)
