-- What is written is read again, and what is read is written again: each law by induction on the width. Assumes nothing.
use Prim.Native.Nat.{ℕ, zero, suc, ◌/◌, ◌^◌, ◌≤◌, ◌<◌}
use mathlib.Core.Path.{◌≡◌, refl, ap, ap₂, ◌∙◌}
use mathlib.Core.List.{List, [], ◌∷◌, ◌++◌}
use native.Mathlib.Nat.{pow-succ'}
use native.Mathlib.Omega.{arith}
use lib.ListN.{length, take, drop, take-append-drop}
use lib.Seq.{get_or-drop, drop_at}
use Rattle.little_endian.specs.Number.{Bytes, low_bytes, number_in}

pub length_low : (n v : ℕ) → length (low_bytes n v) ≡ n
unfolding low_bytes
length_low zero v = refl
length_low (suc n) v = ap suc (length_low n (v / 256))

-- past a number
pub drop_low : (n v : ℕ) (t : List ℕ) → drop n (low_bytes n v ++ t) ≡ t
drop_low n v t = drop_at (low_bytes n v) t n (length_low n v)

pub bytes_drop : (k : ℕ) (l : List ℕ) → Bytes l → Bytes (drop k l)
bytes_drop k l h i = rw get_or-drop (h _)

pub bytes_take : (n : ℕ) (l : List ℕ) → Bytes l → Bytes (take n l)
bytes_take zero l h i = omega arith
bytes_take (suc n) [] h i = omega arith
bytes_take (suc n) (x ∷ l) h zero = h 0
bytes_take (suc n) (x ∷ l) h (suc i) = bytes_take n l (λ j. h (suc j)) i

-- what is written is read again
pub number_low : (n v : ℕ) (t : List ℕ) → v < 256 ^ n → number_in n (low_bytes n v ++ t) ≡ v
unfolding low_bytes number_in
number_low zero v t h = omega arith
number_low (suc n) v t h = omega (arith, number_low n (v / 256) t (omega (arith, pow-succ' 256 n)))

-- what is read is written again
pub low_number : (n : ℕ) (l : List ℕ) → Bytes l → n ≤ length l → low_bytes n (number_in n l) ≡ take n l
unfolding low_bytes number_in
low_number zero l b h = refl
low_number (suc n) [] b h = absurd (omega arith)
low_number (suc n) (x ∷ l) b h =
    ap₂ {C = List ℕ} (λ (y : ℕ) (r : List ℕ). y ∷ r) (omega (arith, b 0))
    (ap (low_bytes n) (omega (arith, b 0)) ∙ low_number n l (λ i. b (suc i)) (omega arith))

-- a number, and what follows it
pub low_rest : (n : ℕ) (l : List ℕ) → Bytes l → n ≤ length l → low_bytes n (number_in n l) ++ drop n l ≡ l
low_rest n l b h = rw (low_number n l b h) (take-append-drop n l)

pub number_below : (n : ℕ) (l : List ℕ) → Bytes l → number_in n l < 256 ^ n
unfolding number_in
number_below zero l b = omega arith
number_below (suc n) l b = omega (arith, pow-succ' 256 n, b 0, number_below n (drop 1 l) (bytes_drop 1 l b))
