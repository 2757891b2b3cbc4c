-- Runs of stores: one after another, one copied over a part, and a number's bytes.
-- Assumes nothing.
use Prim.Native.Nat.{ℕ, zero, suc, ◌+◌, ◌-◌, ◌/◌, ◌%◌, ◌^◌, ◌≤◌, ◌<◌, min}
use mathlib.Core.Path.{◌≡◌, refl, sym, ap, ◌∙◌}
use mathlib.Core.List.{List, [], ◌∷◌, ◌++◌, append_assoc, append-nil}
use native.Mathlib.Nat.{zero-add, add-zero, add-suc, suc-add, div-one, div-div-eq-div-mul, pow-suc, pow-succ'}
use native.Mathlib.Omega.{arith}
use lib.ListN.{length, take, drop, set, replicate, length-replicate, length-drop, take-append-drop}
use lib.Seq.{sets, sets-eq, length-sets, drop-drop, drop-append-le, length-take-le}
use borrow.Rule.Slice.PartMut.{put_mid}
use Rattle.std.specs.Int.{byte_at, bytes_low_first}
use Rattle.little_endian.specs.Number.{low_bytes}
use Rattle.little_endian.proofs.Number.{length_low}

-- one run after another
pub sets-append : (s t d : List ℕ) (p : ℕ) → sets d p (s ++ t) ≡ sets (sets d p s) (p + length s) t
sets-append [] t d p = rw add-zero
sets-append (x ∷ s) t d p = rw (add-suc, ← suc-add) (sets-append s t (set d p x) (suc p))

-- a run copied over a part
pub put_sets : {X : Type 0} (d s : List X) (at k : ℕ) → at + length s ≤ length d → k ≡ length s → put_mid at k d s ≡ sets d at s
put_sets d s at k h e = rw (e, drop-drop, ← append_assoc) (sym (sets-eq s d at h))

-- what is behind the first n elements, in a front part and past it
part_rest : {X : Type 0} (l : List X) (n k : ℕ) → n ≤ k → k ≤ length l → drop n (take k l) ++ drop k l ≡ drop n l
part_rest l n k h m =
    sym (drop-append-le n (take k l) (drop k l) (omega (arith, length-take-le k l m))) ∙ ap (drop n) (take-append-drop k l)

-- a run stored at the front of a part
pub sets_part : {X : Type 0} (d s : List X) (at k : ℕ) → at + k ≤ length d → length s ≤ k → put_mid at k d (sets (take k (drop at d)) 0 s) ≡ sets d at s
sets_part d s at k h m =
    let long : k ≤ length (drop at d) = rw length-drop (omega arith) in
    let front : sets (take k (drop at d)) 0 s ≡ s ++ drop (length s) (take k (drop at d)) =
    sets-eq s (take k (drop at d)) 0 (rw (zero-add (length s), length-take-le k (drop at d) long) m) ∙ rw (zero-add (length s)) in
    let rest : drop (length s) (take k (drop at d)) ++ drop k (drop at d) ≡ drop (at + length s) d =
    part_rest (drop at d) (length s) k m long ∙ drop-drop (length s) at d in
    rw (front, append_assoc, rest, ← append_assoc) (sym (sets-eq s d at (omega arith)))

-- ---- a number's eight bytes, and 0 past them

byte_is : (i v : ℕ) → byte_at i v ≡ v / 256 ^ i % 256
byte_is zero v = ap (λ (n : ℕ). n % 256) (sym (div-one v))
byte_is (suc i) v = refl

low_first : (k i v : ℕ) → bytes_low_first i k v ≡ low_bytes k (v / 256 ^ i)
unfolding low_bytes
low_first zero i v = refl
low_first (suc k) i v =
    let next : v / 256 ^ suc i ≡ v / 256 ^ i / 256 = rw pow-suc (sym (div-div-eq-div-mul v (256 ^ i) 256)) in
    rw (byte_is i v, low_first k (suc i) v, next)

take_low : (k n v : ℕ) → k ≤ n → take k (low_bytes n v) ≡ low_bytes k v
unfolding low_bytes
take_low zero n v h = refl
take_low (suc k) zero v h = absurd (omega arith)
take_low (suc k) (suc n) v h = rw (take_low k n (v / 256) (omega arith))

low_zero : (n : ℕ) → low_bytes n 0 ≡ replicate n 0
unfolding low_bytes
low_zero zero = refl
low_zero (suc n) = rw (low_zero n)

low_past : (k n v : ℕ) → v < 256 ^ k → low_bytes (k + n) v ≡ low_bytes k v ++ replicate n 0
unfolding low_bytes
low_past zero n v h = let none : v ≡ 0 = omega arith in rw (zero-add, none) (low_zero n)
low_past (suc k) n v h = rw suc-add (ap (λ (l : List ℕ). v % 256 ∷ l) (low_past k n (v / 256) (omega (arith, pow-succ' 256 k))))

low_beyond : (k n v : ℕ) → (0 < n → v < 256 ^ k) → low_bytes (k + n) v ≡ low_bytes k v ++ replicate n 0
low_beyond k zero v h = rw (add-zero, append-nil)
low_beyond k (suc n) v h = low_past k (suc n) v (h (omega arith))

pub number_put : (d b z : List ℕ) (at size v k m n : ℕ) → at + size ≤ length d → v < 256 ^ 8 → k ≡ min size 8 → b ≡ take k (bytes_low_first 0 8 v)
    → m ≡ k → n ≡ size - k → z ≡ replicate n 0 → put_mid (at + k) n (put_mid at m d b) z ≡ sets d at (low_bytes size v)
number_put d b z at size v k m n h fits ek eb em en ez =
    let own : b ≡ low_bytes k v = eb ∙ rw (low_first 8 0 v, div-one) (take_low k 8 v (omega arith)) in
    let long : length b ≡ k = ap length own ∙ length_low k v in
    let rest : length z ≡ n = ap length ez ∙ length-replicate n 0 in
    let first : put_mid at m d b ≡ sets d at b = put_sets d b at m (omega arith) (omega arith) in
    let then : put_mid (at + k) n (sets d at b) z ≡ sets (sets d at b) (at + k) z =
    put_sets (sets d at b) z (at + k) n (rw length-sets (omega arith)) (omega arith) in
    let past : 0 < n → v < 256 ^ k = λ p. let eight : k ≡ 8 = omega arith in rw eight fits in
    let all : low_bytes (k + n) v ≡ low_bytes size v = ap (λ (s : ℕ). low_bytes s v) (omega arith) in
    let both : b ++ z ≡ low_bytes size v = rw (own, ez) (sym (low_beyond k n v past) ∙ all) in
    rw (first, then) (rw long at (sym (sets-append b z d at)) ∙ ap (sets d at) both)
