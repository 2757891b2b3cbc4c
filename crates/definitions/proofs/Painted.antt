-- Laws of painted rows. The idea: a row is painted exactly where its first n bytes are f's and the others as before, so every law
-- goes by a byte's place, below n or past it.
-- Assumes nothing.
use mathlib.Core.Path.{◌≡◌, refl, ◌∙◌, subst}
use mathlib.Core.List.{List}
use Prim.Native.Nat.{ℕ, ◌+◌, ◌-◌, ◌≤◌, ◌<◌, zero-le}
use native.Mathlib.Omega.{arith}
use borrow.Author.Tests.{lt-ltb, le-ltb}
use borrow.Rule.Slice.PartMut.{put_mid, same_len_mid}
use lib.ListN.{length, get_or, set, take, drop, length-set}
use lib.Seq.{get_or-set_same, get_or-set_other, ext_get_or}
use Rattle.definitions.specs.Painted.{Painted}
use Rattle.definitions.proofs.Parts.{part_before, part_in, part_after}
use Rattle.definitions.proofs.Planes.{below?}

-- ---- what painted rows hold

pub Painted-at : {n : ℕ} {f : ℕ → ℕ} {d e : List ℕ} → Painted n f d e → (k : ℕ) → k < n → get_or e k 0 ≡ f k
Painted-at {n} p k h = rw (lt-ltb k n h) at (p.byte k)

pub Painted-other : {n : ℕ} {f : ℕ → ℕ} {d e : List ℕ} → Painted n f d e → (k : ℕ) → n ≤ k → get_or e k 0 ≡ get_or d k 0
Painted-other {n} p k h = rw (le-ltb k n h) at (p.byte k)

-- with no byte painted, nothing changed
pub painted_same : {f : ℕ → ℕ} {d e : List ℕ} → Painted 0 f d e → e ≡ d
painted_same {d = d} {e = e} p = ext_get_or 0 e d p.size (λ k _. Painted-other p k zero-le)

-- ---- how rows come to be painted

pub painted : {n : ℕ} {f : ℕ → ℕ} {d e : List ℕ} → length e ≡ length d → ((k : ℕ) → k < n → get_or e k 0 ≡ f k) → ((k : ℕ) → n ≤ k → get_or e k 0 ≡ get_or d k 0)
    → Painted n f d e
painted {n} s p q =
    record { size = s; byte = λ k. below? k n (λ h. rw (lt-ltb k n h) (p k h)) (λ h. rw (le-ltb k n h) (q k h)) }

pub Painted-none : (f : ℕ → ℕ) (d : List ℕ) → Painted 0 f d d
Painted-none f d = painted refl (λ k h. absurd (omega arith)) (λ k h. refl)

-- one byte more
pub Painted-more : {i : ℕ} {f : ℕ → ℕ} {d e : List ℕ} (v : ℕ) → i < length e → v ≡ f i → Painted i f d e → Painted (i + 1) f d (set e i v)
Painted-more {i} {f} {d} {e} v inside is p =
    painted (length-set e i v ∙ p.size)
    (λ k h. below? k i (λ l. get_or-set_other e i k v 0 (omega arith) ∙ Painted-at p k l) (λ l. new k (omega arith)))
    (λ k h. get_or-set_other e i k v 0 (omega arith) ∙ Painted-other p k (omega arith))
  where
    new : (k : ℕ) → k ≡ i → get_or (set e i v) k 0 ≡ f k
    new k at = rw at (get_or-set_same e i v 0 inside ∙ is)

-- a part more: the k bytes from n on, painted while they were lent
pub Painted-join : (n k : ℕ) {f g : ℕ → ℕ} {d e part : List ℕ} → n + k ≤ length e → ((q : ℕ) → q < k → g q ≡ f (n + q)) → length part ≡ k → Painted n f d e
    → Painted k g (take k (drop n e)) part → Painted (n + k) f d (put_mid n k e part)
Painted-join n k {f} {g} {d} {e} {part} inside agree size p q =
    painted (same_len_mid n k e part q.size ∙ p.size)
    (λ i h. below? i n
    (λ l. part_before n k e part inside size i l ∙ Painted-at p i l)
    (λ l. subst (λ (j : ℕ). get_or (put_mid n k e part) j 0 ≡ f j) (omega arith) (new (i - n) (omega arith))))
    (λ i h. subst (λ (j : ℕ). get_or (put_mid n k e part) j 0 ≡ get_or d j 0) (omega arith) (old (i - (n + k))))
  where
    new : (j : ℕ) → j < k → get_or (put_mid n k e part) (n + j) 0 ≡ f (n + j)
    new j h = part_in n k e part inside size j h ∙ Painted-at q j h ∙ agree j h

    old : (j : ℕ) → get_or (put_mid n k e part) (n + (k + j)) 0 ≡ get_or d (n + (k + j)) 0
    old j = part_after n k e part inside size j ∙ Painted-other p (n + (k + j)) (omega arith)

-- the same bytes, by another name
pub Painted-like : {n : ℕ} {f g : ℕ → ℕ} {d e : List ℕ} → ((k : ℕ) → k < n → f k ≡ g k) → Painted n f d e → Painted n g d e
Painted-like s p = painted p.size (λ k h. Painted-at p k h ∙ s k h) (Painted-other p)

-- what was painted is painted over
pub Painted-over : {n : ℕ} {f g : ℕ → ℕ} {d e e' : List ℕ} → Painted n f d e → Painted n g e e' → Painted n g d e'
Painted-over p q = painted (q.size ∙ p.size) (Painted-at q) (λ k h. Painted-other q k h ∙ Painted-other p k h)
