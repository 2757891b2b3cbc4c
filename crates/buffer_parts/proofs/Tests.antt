-- The tests of parts say yes exactly where the part lies inside, or where some byte is of both: that byte is the later start.
-- Assumes nothing.
use Prim.Native.Nat.{ℕ, ◌+◌, ◌-◌, ◌≤◌, ◌<◌, min, max}
use lib.Dec.{ltb}
use mathlib.Core.Path.{◌≡◌}
use mathlib.Core.Bool.{true, ◌&&◌}
use native.Mathlib.Omega.{arith}
use borrow.Author.Tests.{ltb-true, leb-true, lt-ltb, le-leb}
use Rattle.std.proofs.lemmas.Bool.{and_parts}
use Rattle.std.specs.Cmp.Derive.{one_truth}
use Rattle.buffer_parts.specs.declared.BufferPart.{BufferPart}
use Rattle.buffer_parts.specs.Parts.{Inside, Overlap, is_inside, are_overlapping, TestsAreExact}

pub Inside-yes : (p : BufferPart) (n : ℕ) → is_inside p n ≡ true → Inside p n
Inside-yes p n e = leb-true (p.offset + p.length) n e

pub overlap_starts : (a b : BufferPart) → are_overlapping a b ≡ true
    → max a.offset b.offset < min (a.offset + a.length) (b.offset + b.length)
overlap_starts a b e = ltb-true (max a.offset b.offset) (min (a.offset + a.length) (b.offset + b.length)) e

pub Overlap-yes : (a b : BufferPart) → are_overlapping a b ≡ true → Overlap a b
Overlap-yes a b e =
    let l = overlap_starts a b e in
    (max a.offset b.offset, ((omega arith, omega arith), (omega arith, omega arith)))

pub Overlap-found : (a b : BufferPart) → Overlap a b → are_overlapping a b ≡ true
Overlap-found a b (i, (x, y)) =
    lt-ltb (max a.offset b.offset) (min (a.offset + a.length) (b.offset + b.length)) (omega (arith, x.0, x.1, y.0, y.1))

pub tests_are_exact : TestsAreExact
tests_are_exact = record {
  inside = λ p n. (Inside-yes p n, le-leb (p.offset + p.length) n);
  overlap = λ a b. (Overlap-yes a b, Overlap-found a b);
}

-- of two parts the later one has a byte, and starts before the other ends
pub later_starts : (a b : BufferPart) → a.offset ≤ b.offset
    → (ltb (b.offset - a.offset) a.length && ltb 0 b.length) ≡ are_overlapping a b
later_starts a b l =
    one_truth (ltb (b.offset - a.offset) a.length && ltb 0 b.length) (are_overlapping a b)
    (λ e. let z = and_parts (ltb (b.offset - a.offset) a.length) (ltb 0 b.length) e in
    lt-ltb (max a.offset b.offset) (min (a.offset + a.length) (b.offset + b.length))
    (omega (arith, ltb-true (b.offset - a.offset) a.length z.0, ltb-true 0 b.length z.1)))
    (λ e. let s = overlap_starts a b e in rw (lt-ltb (b.offset - a.offset) a.length (omega arith), lt-ltb 0 b.length (omega arith)))
