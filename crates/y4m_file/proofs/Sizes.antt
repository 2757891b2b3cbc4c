-- The picture at the front, by the tests that look for it. Assumes nothing.
use Prim.Native.Nat.{ℕ, ◌+◌, ◌≤◌, ◌<◌}
use mathlib.Core.Path.{◌≡◌, refl}
use mathlib.Core.Bool.{Bool, true, false, cond}
use mathlib.Core.List.{List}
use native.Mathlib.Omega.{arith}
use lib.Dec.{ltb}
use lib.ListN.{length, take}
use borrow.Author.Tests.{lt-ltb, le-leb, ltb-true, leb-true}
use Rattle.std.proofs.lemmas.Bool.{and_parts}
use Rattle.y4m_line.specs.Header.{is_line, line_end}
use Rattle.y4m_line.specs.Line.{frame}
use Rattle.y4m_file.specs.Check.{picture_stands, picture_size}

-- ---- a picture that stands there

pub record Stands (n : ℕ) (l : List ℕ) : Type 0 where
  pub short : line_end l < 256
  pub line : is_line frame (take (line_end l) l) ≡ true
  pub whole : line_end l + 1 + n ≤ length l
  pub size : picture_size n l ≡ line_end l + 1 + n

pick : (t : Bool) (s : ℕ) → 0 < cond t s 0 → (t ≡ true) × (cond t s 0 ≡ s)
pick true s h = (refl, refl)
pick false s h = absurd (omega arith)

pub Stands-true : (n : ℕ) (l : List ℕ) → 0 < picture_size n l → Stands n l
unfolding picture_size picture_stands
Stands-true n l h =
    let p = pick _ (line_end l + 1 + n) h in
    let q = and_parts (ltb (line_end l) 256) _ p.0 in
    let r = and_parts (is_line frame (take (line_end l) l)) _ q.1 in
    record {
      short = ltb-true (line_end l) 256 q.0;
      line = r.0;
      whole = leb-true (line_end l + 1 + n) (length l) r.1;
      size = p.1;
    }

pub size_is : (n : ℕ) (l : List ℕ) → line_end l < 256 → is_line frame (take (line_end l) l) ≡ true → line_end l + 1 + n ≤ length l
    → picture_size n l ≡ line_end l + 1 + n
unfolding picture_size picture_stands
size_is n l h i k = rw (lt-ltb (line_end l) 256 h, i, le-leb (line_end l + 1 + n) (length l) k)
