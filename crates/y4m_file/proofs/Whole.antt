-- From the header's line and the count to the check. Assumes nothing.
use Prim.Native.Nat.{ℕ, ◌+◌, ◌-◌, ◌≤◌, ◌<◌}
use mathlib.Core.Path.{◌≡◌, ap, sym, ◌∙◌}
use mathlib.Core.Bool.{true, false, true≢false}
use mathlib.Core.List.{List}
use lib.ListN.{length, take, drop}
use Rattle.std.proofs.lemmas.List.{take_rest}
use Rattle.std.specs.Prelude.{Option, None, IsSome, ◌↔◌}
use borrow.Author.Tests.{lt-ltb}
use Rattle.y4m_line.specs.Header.{width_of, height_of, sampling_of, sampling_said, is_header, line_end}
use Rattle.y4m_line.specs.Words.{words}
use Rattle.y4m_line.specs.Line.{tagged}
use Rattle.y4m_line.specs.Found.{SaysHeader}
use Rattle.y4m_line.specs.declared.HeaderLine.{HeaderLine}
use Rattle.y4m_line.proofs.Decimal.{one_bound}
use Rattle.y4m_file.specs.Check.{plane_bytes, pictures, count_of, header_of, rest_of, planes_in, pictures_in, is_y4m}
use Rattle.y4m_file.specs.Known.{IsRead}
use Rattle.y4m_file.specs.declared.opened.Y4mRead.{Y4mRead}

pub width_bound : (l : List ℕ) → width_of l ≤ 16384
unfolding width_of
width_bound l = one_bound (tagged 87 (words l))

pub height_bound : (l : List ℕ) → height_of l ≤ 16384
unfolding height_of
height_bound l = one_bound (tagged 72 (words l))

-- what a header's line says
pub said_sizes : (l : List ℕ) (h : HeaderLine) → SaysHeader l h → (h.width ≤ 16384) × (h.height ≤ 16384)
said_sizes l h s = (rw s.width (width_bound l), rw s.height (height_bound l))

-- the sides of a file that was opened
pub read_sizes : (r : Y4mRead) → (r.header.width ≤ 16384) × (r.header.height ≤ 16384)
read_sizes r = let k = r.is_read in (rw k.width (width_bound (header_of r.bytes.now)), rw k.height (height_bound (header_of r.bytes.now)))

-- none is told of bytes that are no file
pub not_some : {X : Type 0} (b : List ℕ) → is_y4m b ≡ false → (r : Option X) → r ≡ None → IsSome r ↔ (is_y4m b ≡ true)
not_some b other r e = rw e (λ s. absurd (true≢false (sym s)), λ file. absurd (true≢false (sym file ∙ other)))

module _ (b : List ℕ) where
  pub no_line : 256 ≡ line_end b → is_y4m b ≡ false
  unfolding is_y4m
  no_line h = rw (← h)

  module _ (e : ℕ) (he : e ≡ line_end b) (h : e < 256) where
    pub no_header : is_header (take e b) ≡ false → is_y4m b ≡ false
    unfolding is_y4m
    no_header z = rw (← he, lt-ltb e 256 h, z)

    module _ (header : HeaderLine) (s : SaysHeader (take e b) header) (n : ℕ) (hn : n ≡ plane_bytes header.sampling header.width header.height)
        (t : List ℕ) (ht : t ≡ take (length b - (e + 1)) (drop (e + 1) b)) where
      rest_same : t ≡ rest_of b
      rest_same = ht ∙ take_rest b (e + 1) ∙ ap (λ m. drop (m + 1) b) he

      line_same : take e b ≡ header_of b
      line_same = ap (λ m. take m b) he

      planes_same : n ≡ planes_in b
      planes_same = hn ∙ rw (s.sampling, s.width, s.height, line_same)

      count_same : pictures_in b ≡ count_of n t
      unfolding pictures_in
      count_same = rw (planes_same, rest_same)

      by_count : is_y4m b ≡ pictures n (count_of n t) t
      unfolding is_y4m
      by_count = rw (count_same, ← planes_same, ← rest_same, ← he, lt-ltb e 256 h, s.is_header_lem)

      pub file_read : (k : ℕ) → pictures n k t ≡ true → k ≡ count_of n t → IsRead b header k
      file_read k p q = record {
        is_file_lem = by_count ∙ rw (← q) p;
        width = s.width ∙ ap width_of line_same;
        height = s.height ∙ ap height_of line_same;
        sampling = s.sampling ∙ ap (λ l. sampling_said (sampling_of l)) line_same;
        count = q ∙ sym count_same;
      }

      pub file_malformed : pictures n (count_of n t) t ≡ false → is_y4m b ≡ false
      file_malformed p = by_count ∙ p
