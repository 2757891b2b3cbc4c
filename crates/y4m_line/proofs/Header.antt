-- Laws of the header line. Assumes nothing.
use Prim.Native.Nat.{ℕ, ◌<◌, min}
use mathlib.Core.Path.{◌≡◌, refl, ap, ◌∙◌}
use mathlib.Core.Bool.{Bool, true, false, cond, ◌||◌}
use mathlib.Core.List.{List}
use native.Mathlib.Nat.{min_comm}
use native.Mathlib.Omega.{arith}
use lib.Dec.{ltb, eqb}
use lib.ListN.{length, take}
use borrow.Author.Tests.{le-leb}
use Rattle.std.proofs.lemmas.List.{take_min}
use Rattle.std.specs.Prelude.{Option, Some, None}
use Rattle.std.specs.Option.{unwrap_or}
use Rattle.std.specs.List.{position_or_len}
use Rattle.std.specs.Cmp.Lexicographic.{pointwise}
use Rattle.yuv_support.specs.declared.YuvChromaSubsampling.TheVariants.{Yuv420, Yuv422}
use Rattle.y4m_line.specs.Words.{upto, words, same, filled}
use Rattle.y4m_line.specs.Header.{width_of, height_of, sampling_of, is_line, is_header, code, line_end}
use Rattle.y4m_line.specs.Line.{magic, text420, text420jpeg, text420mpeg2, text422}
use Rattle.y4m_line.specs.Found.{sampling_told}
use Rattle.y4m_line.proofs.Words.{position_upto, same_bytes}

module _ (l : List ℕ) where
  pub not_line : is_line magic l ≡ false → is_header l ≡ false
  unfolding is_header
  not_line e = rw e

  module _ (e : is_line magic l ≡ true) where
    pub no_width : width_of l ≡ 0 → is_header l ≡ false
    unfolding is_header
    no_width w = rw (e, w)

    module _ (w : 0 < width_of l) where
      pub no_height : height_of l ≡ 0 → is_header l ≡ false
      unfolding is_header
      no_height h = rw (e, le-leb 1 (width_of l) (omega arith), h)

      module _ (h : 0 < height_of l) where
        pub no_code : sampling_of l ≡ 0 → is_header l ≡ false
        unfolding is_header
        no_code s = rw (e, le-leb 1 (width_of l) (omega arith), le-leb 1 (height_of l) (omega arith), s)

        pub header : 0 < sampling_of l → is_header l ≡ true
        unfolding is_header
        header s = rw (e, le-leb 1 (width_of l) (omega arith), le-leb 1 (height_of l) (omega arith), le-leb 1 (sampling_of l) (omega arith))

-- ---- the line at the front

told_end : (t : Bool) (e : ℕ) → unwrap_or (cond t (Some e) None) 256 ≡ cond t e 256
told_end true e = refl
told_end false e = refl

pub line_end_is : (b : List ℕ) (n : ℕ) → n ≡ min (length b) 256 → (front : List ℕ) → front ≡ take n b → (r : Option ℕ)
    → r ≡ cond (ltb (position_or_len (λ x. eqb x 10) front) (length front)) (Some (position_or_len (λ x. eqb x 10) front)) None
    → unwrap_or r 256 ≡ line_end b
unfolding line_end
line_end_is b n hn front hf r hr =
    let f : front ≡ take 256 b = hf ∙ ap (λ m. take m b) (hn ∙ min_comm (length b) 256) ∙ take_min 256 b in
    let p : position_or_len (λ x. eqb x 10) front ≡ upto 10 (take 256 b) = position_upto 10 front ∙ ap (upto 10) f in
    rw hr (told_end (ltb (position_or_len (λ x. eqb x 10) front) (length front)) (position_or_len (λ x. eqb x 10) front) ∙ (λ i. cond (ltb (p i) (length (f i))) (p i) 256))

-- ---- a word and its line

module _ (word line front : List ℕ) (t : Bool) (hf : front ≡ take (upto 32 line) line) (ht : t ≡ pointwise eqb front word) where
  asked : t ≡ same (take (upto 32 line) line) word
  asked = ht ∙ same_bytes front word ∙ ap (λ f. same f word) hf

  pub line_is : (u : Bool) → t ≡ true → u ≡ filled (words line) → u ≡ is_line word line
  unfolding is_line
  line_is u h hu = rw (← asked, h) hu

  pub line_not : t ≡ false → t ≡ is_line word line
  unfolding is_line
  line_not h = rw (← asked, h)

-- ---- a sampling

told_sampling : (p q r s : Bool)
    → sampling_told (cond p 1 (cond q 1 (cond r 1 (cond s 2 0)))) ≡ cond ((p || q) || r) (Some Yuv420) (cond s (Some Yuv422) None)
told_sampling true q r s = refl
told_sampling false true r s = refl
told_sampling false false true s = refl
told_sampling false false false true = refl
told_sampling false false false false = refl

pub sampling_is : (t : List ℕ) → sampling_told (code t)
    ≡ cond ((pointwise eqb t text420 || pointwise eqb t text420jpeg) || pointwise eqb t text420mpeg2) (Some Yuv420)
    (cond (pointwise eqb t text422) (Some Yuv422) None)
unfolding code
sampling_is t = rw (same_bytes t text420, same_bytes t text420jpeg, same_bytes t text420mpeg2, same_bytes t text422)
    (told_sampling (same t text420) (same t text420jpeg) (same t text420mpeg2) (same t text422))
