-- Runs of stores: a line piece by piece. Assumes nothing.
use Prim.Native.Nat.{ℕ, ◌+◌, ◌≤◌}
use mathlib.Core.Path.{◌≡◌, refl, sym, ap, ◌∙◌}
use mathlib.Core.List.{List, [], ◌∷◌, ◌++◌, append_assoc}
use native.Mathlib.Nat.{zero-add}
use native.Mathlib.Omega.{arith}
use lib.ListN.{length, take, drop, length-append}
use lib.Seq.{sets, sets-eq, length-sets, take_at}
use borrow.Rule.Slice.PartMut.{put_mid}
use Rattle.little_endian.proofs.Stores.{sets-append, sets_part}
use Rattle.yuv_support.specs.declared.YuvChromaSubsampling.{YuvChromaSubsampling}
use Rattle.yuv_support.specs.declared.YuvChromaSubsampling.TheVariants.{Yuv420, Yuv422}
use Rattle.y4m_line.specs.Line.{line_of, text_of, tag_bytes, magic}
use Rattle.y4m_writer.specs.Text.{decimal, written_tags}
use Rattle.y4m_writer.specs.Known.{code_line}
use Rattle.y4m_writer.proofs.Decimal.{decimal-length}

-- ---- runs, one after the other

-- a run, and another behind it
pub two_runs : (d s t : List ℕ) → sets (sets d 0 s) (length s) t ≡ sets d 0 (s ++ t)
two_runs d s t = sym (rw (zero-add (length s)) at (sets-append s t d 0))

-- the same, where the second one is put at the front of what is behind the first
pub behind : (d d₁ e s t : List ℕ) (at k : ℕ) → d₁ ≡ sets d 0 s → at ≡ length s → at + k ≡ length d → length t ≤ k → e ≡ sets (take k (drop at d₁)) 0 t
    → put_mid at k d₁ e ≡ sets d 0 (s ++ t)
behind d d₁ e s t at k is here whole room part =
    ap (put_mid at k d₁) part ∙ sets_part d₁ t at k (omega (arith, ap length is ∙ length-sets d 0 s)) room ∙ rw (is, here) (two_runs d s t)

-- what was put at the front, taken from there
pub front_is : (d l t : List ℕ) (e : ℕ) → l ≡ sets d 0 t → e ≡ length t → length t ≤ length d → take e l ≡ t
front_is d l t e is size h =
    rw (is, size) (ap (take (length t)) (sets-eq t d 0 (rw (zero-add (length t)) h)) ∙ take_at t _ (length t) refl)

-- the pieces of the header's line
abbrev pub first : ℕ → List ℕ
first w = (89 ∷ 85 ∷ 86 ∷ 52 ∷ 77 ∷ 80 ∷ 69 ∷ 71 ∷ 50 ∷ 32 ∷ 87 ∷ []) ++ decimal 5 w

abbrev pub second : ℕ → List ℕ
second h = (32 ∷ 72 ∷ []) ++ decimal 5 h

pub first_most : (w : ℕ) → length (first w) ≤ 16
first_most w = omega (arith, decimal-length 5 w)

pub second_most : (h : ℕ) → length (second h) ≤ 7
second_most h = omega (arith, decimal-length 5 h)

pub pieces : (s : YuvChromaSubsampling) (w h : ℕ) → (first w ++ second h) ++ code_line s ≡ line_of magic (written_tags s w h)
unfolding line_of text_of tag_bytes
pieces Yuv420 w h = simp append_assoc
pieces Yuv422 w h = simp append_assoc

code_length : (s : YuvChromaSubsampling) → length (code_line s) ≤ 19
code_length Yuv420 = omega arith
code_length Yuv422 = omega arith

pub line_most : (s : YuvChromaSubsampling) (w h : ℕ) → length (line_of magic (written_tags s w h)) ≤ 42
line_most s w h =
    rw (← pieces s w h)
    (omega (
      arith,
      length-append (first w ++ second h) (code_line s),
      length-append (first w) (second h),
      first_most w,
      second_most h,
      code_length s,
    ))
