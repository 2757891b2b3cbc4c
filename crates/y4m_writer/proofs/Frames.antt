-- Planes that are whole pictures, and the pictures put. Assumes nothing.
use Prim.Native.Nat.{ℕ, zero, suc, ◌+◌, ◌*◌, ◌/◌, ◌%◌, ◌≤◌, ◌<◌}
use mathlib.Core.Path.{◌≡◌, refl, sym, ap, ◌∙◌}
use mathlib.Core.List.{List, [], ◌++◌, append_assoc}
use native.Mathlib.Nat.{mul-zero, mul-suc, add-zero, div-add-mod, add-div_left, div-eq_of_lt}
use native.Mathlib.Omega.{arith}
use lib.ListN.{length, take, drop, length-append, length-drop, take-append-drop}
use lib.Seq.{sets, length-take-le, take_at, drop_at}
use Rattle.std.proofs.lemmas.List.{nil_from_length}
use Rattle.little_endian.proofs.Stores.{sets-append}
use Rattle.y4m_line.specs.Line.{line_of, text_of, tag_bytes, frame, IsLineOf}
use Rattle.y4m_file.specs.File.{EachAllowed, picture_bytes, pictures_bytes}
use Rattle.y4m_file.proofs.Pictures.{cut}
use Rattle.y4m_writer.specs.Pictures.{picture_from, pictures_of, planes_of}
use Rattle.y4m_writer.specs.Known.{frames_of, Exact}

-- ---- whole pictures

exact_step : (n m : ℕ) (b : List ℕ) → length b ≡ n + m → (n ≤ length b) × (length (drop n b) ≡ m)
exact_step n m b e = (omega arith, omega (arith, length-drop n b))

pub Exact-of : (n k : ℕ) (b : List ℕ) → length b ≡ n * k → Exact n k b
Exact-of n zero b e = e ∙ mul-zero n
Exact-of n (suc k) b e =
    let p : (n ≤ length b) × (length (drop n b) ≡ n * k) = exact_step n (n * k) b (omega (arith, e, mul-suc n k)) in
    (p.0, Exact-of n k (drop n b) p.1)

pub Exact-whole : (n : ℕ) (b : List ℕ) → length b % n ≡ 0 → Exact n (length b / n) b
Exact-whole n b z = Exact-of n (length b / n) b (sym (div-add-mod (length b) n) ∙ rw (z, add-zero))

pub length_frames : (n k : ℕ) (b : List ℕ) → Exact n k b → length (frames_of n k b) ≡ 6 * k + length b
unfolding frames_of line_of text_of tag_bytes
length_frames n zero b e = omega (arith, e)
length_frames n (suc k) b e =
    omega (
      arith,
      length-append (take n b) (frames_of n k (drop n b)),
      length-take-le n b e.0,
      length-drop n b,
      length_frames n k (drop n b) e.1,
      e.0,
    )

-- ---- put one after the other

-- what is left of the pictures, by the bytes that are left
abbrev pub frames_left : (n : ℕ) → (rest : List ℕ) → List ℕ
frames_left n rest = frames_of n (length rest / n) rest

-- a picture's planes, and the bytes after them
module _ (n : ℕ) (some : 0 < n) (x after rest : List ℕ) (is : rest ≡ x ++ after) (long : length x ≡ n) where
  frames_next : frames_left n rest ≡ line_of frame [] ++ (x ++ frames_left n after)
  unfolding frames_of
  frames_next =
      let size : length (x ++ after) ≡ n + length after = omega (arith, length-append x after, long) in
      let more : length (x ++ after) / n ≡ suc (length after / n) = ap (λ (m : ℕ). m / n) size ∙ add-div_left (length after) some ∙ omega arith in
      let one : line_of frame [] ++ (take n (x ++ after) ++ frames_of n (length after / n) (drop n (x ++ after))) ≡ line_of frame [] ++ (x ++ frames_left n after)
      = rw (take_at x after n long, drop_at x after n long) in
      ap (frames_left n) is ∙ ap (λ (k : ℕ). frames_of n k (x ++ after)) more ∙ one

  pub length_next : length (frames_left n rest) ≡ 6 + n + length (frames_left n after)
  unfolding line_of text_of tag_bytes
  length_next = ap length frames_next ∙ omega (arith, length-append x (frames_left n after), long)

  pub put_next : (d : List ℕ) (at : ℕ)
      → sets (sets (sets d at (line_of frame [])) (at + 6) x) (at + (6 + n)) (frames_left n after) ≡ sets d at (frames_left n rest)
  unfolding line_of text_of tag_bytes
  put_next d at =
      let line = line_of frame [] in
      let left = frames_left n after in
      let past : at + 6 + length x ≡ at + (6 + n) = omega (arith, long) in
      sym (ap (sets d at) frames_next ∙ sets-append line (x ++ left) d at ∙ sets-append x left (sets d at line) (at + 6) ∙ rw past)

-- bytes that are no whole picture leave none
pub frames_done : (n at : ℕ) (rest d : List ℕ) → length rest < n → sets d at (frames_left n rest) ≡ d
unfolding frames_of
frames_done n at rest d few = let none : length rest / n ≡ 0 = div-eq_of_lt few in rw none

-- ---- the same pictures

module _ (luma chroma : ℕ) where
  pub frames_are : (k : ℕ) (b : List ℕ) → pictures_bytes (pictures_of luma chroma k b) ≡ frames_of (luma + 2 * chroma) k b
  unfolding pictures_bytes picture_bytes pictures_of picture_from frames_of
  frames_are zero b = refl
  frames_are (suc k) b =
      append_assoc (line_of frame []) _ _ ∙ rw (cut luma chroma b, frames_are k (drop (luma + 2 * chroma) b))

  line_allowed : IsLineOf frame []
  unfolding line_of text_of tag_bytes
  line_allowed = record { each = tt; short = omega arith }

  pub each_allowed : (k : ℕ) (b : List ℕ) → Exact (luma + 2 * chroma) k b → EachAllowed luma chroma (pictures_of luma chroma k b)
  unfolding pictures_of picture_from
  each_allowed zero b e = tt
  each_allowed (suc k) b e = (
    record {
      line = line_allowed;
      y_size = length-take-le luma b (omega (arith, e.0));
      u_size = length-take-le chroma (drop luma b) (rw length-drop (omega (arith, e.0)));
      v_size = length-take-le chroma (drop (luma + chroma) b) (rw length-drop (omega (arith, e.0)));
    },
    each_allowed k (drop (luma + 2 * chroma) b) e.1,
  )

  pub planes_are : (k : ℕ) (b : List ℕ) → Exact (luma + 2 * chroma) k b → planes_of (pictures_of luma chroma k b) ≡ b
  unfolding planes_of pictures_of picture_from
  planes_are zero b e = sym (nil_from_length b e)
  planes_are (suc k) b e =
      rw (cut luma chroma b, planes_are k (drop (luma + 2 * chroma) b) e.1) (take-append-drop (luma + 2 * chroma) b)
