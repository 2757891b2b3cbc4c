-- What is written is a file, and is read back. Assumes nothing.
use Prim.Native.Nat.{ℕ, ◌+◌, ◌*◌, ◌/◌, ◌%◌, ◌≤◌, ◌<◌}
use mathlib.Core.Path.{◌≡◌, refl, ap}
use mathlib.Core.Bool.{true}
use mathlib.Core.List.{List, [], ◌∷◌, ◌++◌}
use native.Mathlib.Omega.{arith}
use lib.Dec.{ltb}
use lib.ListN.{length, length-append}
use borrow.Author.Tests.{ltb-true, eqb-true}
use Rattle.std.proofs.lemmas.Bool.{and_parts}
use Rattle.yuv_support.specs.declared.YuvChromaSubsampling.{YuvChromaSubsampling}
use Rattle.yuv_support.specs.declared.YuvChromaSubsampling.TheVariants.{Yuv420, Yuv422}
use Rattle.shift_file.specs.File.{is_side}
use Rattle.shift_file.proofs.Record.{side_bounds}
use Rattle.y4m_line.specs.Line.{IsTag, IsLineOf, line_of, magic, tagged, SaysSide}
use Rattle.y4m_line.proofs.Text.{clear, clear-Without}
use Rattle.y4m_file.specs.File.{SaysSampling, file_bytes, luma_bytes, chroma_bytes}
use Rattle.y4m_file.specs.Check.{plane_bytes}
use Rattle.y4m_file.proofs.File.{its_file}
use Rattle.y4m_writer.specs.Text.{decimal, code_text, written_tags}
use Rattle.y4m_writer.specs.Pictures.{sampling_of, is_shape, can_write, file_from, file_made}
use Rattle.y4m_writer.specs.Known.{frames_of, Exact}
use Rattle.y4m_writer.specs.Means.{WrittenIsFile, WrittenReadBack}
use Rattle.y4m_writer.proofs.Decimal.{decimal_5}
use Rattle.y4m_writer.proofs.Puts.{line_most}
use Rattle.y4m_writer.proofs.Frames.{Exact-whole, length_frames, frames_are, each_allowed, planes_are}

-- ---- the tags

side_tag : (letter v : ℕ) → 48 ≤ letter → v ≤ 16384 → IsTag (letter ∷ decimal 5 v)
side_tag letter v h k =
    let d = decimal_5 v (omega arith) in
    record {
      some = omega arith;
      no_space = ((λ e. omega arith), d.bytes 32 (omega arith));
      no_newline = ((λ e. omega arith), d.bytes 10 (omega arith));
    }

clear_tag : (t : List ℕ) → 0 < length t → clear 32 t ≡ true → clear 10 t ≡ true → IsTag t
clear_tag t h s n = record { some = h; no_space = clear-Without 32 t s; no_newline = clear-Without 10 t n }

code_tag : (s : YuvChromaSubsampling) → IsTag (67 ∷ code_text s)
code_tag Yuv420 = clear_tag (67 ∷ code_text Yuv420) (omega arith) refl refl
code_tag Yuv422 = clear_tag (67 ∷ code_text Yuv422) (omega arith) refl refl

says : (letter v : ℕ) (tags : List (List ℕ)) → tagged letter tags ≡ decimal 5 v ∷ [] → 1 ≤ v → v ≤ 16384 → SaysSide letter tags v
says letter v tags one h k =
    let d = decimal_5 v (omega arith) in
    record { text = decimal 5 v; one = one; decimal = record { all = d.all; worth = d.worth; lead = d.lead h }; least = h; most = k }

module _ (s : YuvChromaSubsampling) (w h : ℕ) (hw : (1 ≤ w) × (w ≤ 16384)) (hh : (1 ≤ h) × (h ≤ 16384)) where
  line : IsLineOf magic (written_tags s w h)
  line = record {
    each = (
      side_tag 87 w (omega arith) hw.1,
      (
        side_tag 72 h (omega arith) hh.1,
        (
          clear_tag (70 ∷ 50 ∷ 53 ∷ 58 ∷ 49 ∷ []) (omega arith) refl refl,
          (
            clear_tag (73 ∷ 112 ∷ []) (omega arith) refl refl,
            (code_tag s, tt),
          ),
        ),
      ),
    );
    short = omega (arith, line_most s w h);
  }

  wide : SaysSide 87 (written_tags s w h) w
  unfolding tagged
  wide = says 87 w (written_tags s w h) refl hw.0 hw.1

  high : SaysSide 72 (written_tags s w h) h
  unfolding tagged
  high = says 72 h (written_tags s w h) refl hh.0 hh.1

sampled : (s : YuvChromaSubsampling) (w h : ℕ) → SaysSampling (written_tags s w h) s
unfolding tagged
sampled Yuv420 w h = record { which = 2; known = omega arith; said = refl }
sampled Yuv422 w h = record { which = 0; known = omega arith; said = refl }

-- ---- what is let through

pub record Shape (code w h : ℕ) : Type 0 where
  pub code_is : code < 2
  pub wide : (1 ≤ w) × (w ≤ 16384)
  pub high : (1 ≤ h) × (h ≤ 16384)

pub shape : (code w h : ℕ) → is_shape code w h ≡ true → Shape code w h
unfolding is_shape
shape code w h e =
    let p = and_parts (ltb code 2) _ e in
    let q = and_parts (is_side w) _ p.1 in
    record { code_is = ltb-true code 2 p.0; wide = side_bounds w q.0; high = side_bounds h q.1 }

pub record Written (code w h : ℕ) (b : List ℕ) : Type 0 where
  pub code_is : code < 2
  pub wide : (1 ≤ w) × (w ≤ 16384)
  pub high : (1 ≤ h) × (h ≤ 16384)
  pub exact : Exact (plane_bytes (sampling_of code) w h) (length b / plane_bytes (sampling_of code) w h) b

pub written : (code w h : ℕ) (b : List ℕ) → can_write code w h (length b) ≡ true → Written code w h b
unfolding can_write
written code w h b e =
    let p = and_parts (is_shape code w h) _ e in
    let s = shape code w h p.0 in
    let n = plane_bytes (sampling_of code) w h in
    record { code_is = s.code_is; wide = s.wide; high = s.high; exact = Exact-whole n b (eqb-true (length b % n) 0 p.1) }

pub is_written : WrittenIsFile
unfolding file_made file_from plane_bytes
is_written code w h b e =
    let k = written code w h b e in
    let s = sampling_of code in
    record {
      allowed = record {
        line = line s w h k.wide k.high;
        width = wide s w h k.wide k.high;
        height = high s w h k.wide k.high;
        sampling = sampled s w h;
        pictures = each_allowed (luma_bytes w h) (chroma_bytes s w h) _ b k.exact;
      };
      same = refl;
    }

pub read_back : WrittenReadBack
unfolding file_from plane_bytes
read_back code w h b e =
    let i = is_written code w h b e in
    let same = its_file (file_made code w h b) (file_from code w h b) i in
    (same, rw same (planes_are (luma_bytes w h) (chroma_bytes (sampling_of code) w h) _ b (written code w h b e).exact))

-- ---- the file's bytes, as they are put

module _ (code w h : ℕ) (b : List ℕ) where
  pub made : file_made code w h b
      ≡ line_of magic (written_tags (sampling_of code) w h)
      ++ frames_of (plane_bytes (sampling_of code) w h) (length b / plane_bytes (sampling_of code) w h) b
  unfolding file_made file_from file_bytes plane_bytes
  made = rw (frames_are (luma_bytes w h) (chroma_bytes (sampling_of code) w h) _ b)

  pub length_made : Written code w h b → length (file_made code w h b)
      ≡ length (line_of magic (written_tags (sampling_of code) w h)) + 6 * (length b / plane_bytes (sampling_of code) w h) + length b
  length_made k =
      let n = plane_bytes (sampling_of code) w h in
      let line = line_of magic (written_tags (sampling_of code) w h) in
      omega (arith, ap length made, length-append line (frames_of n (length b / n) b), length_frames n (length b / n) b k.exact)
