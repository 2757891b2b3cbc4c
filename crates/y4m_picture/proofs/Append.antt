-- A file grows by pictures: one picture's bytes after the file of some planes are the file of those planes and that picture's. Assumes nothing.
use Prim.Native.Nat.{ℕ, zero, suc, ◌+◌, ◌/◌, ◌<◌}
use mathlib.Core.Path.{◌≡◌, ap, sym, ◌∙◌}
use mathlib.Core.Bool.{true}
use mathlib.Core.List.{List, [], ◌∷◌, ◌++◌, append_assoc, append-nil}
use native.Mathlib.Omega.{arith}
use native.Mathlib.Nat.{add-div_right, add-mod_right, zero-mod}
use lib.ListN.{length, take, drop, length-append}
use lib.Seq.{take_all, take-append-le, drop-append-le}
use Rattle.y4m_line.specs.Line.{line_of, frame, magic}
use Rattle.y4m_file.specs.File.{picture_bytes}
use Rattle.y4m_file.specs.Check.{plane_bytes}
use Rattle.y4m_writer.specs.Text.{written_tags}
use Rattle.y4m_writer.specs.Pictures.{sampling_of, can_write, file_made}
use Rattle.y4m_writer.specs.Known.{frames_of, Exact}
use Rattle.y4m_writer.proofs.Back.{written, made}
use Rattle.y4m_writer.proofs.Sizes.{plane_least}
use Rattle.y4m_picture.specs.Picture.{picture_made}
use Rattle.y4m_picture.specs.Means.{planes_made, Begun, Appended, PictureLent, IsOf, EachOf, calls_bytes, calls_planes, PictureByPicture}
use Rattle.y4m_picture.proofs.Made.{planes_Fit, length_planes}

pub begun : Begun
unfolding can_write
begun code w h e = rw (e, zero-mod (plane_bytes (sampling_of code) w h))

-- ---- one more picture

-- whole pictures, and one more
whole_more : (code w h size : ℕ) → can_write code w h size ≡ true → can_write code w h (size + plane_bytes (sampling_of code) w h) ≡ true
unfolding can_write
whole_more code w h size e = rw (add-mod_right size (plane_bytes (sampling_of code) w h)) e

module _ (n : ℕ) (p : List ℕ) (size : length p ≡ n) where
  -- where none stands before it
  frames_one : frames_of n 1 p ≡ line_of frame [] ++ p
  unfolding frames_of
  frames_one = rw (take_all n p (omega arith), append-nil p)

  frames_append : (k : ℕ) (b : List ℕ) → Exact n k b → frames_of n (suc k) (b ++ p) ≡ frames_of n k b ++ (line_of frame [] ++ p)
  unfolding frames_of
  frames_append zero [] e = frames_one
  frames_append zero (x ∷ b) e = absurd (omega arith)
  frames_append (suc k) b e =
      let this = take n b in
      let rest = frames_of n k (drop n b) in
      let last = line_of frame [] ++ p in
      let same : frames_of n (suc (suc k)) (b ++ p) ≡ line_of frame [] ++ (this ++ (rest ++ last))
      = rw (take-append-le n b p e.0, drop-append-le n b p e.0, frames_append k (drop n b) e.1) in
      same ∙ sym (append_assoc (line_of frame []) (this ++ rest) last ∙ ap (λ t. line_of frame [] ++ t) (append_assoc this rest last))

module _ (code w h : ℕ) (b p : List ℕ) (size : length p ≡ plane_bytes (sampling_of code) w h) (c : can_write code w h (length b) ≡ true) where
  abbrev n : ℕ
  n = plane_bytes (sampling_of code) w h

  some : 0 < n
  some = let k = written code w h b c in omega (arith, plane_least (sampling_of code) w h k.wide.0 k.high.0)

  count_more : length (b ++ p) / n ≡ suc (length b / n)
  count_more = rw (length-append b p, size) (add-div_right (length b) some ∙ omega arith)

  can_more : can_write code w h (length (b ++ p)) ≡ true
  can_more = rw (length-append b p, size) (whole_more code w h (length b) c)

  file_more : file_made code w h b ++ (line_of frame [] ++ p) ≡ file_made code w h (b ++ p)
  file_more =
      let line = line_of magic (written_tags (sampling_of code) w h) in
      let more : frames_of n (length (b ++ p) / n) (b ++ p) ≡ frames_of n (length b / n) b ++ (line_of frame [] ++ p)
      = rw count_more (frames_append n p size (length b / n) b (written code w h b c).exact) in
      ap (λ t. t ++ (line_of frame [] ++ p)) (made code w h b)
      ∙ append_assoc line (frames_of n (length b / n) b) (line_of frame [] ++ p)
      ∙ ap (λ t. line ++ t) (sym more)
      ∙ sym (made code w h (b ++ p))

pub appended : Appended
unfolding picture_bytes
appended f y u v e b c =
    let size = length_planes f y u v (planes_Fit f (length y) (length u) (length v) e) in
    let p = planes_made f y u v in
    (can_more f.sampling f.width f.height b p size c, file_more f.sampling f.width f.height b p size c)

-- ---- picture by picture

-- planes and bytes that are appended, and the file that they make
abbrev Grown : (code w h : ℕ) → (planes bytes before : List ℕ) → Type 0
Grown code w h planes bytes before =
    (can_write code w h (length (before ++ planes)) ≡ true) × (file_made code w h before ++ bytes ≡ file_made code w h (before ++ planes))

Grown-of : (code w h code' w' h' : ℕ) (planes bytes b : List ℕ) → code' ≡ code → w' ≡ w → h' ≡ h
    → Grown code' w' h' planes bytes b → Grown code w h planes bytes b
Grown-of code w h code' w' h' planes bytes b ec ew eh k = rw (ec, ew, eh) at k

module _ (code w h : ℕ) where
  -- one picture, of this shape
  appended_of : (p : PictureLent) → IsOf code w h p → (b : List ℕ) → can_write code w h (length b) ≡ true
      → Grown code w h (planes_made p.frame p.y p.u p.v) (picture_bytes (picture_made p.frame p.y p.u p.v)) b
  appended_of p i b c =
      let old : can_write p.frame.sampling p.frame.width p.frame.height (length b) ≡ true
      = rw (i.sampling, i.width, i.height) c in
      Grown-of code w h p.frame.sampling p.frame.width p.frame.height _ _ b i.sampling i.width i.height
      (appended p.frame p.y p.u p.v i.allowed b old)

  after : (ps : List PictureLent) → EachOf code w h ps → (b : List ℕ) → can_write code w h (length b) ≡ true
      → file_made code w h b ++ calls_bytes ps ≡ file_made code w h (b ++ calls_planes ps)
  unfolding calls_bytes calls_planes
  after [] e b c = rw (append-nil (file_made code w h b), append-nil b)
  after (p ∷ ps) e b c =
      let one = appended_of p e.0 b c in
      let planes = planes_made p.frame p.y p.u p.v in
      sym (append_assoc (file_made code w h b) (picture_bytes (picture_made p.frame p.y p.u p.v)) (calls_bytes ps))
      ∙ ap (λ t. t ++ calls_bytes ps) one.1
      ∙ after ps e.1 (b ++ planes) one.0
      ∙ ap (file_made code w h) (append_assoc b planes (calls_planes ps))

pub picture_by_picture : PictureByPicture
picture_by_picture code w h ps e each = after code w h ps each [] (begun code w h e)
