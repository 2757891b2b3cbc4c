-- What written pictures mean: docs/RULES.md, 14.7.
-- Assumes nothing.
use Rattle.std.specs.Prelude.{ℕ, ◌≡◌, true, List, [], ◌∷◌, ◌++◌, length}
use Rattle.y4m_file.specs.File.{picture_bytes}
use Rattle.y4m_writer.specs.Pictures.{is_shape, can_write, file_made}
use Rattle.y4m_picture.specs.declared.PictureFrame.{PictureFrame}
use Rattle.y4m_picture.specs.Picture.{picture_made, picture_allowed}

-- RULES 14.7: the planes of a picture, one after the other
abbrev pub planes_made : PictureFrame → (y u v : List ℕ) → List ℕ
planes_made f y u v = let p = picture_made f y u v in p.y ++ (p.u ++ p.v)

-- RULES 14.7: of every allowed shape there is a file of no picture
abbrev pub Begun : Type 0
Begun = (code w h : ℕ) → is_shape code w h ≡ true → can_write code w h 0 ≡ true

-- RULES 14.7: a file with a picture after it is the file of its planes with that picture's after them
abbrev pub Appended : Type 0
Appended = (f : PictureFrame) (y u v : List ℕ) → picture_allowed f (length y) (length u) (length v) ≡ true
    → (planes : List ℕ) → can_write f.sampling f.width f.height (length planes) ≡ true
    → let more = planes ++ planes_made f y u v in (can_write f.sampling f.width f.height (length more) ≡ true)
    × (file_made f.sampling f.width f.height planes ++ picture_bytes (picture_made f y u v)
    ≡ file_made f.sampling f.width f.height more)

-- ---- a file made picture by picture

-- RULES 14.7: the planes of one call, and what it is told of them
pub record PictureLent : Type 0 where
  pub frame : PictureFrame
  pub y : List ℕ
  pub u : List ℕ
  pub v : List ℕ

-- RULES 14.7: a call that finishes with enough room, its picture of this shape
pub record IsOf (code w h : ℕ) (p : PictureLent) : Type 0 where
  pub sampling : p.frame.sampling ≡ code
  pub width : p.frame.width ≡ w
  pub height : p.frame.height ≡ h
  pub allowed : picture_allowed p.frame (length p.y) (length p.u) (length p.v) ≡ true

-- RULES 14.7
abbrev pub EachOf : (code w h : ℕ) → List PictureLent → Type 0
EachOf code w h [] = Unit {0}
EachOf code w h (p ∷ ps) = IsOf code w h p × EachOf code w h ps

-- RULES 14.7: what the calls write, one after the other
unfoldable pub calls_bytes : List PictureLent → List ℕ
calls_bytes [] = []
calls_bytes (p ∷ ps) = picture_bytes (picture_made p.frame p.y p.u p.v) ++ calls_bytes ps

-- RULES 14.7: their planes, one after the other
unfoldable pub calls_planes : List PictureLent → List ℕ
calls_planes [] = []
calls_planes (p ∷ ps) = planes_made p.frame p.y p.u p.v ++ calls_planes ps

-- RULES 14.7: after the file of no picture, the calls' bytes make the file of their planes
abbrev pub PictureByPicture : Type 0
PictureByPicture = (code w h : ℕ) (ps : List PictureLent) → is_shape code w h ≡ true → EachOf code w h ps
    → file_made code w h [] ++ calls_bytes ps ≡ file_made code w h (calls_planes ps)
