-- Where the planes of a picture of a Y4M file stand: past the header's line, the pictures before it, and its own line. Assumes nothing.
use Prim.Native.Nat.{ℕ, zero, suc, ◌+◌, ◌*◌, ◌<◌}
use mathlib.Core.Path.{◌≡◌, refl, sym, ap, ◌∙◌}
use mathlib.Core.List.{List, [], ◌∷◌, ◌++◌, append_assoc}
use native.Mathlib.Nat.{add-zero}
use native.Mathlib.Omega.{arith}
use lib.ListN.{length, take, drop}
use lib.Seq.{take_at, drop_at, drop-drop, drop-append-add}
use Rattle.y4m_line.specs.Line.{line_of, magic, frame}
use Rattle.y4m_file.specs.File.{Y4mPicture, Y4mFile, picture_bytes, pictures_bytes, file_bytes}
use Rattle.y4m_reader.specs.Entry.{picture_of, offset_of, entry_of, entries_of}
use Rattle.y4m_reader.proofs.Places.{bytes_at}
use Rattle.demands.specs.Demands.{NamesPlanes}

-- the pictures before one, and those from it on
parted : (k : ℕ) (ps : List Y4mPicture) → pictures_bytes ps ≡ pictures_bytes (take k ps) ++ pictures_bytes (drop k ps)
unfolding pictures_bytes
parted zero ps = refl
parted (suc k) [] = refl
parted (suc k) (p ∷ ps) = rw (parted k ps) (sym (append_assoc (picture_bytes p) (pictures_bytes (take k ps)) (pictures_bytes (drop k ps))))

module _ (f : Y4mFile) (k : ℕ) (h : k < length f.pictures) where
  abbrev p : Y4mPicture
  p = picture_of f k

  abbrev line : List ℕ
  line = line_of frame p.tags

  abbrev more : List ℕ
  more = pictures_bytes (drop (suc k) f.pictures)

  from_picture : drop (offset_of f k) (file_bytes f) ≡ picture_bytes p ++ more
  unfolding file_bytes
  from_picture =
      let before = pictures_bytes (take k f.pictures) in
      drop-append-add (line_of magic f.tags) (pictures_bytes f.pictures) (length before)
      ∙ ap (drop (length before)) (parted k f.pictures)
      ∙ drop_at before (pictures_bytes (drop k f.pictures)) _ refl
      ∙ bytes_at k f.pictures h

  from_y : drop (offset_of f k + length line) (file_bytes f) ≡ p.y ++ (p.u ++ (p.v ++ more))
  unfolding picture_bytes
  from_y =
      sym (drop-drop (length line) (offset_of f k) (file_bytes f))
      ∙ ap (drop (length line)) (from_picture ∙ append_assoc line (p.y ++ (p.u ++ p.v)) more)
      ∙ drop_at line ((p.y ++ (p.u ++ p.v)) ++ more) _ refl
      ∙ append_assoc p.y (p.u ++ p.v) more
      ∙ ap (λ (l : List ℕ). p.y ++ l) (append_assoc p.u p.v more)

  from_u : drop (offset_of f k + length line + length p.y) (file_bytes f) ≡ p.u ++ (p.v ++ more)
  from_u =
      sym (drop-drop (length p.y) (offset_of f k + length line) (file_bytes f))
      ∙ ap (drop (length p.y)) from_y
      ∙ drop_at p.y (p.u ++ (p.v ++ more)) _ refl

  from_v : drop (offset_of f k + length line + length p.y + length p.u) (file_bytes f) ≡ p.v ++ more
  from_v =
      sym (drop-drop (length p.u) (offset_of f k + length line + length p.y) (file_bytes f))
      ∙ ap (drop (length p.u)) from_u
      ∙ drop_at p.u (p.v ++ more) _ refl

  -- an entry names the planes of its picture
  pub names : (rest : List ℕ) → NamesPlanes (file_bytes f) (entry_of (offset_of f k) p ++ rest) f k
  names rest = record {
    place = refl;
    y = ap (take (length p.y)) from_y ∙ take_at p.y _ _ refl;
    u = ap (take (length p.u)) from_u ∙ take_at p.u _ _ refl;
    v = ap (take (length p.v)) from_v ∙ take_at p.v _ _ refl;
  }

-- entry i of those from picture k on, and what stands behind it
pub entry_at : (f : Y4mFile) (n k i : ℕ) (rest : List ℕ) → i < n
    → (more : List ℕ) × (drop (6 * i) (entries_of f k n ++ rest) ≡ entry_of (offset_of f (k + i)) (picture_of f (k + i)) ++ more)
unfolding entries_of
entry_at f zero k i rest h = absurd (omega arith)
entry_at f (suc n) k zero rest h = (entries_of f (k + 1) n ++ rest, rw add-zero)
entry_at f (suc n) k (suc i) rest h =
    let later = entry_at f n (k + 1) i rest (omega arith) in
    let past : 6 * suc i ≡ 6 + 6 * i = omega arith in
    let place : k + 1 + i ≡ k + suc i = omega arith in (
      later.0,
      rw past (drop-append-add (entry_of (offset_of f k) (picture_of f k)) (entries_of f (k + 1) n ++ rest) (6 * i) ∙ rw place at later.1),
    )
