-- Picture k of a file, where it stands: its line ends where its planes start, and the next picture follows them. Assumes nothing.
use Prim.Native.Nat.{ℕ, zero, suc, ◌+◌, ◌*◌, ◌<◌}
use mathlib.Core.Path.{◌≡◌, refl, ap, sym, ◌∙◌}
use mathlib.Core.List.{List, [], ◌∷◌, ◌++◌}
use native.Mathlib.Omega.{arith}
use lib.ListN.{length, get_or, take, drop, length-append, length-drop}
use lib.Seq.{drop-drop}
use Rattle.y4m_line.specs.Line.{line_of, magic, frame}
use Rattle.y4m_line.specs.Header.{line_end}
use Rattle.y4m_line.proofs.Text.{magic_tag, length_line, end_is, rest_is}
use Rattle.y4m_file.specs.File.{Y4mPicture, PictureAllowed, EachAllowed, IsFileOf, file_bytes, picture_bytes, pictures_bytes}
use Rattle.y4m_file.specs.Check.{picture_size}
use Rattle.y4m_file.specs.Read.{picture_at, file_in}
use Rattle.y4m_file.proofs.Pictures.{line_there, picture_is, size_there, next_there, length_picture}
use Rattle.y4m_reader.specs.Entry.{no_picture, picture_of, offset_of, plane_numbers, entry_of}
use Rattle.y4m_reader.specs.Known.{SizesAre, Stood}
use Rattle.y4m_reader.specs.declared.PlaneSizes.{PlaneSizes}

allowed_at : (luma chroma k : ℕ) (ps : List Y4mPicture) → EachAllowed luma chroma ps → k < length ps
    → PictureAllowed luma chroma (get_or ps k no_picture)
allowed_at luma chroma k [] e h = absurd (omega arith)
allowed_at luma chroma zero (p ∷ ps) e h = e.0
allowed_at luma chroma (suc k) (p ∷ ps) e h = allowed_at luma chroma k ps e.1 (omega arith)

-- the picture stands first among these
pub bytes_at : (k : ℕ) (ps : List Y4mPicture) → k < length ps
    → pictures_bytes (drop k ps) ≡ picture_bytes (get_or ps k no_picture) ++ pictures_bytes (drop (suc k) ps)
unfolding pictures_bytes
bytes_at k [] h = absurd (omega arith)
bytes_at zero (p ∷ ps) h = refl
bytes_at (suc k) (p ∷ ps) h = bytes_at k ps (omega arith)

length_more : (k : ℕ) (ps : List Y4mPicture) → k < length ps
    → length (pictures_bytes (take (suc k) ps)) ≡ length (pictures_bytes (take k ps)) + length (picture_bytes (get_or ps k no_picture))
unfolding pictures_bytes
length_more k [] h = absurd (omega arith)
length_more zero (p ∷ ps) h = omega (arith, length-append (picture_bytes p) [])
length_more (suc k) (p ∷ ps) h =
    omega (
      arith,
      length-append (picture_bytes p) (pictures_bytes (take (suc k) ps)),
      length-append (picture_bytes p) (pictures_bytes (take k ps)),
      length_more k ps (omega arith),
    )

-- the first picture stands past the header's line
pub first_Stood : (file : List ℕ) → IsFileOf file (file_in file) → Stood file 0 (0 + (line_end (drop 0 file) + 1))
unfolding file_bytes pictures_bytes
first_Stood file i =
    let f = file_in file in
    let ended = end_is magic f.tags magic_tag i.allowed.line (pictures_bytes f.pictures) file (sym i.same) in
    let start : 0 + (line_end file + 1) ≡ line_end file + 1 = omega arith in
    record {
      place = omega (arith, ended, length_line magic f.tags);
      rest = rw start (rest_is magic f.tags magic_tag i.allowed.line (pictures_bytes f.pictures) file (sym i.same));
      within =
          omega (
            arith,
            ended,
            length_line magic f.tags,
            ap length i.same,
            length-append (line_of magic f.tags) (pictures_bytes f.pictures),
          );
    }

module _ (file : List ℕ) (p : PlaneSizes) (f : IsFileOf file (file_in file)) (z : SizesAre file p) (k at : ℕ)
    (within_list : k < length (file_in file).pictures) (s : Stood file k at) where
  pub allowed : PictureAllowed p.luma p.chroma (picture_of (file_in file) k)
  allowed = rw (z.luma_is, z.chroma_is) (allowed_at _ _ k (file_in file).pictures f.allowed.pictures within_list)

  here : drop at file ≡ picture_bytes (picture_of (file_in file) k) ++ pictures_bytes (drop (suc k) (file_in file).pictures)
  here = s.rest ∙ bytes_at k (file_in file).pictures within_list

  line : line_end (drop at file) + 1 ≡ length (line_of frame (picture_of (file_in file) k).tags)
  line = line_there p.luma p.chroma (picture_of (file_in file) k) allowed _ (drop at file) here

  pub entry_is : (y : ℕ) → y ≡ at + (line_end (drop at file) + 1)
      → plane_numbers y p.luma p.chroma ≡ entry_of (offset_of (file_in file) k) (picture_of (file_in file) k)
  entry_is y e = rw (e, line, s.place, allowed.y_size, allowed.u_size, allowed.v_size)

  -- the planes, from the place past the line
  module _ (y : ℕ) (e : y ≡ at + (line_end (drop at file) + 1)) where
    read : picture_at p.luma p.chroma (drop at file) ≡ picture_of (file_in file) k
    read = picture_is p.luma p.chroma (picture_of (file_in file) k) allowed _ (drop at file) here

    from_y : drop y file ≡ drop (line_end (drop at file) + 1) (drop at file)
    from_y = rw e (sym (drop-drop (line_end (drop at file) + 1) at file))

    pub y_there : take p.luma (drop y file) ≡ (picture_of (file_in file) k).y
    unfolding picture_at
    y_there = rw from_y (ap (λ (q : Y4mPicture). q.y) read)

    pub u_there : take p.chroma (drop (y + p.luma) file) ≡ (picture_of (file_in file) k).u
    unfolding picture_at
    u_there = rw (← drop-drop p.luma y file, from_y) (ap (λ (q : Y4mPicture). q.u) read)

    pub v_there : take p.chroma (drop (y + p.luma + p.chroma) file) ≡ (picture_of (file_in file) k).v
    unfolding picture_at
    v_there =
        let sum : y + p.luma + p.chroma ≡ y + (p.luma + p.chroma) = omega arith in
        rw (sum, ← drop-drop (p.luma + p.chroma) y file, from_y) (ap (λ (q : Y4mPicture). q.v) read)

  pub next_Stood : (y : ℕ) → y ≡ at + (line_end (drop at file) + 1) → Stood file (k + 1) (y + p.luma + 2 * p.chroma)
  next_Stood y e =
      let q = picture_of (file_in file) k in
      let t = pictures_bytes (drop (suc k) (file_in file).pictures) in
      let one : k + 1 ≡ suc k = omega arith in
      let size = size_there p.luma p.chroma q allowed t (drop at file) here in
      let past : y + p.luma + 2 * p.chroma ≡ at + picture_size (p.luma + 2 * p.chroma) (drop at file) = omega (arith, size) in
      let whole = length_picture p.luma p.chroma q allowed in
      record {
        place = rw one (omega (arith, line, whole, s.place, length_more k (file_in file).pictures within_list));
        rest = rw (past, one) (sym (drop-drop _ at file) ∙ next_there p.luma p.chroma q allowed t (drop at file) here);
        within = omega (arith, line, whole, s.within, length-drop at file, ap length here, length-append (picture_bytes q) t);
      }
