-- Where the pictures of a file and their planes stand: docs/RULES.md, 14.5.
-- Assumes nothing.
use Rattle.std.specs.Prelude.{ℕ, zero, suc, ◌+◌, List, [], ◌∷◌, ◌++◌, length, get_or, take}
use Rattle.y4m_line.specs.Line.{line_of, magic, frame}
use Rattle.y4m_file.specs.File.{Y4mPicture, Y4mFile, pictures_bytes}

-- RULES 14.5: what stands past the end of a list, where no call looks
abbrev pub no_picture : Y4mPicture
no_picture = record { tags = []; y = []; u = []; v = [] }

-- RULES 14.5: picture k of a file
abbrev pub picture_of : Y4mFile → (k : ℕ) → Y4mPicture
picture_of f k = get_or f.pictures k no_picture

-- RULES 14.5: where picture k stands
abbrev pub offset_of : Y4mFile → (k : ℕ) → ℕ
offset_of f k = length (line_of magic f.tags) + length (pictures_bytes (take k f.pictures))

-- RULES 14.5: offset and length of planes that stand back to back from y on
abbrev pub plane_numbers : (y luma chroma : ℕ) → List ℕ
plane_numbers y luma chroma = y ∷ luma ∷ (y + luma) ∷ chroma ∷ (y + luma + chroma) ∷ chroma ∷ []

-- RULES 14.5: offset and length of Y, U and V of a picture that stands at `at`
abbrev pub entry_of : (at : ℕ) → Y4mPicture → List ℕ
entry_of at p =
    let y = at + length (line_of frame p.tags) in
    let u = y + length p.y in
    y ∷ length p.y ∷ u ∷ length p.u ∷ (u + length p.u) ∷ length p.v ∷ []

-- RULES 14.5: the entries of n pictures, from picture k on
unfoldable pub entries_of : Y4mFile → (k n : ℕ) → List ℕ
entries_of f k zero = []
entries_of f k (suc n) = entry_of (offset_of f k) (picture_of f k) ++ entries_of f (k + 1) n
