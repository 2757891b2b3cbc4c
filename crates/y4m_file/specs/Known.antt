-- What the functions of the check answer. This serves the contracts between functions: no meaning stands here.
-- Assumes nothing.
use Rattle.std.specs.Prelude.{ℕ, ◌≡◌, true, false, List, Option, Some, None}
use Rattle.y4m_line.specs.declared.HeaderLine.{HeaderLine}
use Rattle.y4m_file.specs.Check.{pictures, count_of, width_in, height_in, sampling_in, pictures_in, is_y4m}

-- so many pictures, by the bytes of their planes, or none that are all of these bytes
abbrev pub CountPost : (planes : ℕ) → (bytes : List ℕ) → Option ℕ → Type 0
CountPost planes bytes (Some count) = (pictures planes count bytes ≡ true) × (count ≡ count_of planes bytes)
CountPost planes bytes None = pictures planes (count_of planes bytes) bytes ≡ false

-- what a file's header says, and the count of its pictures
pub record IsRead (file : List ℕ) (header : HeaderLine) (k : ℕ) : Type 0 where
  pub is_file_lem : is_y4m file ≡ true
  pub width : header.width ≡ width_in file
  pub height : header.height ≡ height_in file
  pub sampling : header.sampling ≡ sampling_in file
  pub count : k ≡ pictures_in file
