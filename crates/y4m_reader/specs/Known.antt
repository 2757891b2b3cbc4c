-- What is known of a file that the check let through, and of a place in it. This serves the contracts between functions: no meaning stands here.
-- Assumes nothing.
use Rattle.std.specs.Prelude.{ℕ, ◌≤◌, ◌<◌, ◌^◌, ◌≡◌, List, length, drop}
use Rattle.y4m_file.specs.File.{IsFileOf, pictures_bytes, luma_bytes, chroma_bytes}
use Rattle.y4m_file.specs.Read.{file_in}
use Rattle.y4m_reader.specs.declared.PlaneSizes.{PlaneSizes}
use Rattle.y4m_reader.specs.Entry.{offset_of}

-- a file of more than k pictures
pub record HasPicture (file : List ℕ) (k : ℕ) : Type 0 where
  pub is_file_lem : IsFileOf file (file_in file)
  pub below : k < length (file_in file).pictures

-- the bytes of its planes
pub record SizesAre (file : List ℕ) (p : PlaneSizes) : Type 0 where
  pub luma_is : p.luma ≡ luma_bytes (file_in file).width (file_in file).height
  pub chroma_is : p.chroma ≡ chroma_bytes (file_in file).sampling (file_in file).width (file_in file).height
  pub luma_most_lem : p.luma ≤ 2 ^ 33
  pub chroma_most : p.chroma ≤ 2 ^ 33

-- picture k and those after it stand from `at` on
pub record Stood (file : List ℕ) (k at : ℕ) : Type 0 where
  pub place : at ≡ offset_of (file_in file) k
  pub rest : drop at file ≡ pictures_bytes (drop k (file_in file).pictures)
  pub within : at ≤ length file
