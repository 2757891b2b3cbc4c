-- What the check tells of a file, by the file that is read. Assumes nothing.
use Prim.Native.Nat.{ℕ}
use mathlib.Core.Path.{◌≡◌, sym, ◌∙◌}
use mathlib.Core.List.{List}
use lib.ListN.{length}
use Rattle.y4m_line.specs.declared.HeaderLine.{HeaderLine}
use Rattle.y4m_file.specs.File.{IsFileOf}
use Rattle.y4m_file.specs.Check.{pictures_in, rest_of}
use Rattle.y4m_file.specs.Read.{luma_in, chroma_in, file_in}
use Rattle.y4m_file.specs.Known.{IsRead}
use Rattle.y4m_file.proofs.Pictures.{length_from}
use Rattle.y4m_file.proofs.File.{Checked-file}

pub record Said (b : List ℕ) (h : HeaderLine) (k : ℕ) : Type 0 where
  pub is_file_lem : IsFileOf b (file_in b)
  pub width : h.width ≡ (file_in b).width
  pub height : h.height ≡ (file_in b).height
  pub sampling : h.sampling ≡ (file_in b).sampling
  pub count : k ≡ length (file_in b).pictures

pub said : {b : List ℕ} {h : HeaderLine} {k : ℕ} → IsRead b h k → Said b h k
unfolding file_in
said {b} {h} {k} r = record {
  is_file_lem = Checked-file b r.is_file_lem;
  width = r.width;
  height = r.height;
  sampling = r.sampling;
  count = r.count ∙ sym (length_from (luma_in b) (chroma_in b) (pictures_in b) (rest_of b));
}
