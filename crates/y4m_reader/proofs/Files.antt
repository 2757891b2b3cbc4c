-- A file that was opened, as a value: what is known of it, and of each of its pictures. Assumes nothing.
use Prim.Native.Nat.{ℕ, ◌+◌, ◌*◌, ◌≤◌, ◌<◌}
use mathlib.Core.Path.{◌≡◌}
use mathlib.Core.List.{List}
use native.Mathlib.Omega.{arith}
use lib.ListN.{length, take, drop}
use Rattle.y4m_line.specs.Header.{line_end}
use Rattle.y4m_file.specs.declared.opened.Y4mRead.{Y4mRead}
use Rattle.y4m_file.specs.Read.{file_in}
use Rattle.y4m_reader.specs.Entry.{picture_of, offset_of, plane_numbers, entry_of}
use Rattle.y4m_reader.specs.Known.{SizesAre, Stood}
use Rattle.y4m_reader.specs.declared.PlaneSizes.{PlaneSizes}
use Rattle.y4m_reader.proofs.Said.{Said, said}
use Rattle.y4m_reader.proofs.Places.{entry_is, y_there, u_there, v_there, next_Stood}

pub file_said : (f : Y4mRead) → Said f.bytes.now f.header f.count
file_said f = said f.is_read

-- picture k, whose planes stand from y on, and what stands behind it
pub record Here (file : List ℕ) (p : PlaneSizes) (k y : ℕ) : Type 0 where
  pub next : Stood file (k + 1) (y + p.luma + 2 * p.chroma)
  pub inside : y + p.luma + 2 * p.chroma ≤ length file
  pub entry : plane_numbers y p.luma p.chroma ≡ entry_of (offset_of (file_in file) k) (picture_of (file_in file) k)
  pub y_is : take p.luma (drop y file) ≡ (picture_of (file_in file) k).y
  pub u_is : take p.chroma (drop (y + p.luma) file) ≡ (picture_of (file_in file) k).u
  pub v_is : take p.chroma (drop (y + p.luma + p.chroma) file) ≡ (picture_of (file_in file) k).v

pub picture_here : (f : Y4mRead) (p : PlaneSizes) → SizesAre f.bytes.now p → (k at y : ℕ) → k < f.count → Stood f.bytes.now k at
    → y ≡ at + (line_end (drop at f.bytes.now) + 1) → Here f.bytes.now p k y
picture_here f p z k at y below stood e =
    let s = file_said f in
    let there : k < length (file_in f.bytes.now).pictures = omega (arith, s.count) in
    let n = next_Stood f.bytes.now p s.is_file_lem z k at there stood y e in
    record {
      next = n;
      inside = n.within;
      entry = entry_is f.bytes.now p s.is_file_lem z k at there stood y e;
      y_is = y_there f.bytes.now p s.is_file_lem z k at there stood y e;
      u_is = u_there f.bytes.now p s.is_file_lem z k at there stood y e;
      v_is = v_there f.bytes.now p s.is_file_lem z k at there stood y e;
    }
