-- What the check and the reading mean: docs/RULES.md, 14.4.
-- Assumes nothing.
use Rattle.std.specs.Prelude.{◌≡◌, true, List, ◌↔◌, ℕ}
use Rattle.y4m_file.specs.File.{Y4mFile, Allowed, IsFileOf, file_bytes}
use Rattle.y4m_file.specs.Check.{is_y4m}
use Rattle.y4m_file.specs.Read.{file_in}

-- RULES 14.4: bytes are a file exactly where some file has them
abbrev pub SomeFile : Type 0
SomeFile = (file : List ℕ) → (is_y4m file ≡ true) ↔ ((f : Y4mFile) × IsFileOf file f)

-- RULES 14.4: bytes are one file at most
abbrev pub OneFile : Type 0
OneFile = (file : List ℕ) (f g : Y4mFile) → IsFileOf file f → IsFileOf file g → f ≡ g

-- RULES 14.4: written, then read, it is the same file
abbrev pub ReadBack : Type 0
ReadBack = (f : Y4mFile) → Allowed f → file_in (file_bytes f) ≡ f

-- RULES 14.4: read, then written, it is the same bytes
abbrev pub Rewritten : Type 0
Rewritten = (file : List ℕ) → is_y4m file ≡ true → file_bytes (file_in file) ≡ file
