-- What a written file means: docs/RULES.md, 14.6.
-- Assumes nothing.
use Rattle.std.specs.Prelude.{ℕ, ◌≡◌, true, List, length}
use Rattle.y4m_file.specs.File.{IsFileOf}
use Rattle.y4m_file.specs.Read.{file_in}
use Rattle.y4m_writer.specs.Pictures.{can_write, file_from, file_made, planes_of}

-- RULES 14.6: what is written is a file
abbrev pub WrittenIsFile : Type 0
WrittenIsFile = (code w h : ℕ) (planes : List ℕ) → can_write code w h (length planes) ≡ true
    → IsFileOf (file_made code w h planes) (file_from code w h planes)

-- RULES 14.6: and is read back with the same sides, sampling and planes
abbrev pub WrittenReadBack : Type 0
WrittenReadBack = (code w h : ℕ) (planes : List ℕ) → can_write code w h (length planes) ≡ true
    → (file_in (file_made code w h planes) ≡ file_from code w h planes) × (planes_of (file_in (file_made code w h planes)).pictures ≡ planes)
