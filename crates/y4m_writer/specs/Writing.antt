-- What writing a Y4M file promises: docs/RULES.md, 14.6.
-- Assumes nothing.
use Rattle.std.specs.Prelude.{ℕ, ◌^◌, ◌≡◌, cond, not, List, ◌∷◌, ltb, length, Result}
use Rattle.yuv_error.specs.Numbers.{numbers_of}
use Rattle.yuv_error.specs.Rules.{Rule, rule, first_numbers}
use Rattle.shift_writer.specs.Output.{outcome_of, size_of, overwritten, size_told, output_rules}
use Rattle.shift_writer.specs.declared.NotWritten.{NotWritten}
use Rattle.y4m_writer.specs.Pictures.{can_write, file_made}

-- RULES 14.6: 19, then 16
abbrev pub write_rules : (code w h : ℕ) → (pictures : List ℕ) → (room : ℕ) → List Rule
write_rules code w h pictures room = rule 19 (not (can_write code w h (length pictures))) 0 0 ∷ output_rules (length (file_made code w h pictures)) room

-- RULES 14.6: a size, where it is a number of 64 bits; else 0
abbrev pub in_word : ℕ → ℕ
in_word size = cond (ltb size (2 ^ 64)) size 0

-- RULES 14.6: everything of a call: its answer, the file's size, and each byte lent to it
pub record WritePost (code w h : ℕ) (pictures before : List ℕ) (r : Result ℕ NotWritten) (after : List ℕ) : Type 0 where
  pub answered : numbers_of (outcome_of r) ≡ first_numbers (write_rules code w h pictures (length before))
  pub size : size_of r ≡ size_told (outcome_of r) (in_word (length (file_made code w h pictures)))
  pub written : after ≡ overwritten (outcome_of r) (file_made code w h pictures) before
