-- What a call that makes bytes leaves in the output that it was lent: docs/RULES.md, 11.5 and 11.6.
-- Assumes nothing.
use Rattle.std.specs.Prelude.{ℕ, cond, ◌||◌, List, [], ◌∷◌, ◌++◌, eqb, ltb, length, drop, Result, Ok, Err}
use Rattle.yuv_error.specs.declared.YuvError.{YuvError}
use Rattle.yuv_error.specs.declared.YuvError.TheVariants.{OutputTooShort}
use Rattle.yuv_error.specs.Numbers.{numbers_of}
use Rattle.yuv_error.specs.Rules.{Rule, rule}
use Rattle.shift_writer.specs.declared.NotWritten.{NotWritten}
use Rattle.shift_writer.specs.declared.NotWritten.TheVariants.{Refused, TooShort}

-- RULES 11.5: the refusal of a call that wrote nothing: 16 where the output is too short
abbrev pub refusal_of : NotWritten → YuvError
refusal_of (Refused e) = e
refusal_of (TooShort size) = OutputTooShort

-- RULES 11.5: the answer of a call: finished, or its refusal
abbrev pub outcome_of : Result ℕ NotWritten → Result Unit YuvError
outcome_of (Ok size) = Ok tt
outcome_of (Err reason) = Err (refusal_of reason)

-- RULES 11.5: the size that it tells
abbrev pub size_of : Result ℕ NotWritten → ℕ
size_of (Ok size) = size
size_of (Err (Refused e)) = 0
size_of (Err (TooShort size)) = size

-- RULES 11.5: the bytes at the front, and past them what was there; all as it was where the call was refused
abbrev pub overwritten : Result Unit YuvError → (bytes before : List ℕ) → List ℕ
overwritten (Ok done) bytes before = bytes ++ drop (length bytes) before
overwritten (Err e) bytes before = before

-- RULES 11.5: the bytes that it takes, told after finished work and after 16
abbrev pub size_told : Result Unit YuvError → (size : ℕ) → ℕ
size_told answer size = cond (eqb (numbers_of answer).number 0 || eqb (numbers_of answer).number 16) size 0

-- RULES 11.5: 16, the output has less room than that
abbrev pub output_rules : (size room : ℕ) → List Rule
output_rules size room = rule 16 (ltb room size) 0 0 ∷ []
