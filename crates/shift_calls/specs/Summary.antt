-- The summary of a shift file for C and Rust: what the four calls `segvartin_call_summary_build`, `_check`, `_find` and `_update` answer and leave, which
-- is the promise of the call under each, in the form that the file has. docs/RULES.md, 10.6.
-- Assumes nothing.
use Rattle.std.specs.Prelude.{ℕ, ◌≡◌, Bool, List, [], ◌∷◌, length, Option, Result, is_some}
use Rattle.std.specs.Int.{from_bool}
use Rattle.std.specs.Option.{unwrap_or}
use Rattle.yuv_error.specs.declared.YuvError.{YuvError}
use Rattle.yuv_error.specs.Numbers.{numbers_of}
use Rattle.yuv_error.specs.Rules.{Rule}
use Rattle.shift_file.specs.Check.{form_in}
use Rattle.shift_reader.specs.Reading.{file_rules}
use Rattle.summary_calls.specs.Calls.{build_rules, BuildPost, outcome, says_yes, CheckPost, find_rules, found_in, FindPost}
use Rattle.summary_update.specs.Update.{update_rules, UpdatePost}

-- ---- `segvartin_call_summary_build`

-- RULES 10.6: what a call was given, the number that it returned, and what it was lent as it left it
pub record ExportedBuild : Type 0 where
  pub file : List ℕ
  pub summary : List ℕ
  pub number : ℕ
  pub summary' : List ℕ

-- RULES 10.6
abbrev pub exported_build : (file summary : List ℕ) (number : ℕ) (summary' : List ℕ) → ExportedBuild
exported_build file summary number summary' = record { file = file; summary = summary; number = number; summary' = summary' }

-- RULES 10.6: 15, 17
abbrev pub rules_of_build : ExportedBuild → List Rule
rules_of_build k = build_rules (form_in k.file) k.file (length k.summary)

-- RULES 10.6: the promise of `build_summary`
pub record BuildKept (k : ExportedBuild) : Type 0 where
  pub answer : Result Unit YuvError
  pub number : k.number ≡ (numbers_of answer).number
  pub built : BuildPost (form_in k.file) k.file k.summary answer k.summary'

-- ---- `segvartin_call_summary_check`

-- RULES 10.6
pub record ExportedCheck : Type 0 where
  pub file : List ℕ
  pub summary : List ℕ
  pub number : ℕ
  pub told : List ℕ

-- RULES 10.6
abbrev pub exported_check : (file summary : List ℕ) (number : ℕ) (told : List ℕ) → ExportedCheck
exported_check file summary number told = record { file = file; summary = summary; number = number; told = told }

-- RULES 10.6: 15
abbrev pub rules_of_check : ExportedCheck → List Rule
rules_of_check k = file_rules (form_in k.file) k.file

-- RULES 10.6: 1 for yes, 0 for no
abbrev pub as_number : Bool → ℕ
as_number said = from_bool said

-- RULES 10.6: the promise of `check_summary`
pub record CheckKept (k : ExportedCheck) : Type 0 where
  pub verdict : Result Bool YuvError
  pub number : k.number ≡ (numbers_of (outcome verdict)).number
  pub told : k.told ≡ as_number (says_yes verdict) ∷ []
  pub checked : CheckPost (form_in k.file) k.file k.summary verdict

-- ---- `segvartin_call_summary_find`

-- RULES 10.6
pub record ExportedFind : Type 0 where
  pub file : List ℕ
  pub summary : List ℕ
  pub crossing : ℕ
  pub number : ℕ
  pub told : List ℕ

-- RULES 10.6
abbrev pub exported_find : (file summary : List ℕ) (crossing number : ℕ) (told : List ℕ) → ExportedFind
exported_find file summary crossing number told =
    record { file = file; summary = summary; crossing = crossing; number = number; told = told }

-- RULES 10.6: 15, 17
abbrev pub rules_of_find : ExportedFind → List Rule
rules_of_find k = find_rules (form_in k.file) k.file k.summary

-- RULES 10.6: how many records were found, 1 or 0
abbrev pub found_count : Option ℕ → ℕ
found_count found = from_bool (is_some found)

-- RULES 10.6: and the number of the one that was, from 0
abbrev pub found_place : Option ℕ → ℕ
found_place found = unwrap_or found 0

-- RULES 10.6: the promise of `find_record`
pub record FindKept (k : ExportedFind) : Type 0 where
  pub finding : Result (Option ℕ) YuvError
  pub number : k.number ≡ (numbers_of (outcome finding)).number
  pub told : k.told ≡ found_count (found_in finding) ∷ found_place (found_in finding) ∷ []
  pub found : FindPost (form_in k.file) k.file k.summary k.crossing finding

-- ---- `segvartin_call_summary_update`

-- RULES 10.6
pub record ExportedUpdate : Type 0 where
  pub file : List ℕ
  pub added : List ℕ
  pub summary : List ℕ
  pub number : ℕ
  pub summary' : List ℕ

-- RULES 10.6
abbrev pub exported_update : (file added summary : List ℕ) (number : ℕ) (summary' : List ℕ) → ExportedUpdate
exported_update file added summary number summary' =
    record { file = file; added = added; summary = summary; number = number; summary' = summary' }

-- RULES 10.6: 15, 17
abbrev pub rules_of_update : ExportedUpdate → List Rule
rules_of_update k = update_rules (form_in k.file) k.file k.added k.summary

-- RULES 10.6: the promise of `update_summary`
pub record UpdateKept (k : ExportedUpdate) : Type 0 where
  pub answer : Result Unit YuvError
  pub number : k.number ≡ (numbers_of answer).number
  pub wrote : UpdatePost (form_in k.file) k.file k.added k.summary answer k.summary'
