-- What is claimed of the summary of a shift file, of the calls' promises and the definitions alone: what is built is a summary, the check says yes exactly
-- where it is one, a lookup finds the first record of a crossing, and an update leaves a summary of the grown file. docs/RULES.md, 12.3 to 12.7.
-- The proof is `summaries` of proofs/Summaries.antt.
-- Assumes nothing.
use Rattle.std.specs.Prelude.{ℕ, ◌+◌, ◌*◌, ◌≤◌, ◌≡◌, true, List, [], ◌∷◌, ◌++◌, ◌↔◌, length, take, drop, Bool, Option, Result, Ok, IsOk}
use Rattle.little_endian.specs.Number.{Bytes}
use Rattle.yuv_error.specs.declared.YuvError.{YuvError}
use Rattle.shift_file.specs.declared.ShiftForm.{ShiftForm}
use Rattle.shift_file.specs.File.{ShiftRecord, HasFile, IsFileOf}
use Rattle.shift_file.specs.Read.{record_at}
use Rattle.shift_summary.specs.Summary.{IsSummary}
use Rattle.summary_calls.specs.Found.{found_among, Finds}
use Rattle.summary_calls.specs.Calls.{BuildPost, CheckPost, FindPost}
use Rattle.summary_update.specs.Update.{UpdatePost}

-- RULES 12.4, 12.7: the first n bytes are a summary of these records, and the others are as they were
pub record Left (form : ShiftForm) (rs : List ShiftRecord) (n : ℕ) (before after : List ℕ) : Type 0 where
  pub summary : IsSummary form rs (take n after)
  pub rest : drop n after ≡ drop n before

-- RULES 12.3, 12.4, 12.5, 12.6, 12.7
pub record Summaries : Type 0 where
  pub built : (form : ShiftForm) (file before : List ℕ) (a : Result Unit YuvError) (after : List ℕ) (rs : List ShiftRecord) → IsFileOf form file rs
      → BuildPost form file before a after → a ≡ Ok tt → Left form rs (13 * length rs) before after
  pub checked : (form : ShiftForm) (file summary : List ℕ) (r : Result Bool YuvError) (rs : List ShiftRecord) → IsFileOf form file rs → Bytes summary
      → CheckPost form file summary r
      → (r ≡ Ok true) ↔ ((13 * length rs ≤ length summary) × IsSummary form rs (take (13 * length rs) summary))
  pub found : (form : ShiftForm) (file summary : List ℕ) (crossing : ℕ) (r : Result (Option ℕ) YuvError) (rs : List ShiftRecord) → IsFileOf form file rs
      → FindPost form file summary crossing r → IsOk r → r ≡ Ok (found_among crossing rs)
  pub finds : Finds
  -- the grown records have a file, and the summary is of that file
  pub updated : (form : ShiftForm) (file added before : List ℕ) (a : Result Unit YuvError) (after : List ℕ) (rs : List ShiftRecord) → IsFileOf form file rs
      → Bytes file → Bytes added → UpdatePost form file added before a after → a ≡ Ok tt
      → HasFile form (rs ++ record_at form added ∷ []) × Left form (rs ++ record_at form added ∷ []) (13 * (length rs + 1)) before after
