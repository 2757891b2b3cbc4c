-- What is claimed of the summary: a finished call had nothing to refuse, so the file is the records' and the bytes written are at the front.
-- Assumes nothing.
use Prim.Native.Nat.{ℕ, ◌+◌, ◌*◌, ◌≤◌}
use mathlib.Core.Path.{◌≡◌, refl, sym, ap, ◌∙◌}
use mathlib.Core.Bool.{Bool, true, false, cond, not, and-eq-true_iff, true≢false}
use mathlib.Core.List.{List, [], ◌∷◌, ◌++◌}
use mathlib.Core.Logic.{◌↔◌}
use native.Mathlib.Omega.{arith}
use lib.Dec.{leb}
use lib.ListN.{length, take, drop}
use lib.Seq.{take_at, drop_at}
use Rattle.little_endian.specs.Number.{Bytes}
use Rattle.std.specs.Prelude.{Option, Result, Ok, Err, IsOk, IfOk}
use Rattle.yuv_error.specs.declared.YuvError.{YuvError}
use Rattle.yuv_error.specs.Numbers.{Numbers, numbers}
use Rattle.shift_file.specs.declared.ShiftForm.{ShiftForm}
use Rattle.shift_file.specs.File.{ShiftRecord, HasFile, IsFileOf}
use Rattle.shift_file.specs.Read.{record_at, records_in}
use Rattle.shift_file.proofs.File.{its_records, is_checked}
use Rattle.shift_summary.specs.Summary.{IsSummary}
use Rattle.shift_summary.specs.Built.{summary_of}
use Rattle.shift_summary.proofs.Built.{built, built_length}
use Rattle.summary_check.specs.Check.{is_summary}
use Rattle.summary_check.proofs.Checked.{checked}
use Rattle.summary_calls.specs.Found.{found_among}
use Rattle.summary_calls.specs.Calls.{BuildPost, says_yes, CheckPost, FindPost}
use Rattle.summary_calls.proofs.Found.{finds}
use Rattle.summary_update.specs.Update.{may_grow, may_take, grown_records, updated, UpdatePost}
use Rattle.summary_update.specs.Summaries.{Left, Summaries}
use Rattle.summary_update.proofs.Grown.{updates}
use Rattle.summary_update.proofs.Told.{length-updated}

-- bytes written at the front
left : (form : ShiftForm) (rs : List ShiftRecord) (bytes before after : List ℕ) (n : ℕ) → length bytes ≡ n → IsSummary form rs bytes
    → after ≡ bytes ++ drop (length bytes) before → Left form rs n before after
left form rs bytes before after n long is e = record {
  summary = rw (e, take_at bytes (drop (length bytes) before) n long) is;
  rest = rw (e, drop_at bytes (drop (length bytes) before) n long) (ap (λ (m : ℕ). drop m before) long);
}

built_Left : (form : ShiftForm) (file before : List ℕ) (a : Result Unit YuvError) (after : List ℕ) (rs : List ShiftRecord) → IsFileOf form file rs
    → BuildPost form file before a after → a ≡ Ok tt → Left form rs (13 * length rs) before after
built_Left form file before a after rs f p done =
    let its = its_records form file rs f in
    let wrote : after ≡ summary_of form rs ++ drop (length (summary_of form rs)) before = rw (done, its) at p.written in
    left form rs (summary_of form rs) before after (13 * length rs) (built_length form rs f.has) (built form rs f.has) wrote

-- the answer that says yes
said_yes : (r : Result Bool YuvError) → says_yes r ≡ true → r ≡ Ok true
said_yes (Ok said) e = ap Ok e
said_yes (Err e) h = absurd (true≢false (sym h))

checked_is : (form : ShiftForm) (file summary : List ℕ) (r : Result Bool YuvError) (rs : List ShiftRecord) → IsFileOf form file rs → Bytes summary
    → CheckPost form file summary r
    → (r ≡ Ok true) ↔ ((13 * length rs ≤ length summary) × IsSummary form rs (take (13 * length rs) summary))
checked_is form file summary r rs f b p =
    let verdict : says_yes r ≡ is_summary form rs summary = rw (is_checked form file rs f, its_records form file rs f) at p.verdict in
    let both = checked form rs summary f.has b in
    (λ yes. both.0 (sym verdict ∙ ap says_yes yes), λ is. said_yes r (verdict ∙ both.1 is))

-- an answer that is known where it is no refusal
is_told : {A : Type 0} (r : Result A YuvError) (x : A) → IfOk r (λ y. y ≡ x) → IsOk r → r ≡ Ok x
is_told (Ok y) x e done = ap Ok e
is_told (Err e) x h done = absurd (true≢false (sym done))

found_is : (form : ShiftForm) (file summary : List ℕ) (crossing : ℕ) (r : Result (Option ℕ) YuvError) (rs : List ShiftRecord) → IsFileOf form file rs
    → FindPost form file summary crossing r → IsOk r → r ≡ Ok (found_among crossing rs)
found_is form file summary crossing r rs f p done = is_told r (found_among crossing rs) (rw (its_records form file rs f) at p.found) done

-- an answer of 0 passed both rules
passed : (t u : Bool) → numbers 0 0 0 ≡ cond (not t) (numbers 15 0 0) (cond (not u) (numbers 17 0 0) (numbers 0 0 0)) → (t ≡ true) × (u ≡ true)
passed true true e = (refl, refl)
passed true false e = absurd (omega (arith, ap (λ (x : Numbers). x.number) e))
passed false u e = absurd (omega (arith, ap (λ (x : Numbers). x.number) e))

updated_Left : (form : ShiftForm) (file added before : List ℕ) (a : Result Unit YuvError) (after : List ℕ) (rs : List ShiftRecord) → IsFileOf form file rs
    → Bytes file → Bytes added → UpdatePost form file added before a after → a ≡ Ok tt
    → HasFile form (rs ++ record_at form added ∷ []) × Left form (rs ++ record_at form added ∷ []) (13 * (length rs + 1)) before after
updated_Left form file added before a after rs f bf ba p done =
    let q = passed (may_grow form file added) (may_take form file before) (rw done at p.answered) in
    let yes = ((and-eq-true_iff (leb (13 * (length (records_in form file) + 1)) (length before)) _).0 q.1).1 in
    let grows = updates.grows form file added bf ba q.0 in
    let is = updates.summary form file added before bf ba q.0 yes in
    let wrote : after ≡ updated form file added before ++ drop (length (updated form file added before)) before = rw done at p.written in
    let whole = left form (grown_records form file added) _ before after _ (length-updated form file added before) is wrote in
    let its = its_records form file rs f in
    (rw its at grows, rw its at whole)

pub summaries : Summaries
summaries = record { built = built_Left; checked = checked_is; found = found_is; finds = finds; updated = updated_Left }
