-- What is claimed of the summary. A call asks the check of a file, and then that of a summary, each of which says yes exactly where there is one; the first
-- record of a crossing is the only one; and bytes that are one whole record are those of a record that may follow the file's.
-- Assumes nothing.
use Prim.Native.Nat.{ℕ, ◌+◌, ◌*◌, ◌≤◌, ◌<◌}
use mathlib.Core.Path.{◌≡◌, refl, sym, ap, ap₂, ◌∙◌}
use mathlib.Core.Bool.{Bool, true, false, cond, not, true≢false}
use mathlib.Core.List.{List, [], ◌∷◌, ◌++◌, append_assoc, append-nil}
use mathlib.Core.Logic.{◌↔◌}
use native.Mathlib.Omega.{arith}
use lib.Dec.{ltb, leb}
use lib.ListN.{length, take, drop, length-append, drop_of_length-le}
use borrow.Author.Tests.{ltb-true, ltb-false, lt-ltb, leb-true, le-leb, eq-eqb}
use Rattle.std.proofs.lemmas.Bool.{and_from, and_parts}
use Rattle.std.specs.Prelude.{Option, Some, None, Result, Ok}
use Rattle.std.specs.Result.{is_ok}
use Rattle.yuv_error.specs.declared.YuvError.{YuvError}
use Rattle.yuv_error.specs.Numbers.{Numbers, numbers}
use Rattle.little_endian.specs.Number.{Bytes}
use Rattle.shift_file.specs.declared.ShiftForm.{ShiftForm}
use Rattle.shift_file.specs.File.{ShiftRecord, Allowed, EachAllowed, records_at, record_bytes, bytes_of}
use Rattle.shift_file.specs.Read.{size_at, record_at, records_in}
use Rattle.shift_file.specs.Check.{record_stands, is_file}
use Rattle.shift_file.proofs.Record.{Stands-true, size_bytes, stands_bytes, record_bytes_lem}
use Rattle.shift_file.proofs.Walk.{First-of}
use Rattle.shift_file.proofs.File.{some_list, form_of, Checked-file, its_records, is_checked, after_pairs}
use Rattle.shift_reader.proofs.Places.{record_there}
use Rattle.shift_writer.specs.Records.{BackToBack}
use Rattle.shift_summary.specs.Summary.{IsSummary}
use Rattle.shift_summary.proofs.Built.{one_summary}
use Rattle.summary_check.specs.Check.{is_summary}
use Rattle.summary_check.proofs.Checked.{checked}
use Rattle.summary_calls.specs.Found.{found_among, IsFirst}
use Rattle.summary_calls.specs.Calls.{found_in}
use Rattle.summary_calls.proofs.Found.{finds}
use Rattle.summary_update.specs.Update.{is_record, may_grow, may_take, UpdatePost}
use Rattle.summary_update.specs.Summaries.{Left}
use Rattle.summary_update.proofs.Grown.{may_grow_lem, grows}
use Rattle.summary_update.proofs.Summaries.{summaries}
use Rattle.demands.specs.Demands.{NoFile, HasSummary, NoRecordOf, Grows, ShiftSummaries}
use Rattle.demands.proofs.ShiftFiles.{by_test, its_file}

-- ---- 15 and 17 by their tests

-- 17, or finished work
abbrev second_of : Bool → Numbers
second_of u = cond u (numbers 17 0 0) (numbers 0 0 0)

-- is not 15
second_is_not : (u : Bool) → (second_of u).number ≡ 15 → ⊥
second_is_not true e = omega arith
second_is_not false e = omega arith

no_file : (form : ShiftForm) (file : List ℕ) (u : Bool) {n : ℕ} → Bytes file
    → n ≡ (cond (not (is_file form file)) (numbers 15 0 0) (second_of u)).number → (n ≡ 15) ↔ NoFile form file
no_file form file u b e = by_test (is_file form file) (second_of u) (some_list form file b) (second_is_not u) e

-- 17 by the second test, where the first one passes
second : {A : Type 0} (t u : Bool) {n : ℕ} → t ≡ true → (u ≡ true) ↔ A
    → n ≡ (cond (not t) (numbers 15 0 0) (second_of (not u))).number → (n ≡ 17) ↔ (A → ⊥)
second true true is means e = (λ z. absurd (omega arith), λ none. absurd (none (means.0 refl)))
second true false is means e = (λ z a. true≢false (sym (means.1 a)), λ none. e)
second false u is means e = absurd (true≢false (sym is))

short : (t : Bool) (room size : ℕ) {n : ℕ} → t ≡ true
    → n ≡ (cond (not t) (numbers 15 0 0) (second_of (ltb room size))).number → (n ≡ 17) ↔ (room < size)
short true room size {n} is e = (λ z. less (ltb room size) refl z e, λ h. e ∙ rw (lt-ltb room size h))
  where
    less : (u : Bool) → ltb room size ≡ u → n ≡ 17 → n ≡ (second_of u).number → room < size
    less true q z e = ltb-true room size q
    less false q z e = absurd (omega arith)
short false room size is e = absurd (true≢false (sym is))

-- ---- looking up

module _ (crossing : ℕ) (rs : List ShiftRecord) where
  first_found : (k : ℕ) → IsFirst crossing rs k → found_among crossing rs ≡ Some k
  first_found k f = go (found_among crossing rs) refl
    where
      one : (j : ℕ) → IsFirst crossing rs j → (t u : Bool) → ltb j k ≡ t → ltb k j ≡ u → j ≡ k
      one j g true u p q = absurd (f.before j (ltb-true j k p) g.has)
      one j g false true p q = absurd (g.before k (ltb-true k j q) f.has)
      one j g false false p q = omega (arith, ltb-false j k p, ltb-false k j q)

      go : (x : Option ℕ) → found_among crossing rs ≡ x → x ≡ Some k
      go (Some j) e = ap Some (one j (finds.some crossing rs j e) (ltb j k) (ltb k j) refl refl)
      go None e = absurd (finds.none crossing rs e k f.below f.has)

  none_found : NoRecordOf crossing rs → found_among crossing rs ≡ None
  none_found none = go (found_among crossing rs) refl
    where
      go : (x : Option ℕ) → found_among crossing rs ≡ x → x ≡ None
      go (Some j) e = let f = finds.some crossing rs j e in absurd (none j f.below f.has)
      go None e = refl

-- ---- a file that grows

last_Allowed : (form : ShiftForm) (rs : List ShiftRecord) (r : ShiftRecord) → EachAllowed form (rs ++ r ∷ []) → Allowed form r
last_Allowed form [] r a = a.0
last_Allowed form (s ∷ rs) r a = last_Allowed form rs r a.1

Bytes-append : (rs : List ShiftRecord) (r : ShiftRecord) → record_bytes (rs ++ r ∷ []) ≡ record_bytes rs ++ bytes_of r
unfolding record_bytes
Bytes-append [] r = append-nil (bytes_of r)
Bytes-append (s ∷ rs) r = rw (Bytes-append rs r) (sym (append_assoc (bytes_of s) (record_bytes rs) (bytes_of r)))

module _ (form : ShiftForm) (file added : List ℕ) where
  module _ (rs : List ShiftRecord) (r : ShiftRecord) (g : Grows form file added rs r) where
    allowed : Allowed form r
    allowed = last_Allowed form rs r g.has.each

    whole : bytes_of r ++ [] ≡ added
    whole = append-nil (bytes_of r) ∙ g.new

    new_record : record_at form added ≡ r
    new_record = ap (record_at form) (sym whole) ∙ record_bytes_lem form r allowed []

    is_record_lem : is_record form added ≡ true
    unfolding is_record
    is_record_lem =
        let size : size_at form added ≡ length added = ap (size_at form) (sym whole) ∙ size_bytes form r allowed [] ∙ ap length g.new in
        and_from (record_stands form added) _ (ap (record_stands form) (sym whole) ∙ stands_bytes form r allowed []) (eq-eqb (size_at form added) (length added) size)

    grows_is : may_grow form file added ≡ true
    unfolding may_grow
    grows_is =
        let few : length (records_in form file) < 4096 =
        rw (its_records form file rs g.old) (omega (arith, g.has.few, length-append rs (r ∷ []))) in
        and_from (is_file form file) _ (is_checked form file rs g.old) (and_from (is_record form added) _ is_record_lem (lt-ltb _ _ few))

    back_to_back : BackToBack form (drop (records_at form (length rs)) file ++ added) (rs ++ r ∷ [])
    back_to_back = record {
      has = g.has;
      same = Bytes-append rs r ∙ ap₂ (λ (a b : List ℕ). a ++ b) (sym (after_pairs form rs) ∙ ap (drop (records_at form (length rs))) g.old.same) g.new;
    }

    its_updated : (before : List ℕ) (a : Result Unit YuvError) (after : List ℕ) → Bytes file → Bytes added → UpdatePost form file added before a after → a ≡ Ok tt
        → Left form (rs ++ r ∷ []) (13 * (length rs + 1)) before after
    its_updated before a after bf ba p done = rw new_record at (summaries.updated form file added before a after rs g.old bf ba p done).1

    takes_is : (before : List ℕ) → Bytes before
        → (may_take form file before ≡ true) ↔ ((13 * (length rs + 1) ≤ length before) × HasSummary form rs before)
    takes_is before b =
        let its = its_records form file rs g.old in
        let means = checked form rs before g.old.has b in
        rw its (
          λ e. let p = and_parts (leb (13 * (length rs + 1)) (length before)) _ e in (leb-true _ _ p.0, means.0 p.1),
          λ p. and_from (leb (13 * (length rs + 1)) (length before)) _ (le-leb _ _ p.0) (means.1 p.1),
        )

  module _ (bf : Bytes file) (ba : Bytes added) where
    is_grown : may_grow form file added ≡ true → Grows form file added (records_in form file) (record_at form added)
    is_grown e =
        let m = may_grow_lem form file added e in
        let rest : drop (size_at form added) added ≡ [] = drop_of_length-le added {i = size_at form added} (omega (arith, m.whole)) in
        record {
          old = (Checked-file form file bf m.is_file_lem).file;
          new =
              sym (append-nil _) ∙ ap (λ (l : List ℕ). bytes_of (record_at form added) ++ l) (sym rest)
              ∙ First-of form added ba (Stands-true form added m.stands);
          has = grows form file added bf ba e;
        }

    may_grow_is : (may_grow form file added ≡ true) ↔ ((rs : List ShiftRecord) × ((r : ShiftRecord) × Grows form file added rs r))
    may_grow_is = (λ e. (records_in form file, (record_at form added, is_grown e)), λ p. grows_is p.0 p.1.0 p.1.1)

pub shift_summaries : ShiftSummaries
shift_summaries = record {
  one_summary = one_summary;
  build_refused = λ form file before a after b p.
      no_file form file (ltb (length before) (13 * length (records_in form file))) b (ap (λ (x : Numbers). x.number) p.answered);
  build_short = λ form file before a after rs f p.
      short (is_file form file) (length before) (13 * length rs) (is_checked form file rs f)
      (rw (its_records form file rs f) at (ap (λ (x : Numbers). x.number) p.answered));
  built = summaries.built;
  check_refused = λ form file summary r b p. no_file form file false b (ap (λ (x : Numbers). x.number) p.answered);
  checked = summaries.checked;
  find_refused = λ form file summary crossing r b p.
      no_file form file (not (is_summary form (records_in form file) summary)) b (ap (λ (x : Numbers). x.number) p.answered);
  find_mismatch = λ form file summary crossing r rs f b p.
      second (is_file form file) (is_summary form rs summary) (is_checked form file rs f) (checked form rs summary f.has b)
      (rw (its_records form file rs f) at (ap (λ (x : Numbers). x.number) p.answered));
  found = λ form file summary crossing r rs f p done k.
      let is = summaries.found form file summary crossing r rs f p done in
      (λ e. finds.some crossing rs k (ap found_in (sym is ∙ e)), λ h. is ∙ ap Ok (first_found crossing rs k h));
  found_part = λ form file summary crossing r rs k f p e.
      record_there form file rs k f (finds.some crossing rs k (ap found_in (sym (summaries.found form file summary crossing r rs f p (ap is_ok e)) ∙ e))).below;
  found_none = λ form file summary crossing r rs f p done.
      let is = summaries.found form file summary crossing r rs f p done in
      (λ e. finds.none crossing rs (ap found_in (sym is ∙ e)), λ h. is ∙ ap Ok (none_found crossing rs h));
  update_refused = λ form file added before a after bf ba p.
      let u = not (may_take form file before) in
      let number = ap (λ (x : Numbers). x.number) p.answered in
      let q = by_test (may_grow form file added) (second_of u) (may_grow_is form file added bf ba) (second_is_not u) number in
      (λ z rs r g. q.0 z rs (r, g), λ none. q.1 (λ rs g. none rs g.0 g.1));
  update_mismatch = λ form file added before a after rs r g b p.
      second (may_grow form file added) (may_take form file before) (grows_is form file added rs r g) (takes_is form file added rs r g before b)
      (ap (λ (x : Numbers). x.number) p.answered);
  updated = λ form file added before a after rs r g. its_updated form file added rs r g before a after;
  afresh = λ form file added before a after rs r g bf ba p done grown before₂ b after₂ f q done₂.
      let many : 13 * length (rs ++ r ∷ []) ≡ 13 * (length rs + 1) = ap (λ (n : ℕ). 13 * n) (length-append rs (r ∷ [])) in
      let built : IsSummary form (rs ++ r ∷ []) (take (13 * (length rs + 1)) after₂) =
      rw many at (summaries.built form grown before₂ b after₂ (rs ++ r ∷ []) f q done₂).summary in
      one_summary form (rs ++ r ∷ []) _ _ g.has (its_updated form file added rs r g before a after bf ba p done).summary built;
  grown = λ form file added before w after rs r g p done. its_file form _ before w after p (rs ++ r ∷ []) (back_to_back form file added rs r g) done;
  linked_build = λ k p form rs f. rw (form_of form k.file rs f) at p.built;
  linked_check = λ k p form rs f. rw (form_of form k.file rs f) at p.checked;
  linked_find = λ k p form rs f. rw (form_of form k.file rs f) at p.found;
  linked_update = λ k p form rs f. rw (form_of form k.file rs f) at p.wrote;
}
