-- What is claimed of two shift files paired: the two checks say whose records there are, and the call's report is that of these. Assumes nothing.
use Prim.Native.Nat.{ℕ}
use mathlib.Core.Path.{◌≡◌, refl, sym, ap, ◌∙◌}
use mathlib.Core.Bool.{Bool, true, false, cond, not, true≢false}
use mathlib.Core.List.{List, [], ◌∷◌}
use mathlib.Core.Logic.{◌↔◌, ◌⊎◌, inl, inr, ⊎_elim}
use native.Mathlib.Omega.{arith}
use lib.ListN.{get_or}
use Rattle.std.specs.Prelude.{Option, Some, None, Result, Ok, Err, IfOk}
use Rattle.std.specs.Result.{result_err}
use Rattle.yuv_error.specs.Numbers.{Numbers, numbers, numbers_of}
use Rattle.little_endian.specs.Number.{Bytes}
use Rattle.shift_file.specs.declared.ShiftForm.{ShiftForm}
use Rattle.shift_file.specs.File.{ShiftRecord, IsFileOf}
use Rattle.shift_file.specs.Check.{is_file, form_in}
use Rattle.shift_file.proofs.File.{some_list, form_of, its_records, is_checked}
use Rattle.record_difference.proofs.Equal.{same_is_equal}
use Rattle.record_difference.proofs.First.{place_is_first, sizes_are_told}
use Rattle.shift_pairs.specs.declared.PairReport.{PairReport}
use Rattle.shift_pairs.specs.declared.BrokenFile.{BrokenFile}
use Rattle.shift_pairs.specs.declared.BrokenFile.TheVariants.{Ours, Theirs}
use Rattle.shift_pairs.specs.Report.{report_of}
use Rattle.shift_pairs.specs.Pairing.{pairing_outcome, broken_file, broken_number, broken_told, PairingPost}
use Rattle.shift_pairs.proofs.Counts.{one_or_none, counts_add_up}
use Rattle.shift_pairs.proofs.First.{first_or_none}
use Rattle.report_numbers.specs.Numbers.{pairing_numbers}
use Rattle.shift_calls.specs.Pairs.{ExportedPairing, PairingKept}
use Rattle.shift_calls.proofs.Pairs.{pairing_writes_nothing}
use Rattle.demands.specs.Demands.{NoFile, ShiftPairs}

-- ---- which file is none, by the two tests

-- the file that is none, as it is told
abbrev told : Option BrokenFile → ℕ
told None = 0
told (Some broken) = broken_number broken

told_by : (r : Result PairReport BrokenFile) → broken_told r ≡ told (result_err r)
told_by (Ok report) = refl
told_by (Err broken) = refl

-- the answer of a number that is told
which : (r : Result PairReport BrokenFile) (broken : BrokenFile) → broken_told r ≡ broken_number broken → r ≡ Err broken
which (Ok report) Ours e = absurd (omega arith)
which (Ok report) Theirs e = absurd (omega arith)
which (Err Ours) Ours e = refl
which (Err Ours) Theirs e = absurd (omega arith)
which (Err Theirs) Ours e = absurd (omega arith)
which (Err Theirs) Theirs e = refl

-- a pairing that is not refused
is_done : (r : Result PairReport BrokenFile) (x : PairReport) → IfOk r (λ y. y ≡ x) → (numbers_of (pairing_outcome r)).number ≡ 0 → r ≡ Ok x
is_done (Ok y) x e z = ap Ok e
is_done (Err broken) x h z = absurd (omega arith)

module _ {A : List ShiftRecord → Type 0} where
  ours_told : (t u : Bool) {n : ℕ} → (t ≡ true) ↔ ((rs : List ShiftRecord) × A rs) → n ≡ told (broken_file t u) → (n ≡ 1) ↔ ((rs : List ShiftRecord) → A rs → ⊥)
  ours_told true true is e = (λ z. absurd (omega arith), λ none. let some = is.0 refl in absurd (none some.0 some.1))
  ours_told true false is e = (λ z. absurd (omega arith), λ none. let some = is.0 refl in absurd (none some.0 some.1))
  ours_told false u is e = (λ z rs a. true≢false (sym (is.1 (rs, a))), λ none. e)

  theirs_told : {B : List ShiftRecord → Type 0} (t u : Bool) {n : ℕ} → (t ≡ true) ↔ ((rs : List ShiftRecord) × A rs)
      → (u ≡ true) ↔ ((rs : List ShiftRecord) × B rs) → n ≡ told (broken_file t u)
      → (n ≡ 2) ↔ (((rs : List ShiftRecord) × A rs) × ((rs : List ShiftRecord) → B rs → ⊥))
  theirs_told true true is his e = (λ z. absurd (omega arith), λ q. let some = his.0 refl in absurd (q.1 some.0 some.1))
  theirs_told true false is his e = (λ z. (is.0 refl, λ rs b. true≢false (sym (his.1 (rs, b)))), λ q. e)
  theirs_told false u is his e = (λ z. absurd (omega arith), λ q. absurd (true≢false (sym (is.1 q.0))))

  either_told : {B : List ShiftRecord → Type 0} (t u : Bool) {n : ℕ} → (t ≡ true) ↔ ((rs : List ShiftRecord) × A rs)
      → (u ≡ true) ↔ ((rs : List ShiftRecord) × B rs)
      → n ≡ (cond (not t) (numbers 15 0 0) (cond (not u) (numbers 15 0 0) (numbers 0 0 0))).number
      → (n ≡ 15) ↔ (((rs : List ShiftRecord) → A rs → ⊥) ⊎ ((rs : List ShiftRecord) → B rs → ⊥))
  either_told true true is his e = (
    λ z. absurd (omega arith),
    λ q. ⊎_elim (λ none. absurd (none (is.0 refl).0 (is.0 refl).1)) (λ none. absurd (none (his.0 refl).0 (his.0 refl).1)) q,
  )
  either_told true false is his e = (λ z. inr (λ rs b. true≢false (sym (his.1 (rs, b)))), λ q. e)
  either_told false u is his e = (λ z. inl (λ rs a. true≢false (sym (is.1 (rs, a)))), λ q. e)

module _ (our_form : ShiftForm) (ours : List ℕ) (their_form : ShiftForm) (theirs : List ℕ) (r : Result PairReport BrokenFile) (b : Bytes ours)
    (p : PairingPost our_form ours their_form theirs r) where
  its_number : broken_told r ≡ told (broken_file (is_file our_form ours) (is_file their_form theirs))
  its_number = told_by r ∙ ap told p.broken

  ours_none : (broken_told r ≡ 1) ↔ NoFile our_form ours
  ours_none = ours_told (is_file our_form ours) (is_file their_form theirs) (some_list our_form ours b) its_number

  module _ (d : Bytes theirs) where
    is_refused : ((numbers_of (pairing_outcome r)).number ≡ 15) ↔ (NoFile our_form ours ⊎ NoFile their_form theirs)
    is_refused =
        either_told (is_file our_form ours) (is_file their_form theirs) (some_list our_form ours b) (some_list their_form theirs d)
        (ap (λ (x : Numbers). x.number) p.answered)

    theirs_none : (broken_told r ≡ 2) ↔ (((rs : List ShiftRecord) × IsFileOf our_form ours rs) × NoFile their_form theirs)
    theirs_none =
        theirs_told (is_file our_form ours) (is_file their_form theirs) (some_list our_form ours b) (some_list their_form theirs d) its_number

-- ---- for who links the library

module _ (k : ExportedPairing) (b : Bytes k.ours) (d : Bytes k.theirs) (p : PairingKept k) where
  linked_none : (k.number ≡ 15) ↔ (NoFile (form_in k.ours) k.ours ⊎ NoFile (form_in k.theirs) k.theirs)
  linked_none =
      let is = is_refused (form_in k.ours) k.ours (form_in k.theirs) k.theirs p.pairing b p.paired d in
      (λ e. is.0 (sym p.number ∙ e), λ none. p.number ∙ is.1 none)

  -- the file that is told is the one that the pairing tells
  told_is : (n : ℕ) → (k.told ≡ n ∷ []) ↔ (broken_told p.pairing ≡ n)
  told_is n = (λ e. ap (λ (l : List ℕ). get_or l 0 0) (sym p.told ∙ e), λ e. p.told ∙ ap (λ (m : ℕ). m ∷ []) e)

  linked_ours : ((k.number ≡ 15) × (k.told ≡ 1 ∷ [])) ↔ NoFile (form_in k.ours) k.ours
  linked_ours =
      let is = ours_none (form_in k.ours) k.ours (form_in k.theirs) k.theirs p.pairing b p.paired in
      (λ q. is.0 ((told_is 1).0 q.1), λ none. (linked_none.1 (inl none), (told_is 1).1 (is.1 none)))

  linked_theirs : ((k.number ≡ 15) × (k.told ≡ 2 ∷ []))
      ↔ (((rs : List ShiftRecord) × IsFileOf (form_in k.ours) k.ours rs) × NoFile (form_in k.theirs) k.theirs)
  linked_theirs =
      let is = theirs_none (form_in k.ours) k.ours (form_in k.theirs) k.theirs p.pairing b p.paired d in
      (λ q. is.0 ((told_is 2).0 q.1), λ q. (linked_none.1 (inr q.1), (told_is 2).1 (is.1 q)))

-- ---- two files

module _ (our_form : ShiftForm) (ours : List ℕ) (their_form : ShiftForm) (theirs : List ℕ) (r : Result PairReport BrokenFile) (rs ss : List ShiftRecord)
    (f : IsFileOf our_form ours rs) (g : IsFileOf their_form theirs ss) (p : PairingPost our_form ours their_form theirs r) where
  its_report : r ≡ Ok (report_of (record { our_form = our_form; ours = rs; their_form = their_form; theirs = ss }))
  its_report =
      let answered : numbers_of (pairing_outcome r) ≡ numbers 0 0 0 = rw (is_checked our_form ours rs f, is_checked their_form theirs ss g) at p.answered in
      is_done r _ (rw (its_records our_form ours rs f, its_records their_form theirs ss g) at p.reported) (ap (λ (x : Numbers). x.number) answered)

module _ (our_form their_form : ShiftForm) (k : ExportedPairing) (rs ss : List ShiftRecord) (f : IsFileOf our_form k.ours rs)
    (g : IsFileOf their_form k.theirs ss) (p : PairingKept k) where
  done : p.pairing ≡ Ok (report_of (record { our_form = our_form; ours = rs; their_form = their_form; theirs = ss }))
  done =
      its_report our_form k.ours their_form k.theirs p.pairing rs ss f g
      (rw (form_of our_form k.ours rs f, form_of their_form k.theirs ss g) at p.paired)

pub shift_pairs : ShiftPairs
shift_pairs = record {
  same_is_equal = same_is_equal;
  place_is_first = place_is_first;
  sizes_are_told = sizes_are_told;
  one_or_none = one_or_none;
  counts_add_up = counts_add_up;
  first_or_none = first_or_none;
  refused = λ our_form ours their_form theirs r b d p. is_refused our_form ours their_form theirs r b p d;
  ours_broken = λ our_form ours their_form theirs r b p.
      let is = ours_none our_form ours their_form theirs r b p in
      (λ e. is.0 (ap broken_told e), λ none. which r Ours (is.1 none));
  theirs_broken = λ our_form ours their_form theirs r b d p.
      let is = theirs_none our_form ours their_form theirs r b p d in
      (λ e. is.0 (ap broken_told e), λ none. which r Theirs (is.1 none));
  reported = its_report;
  linked_refused = linked_none;
  linked_ours_broken = linked_ours;
  linked_theirs_broken = linked_theirs;
  linked_untouched = λ k p e. pairing_writes_nothing p (omega arith);
  linked = λ our_form their_form k rs ss f g p.
      let is = done our_form their_form k rs ss f g p in (
        p.number ∙ ap (λ (r : Result PairReport BrokenFile). (numbers_of (pairing_outcome r)).number) is,
        p.told ∙ ap (λ (r : Result PairReport BrokenFile). broken_told r ∷ []) is,
        p.report ∙ ap (λ (r : Result PairReport BrokenFile). pairing_numbers r k.report) is,
      );
}
