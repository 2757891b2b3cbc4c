-- What is claimed of a shift file moved to its other form: a call asks the check, then the settings, then the room, and what it writes is the file of
-- the moved records.
-- Assumes nothing.
use Prim.Native.Nat.{ℕ, zero, suc, ◌≤◌, ◌<◌}
use mathlib.Core.Path.{◌≡◌, refl, sym, ap, ◌∙◌}
use mathlib.Core.Bool.{Bool, true, false, cond, not, ◌&&◌, true≢false}
use mathlib.Core.List.{List, [], ◌∷◌, ◌++◌}
use mathlib.Core.Logic.{◌↔◌}
use native.Mathlib.Omega.{arith}
use lib.Dec.{ltb, eqb}
use lib.ListN.{length, get_or, take, drop}
use lib.Seq.{take_at, drop_at}
use borrow.Author.Tests.{ltb-true, lt-ltb, le-ltb, eqb-true, eq-eqb}
use Rattle.std.proofs.lemmas.Bool.{and_from, and_parts, false_from_ne_true}
use Rattle.std.specs.Prelude.{Result, Ok}
use Rattle.yuv_error.specs.Numbers.{Numbers, numbers, numbers_of}
use Rattle.yuv_error.proofs.Numbers.{is_finished}
use Rattle.little_endian.specs.Number.{Bytes}
use Rattle.shift_file.specs.declared.ShiftForm.{ShiftForm}
use Rattle.shift_file.specs.declared.ShiftForm.TheVariants.{WithoutSettings, WithSettings}
use Rattle.shift_file.specs.File.{ShiftRecord, IsFileOf}
use Rattle.shift_file.specs.Read.{records_in}
use Rattle.shift_file.specs.Check.{is_file}
use Rattle.shift_file.proofs.File.{some_list, its_records, is_checked, Checked-file, one_form}
use Rattle.shift_reader.specs.Entry.{nth}
use Rattle.shift_writer.specs.declared.NotWritten.{NotWritten}
use Rattle.shift_writer.specs.Output.{outcome_of, size_of}
use Rattle.shift_move.specs.Move.{other_form, is_plain, are_plain, may_move, moved, moved_file}
use Rattle.shift_move.specs.Moving.{MovePost}
use Rattle.shift_move.proofs.Files.{moved_is_file, may_return, there_and_back, asked_in_order}
use Rattle.demands.specs.Demands.{NothingRecorded, ShiftMoves}
use Rattle.demands.proofs.ShiftFiles.{by_test}

-- ---- the answer by its three tests

-- a file, that may move, and too little room
abbrev answer_by : (t m s : Bool) → Numbers
answer_by t m s = cond (not t) (numbers 15 0 0) (cond (not m) (numbers 20 0 0) (cond s (numbers 16 0 0) (numbers 0 0 0)))

answered_by : (from : ShiftForm) (file before : List ℕ) (r : Result ℕ NotWritten) (after : List ℕ) → MovePost from file before r after
    → (numbers_of (outcome_of r)).number ≡ (answer_by (is_file from file) (may_move from (records_in from file)) (ltb (length before) (length (moved_file from file)))).number
answered_by from file before r after p = ap (λ (x : Numbers). x.number) (p.answered ∙ asked_in_order from file (length before))

later_is_not : (m s : Bool) → (cond (not m) (numbers 20 0 0) (cond s (numbers 16 0 0) (numbers 0 0 0))).number ≡ 15 → ⊥
later_is_not true true e = omega arith
later_is_not true false e = omega arith
later_is_not false s e = omega arith

is_20 : (t m s : Bool) {n : ℕ} → t ≡ true → n ≡ (answer_by t m s).number → (n ≡ 20) ↔ (m ≡ false)
is_20 true true true is e = (λ z. absurd (omega arith), λ no. absurd (true≢false no))
is_20 true true false is e = (λ z. absurd (omega arith), λ no. absurd (true≢false no))
is_20 true false s is e = (λ z. refl, λ no. e)
is_20 false m s is e = absurd (true≢false (sym is))

never_20 : (t s : Bool) {n : ℕ} → n ≡ (answer_by t true s).number → n ≡ 20 → ⊥
never_20 true true e z = omega arith
never_20 true false e z = omega arith
never_20 false s e z = omega arith

is_16 : (t m s : Bool) {n : ℕ} → t ≡ true → m ≡ true → n ≡ (answer_by t m s).number → (n ≡ 16) ↔ (s ≡ true)
is_16 true true true is may e = (λ z. refl, λ q. e)
is_16 true true false is may e = (λ z. absurd (omega arith), λ q. absurd (true≢false (sym q)))
is_16 true false s is may e = absurd (true≢false (sym may))
is_16 false m s is may e = absurd (true≢false (sym is))

passed : (t m s : Bool) → 0 ≡ (answer_by t m s).number → (t ≡ true) × (m ≡ true)
passed true true s e = (refl, refl)
passed true false s e = absurd (omega arith)
passed false m s e = absurd (omega arith)

-- ---- which records have nothing recorded

plain_means : (r : ShiftRecord) → (is_plain r.settings ≡ true) ↔ NothingRecorded r
plain_means r =
    let s = r.settings in (
      λ e.
          let a = and_parts (eqb (get_or s 0 0) 0) _ e in
          let b = and_parts (eqb (get_or s 1 0) 255) _ a.1 in
          let c = and_parts (eqb (get_or s 2 0) 255) _ b.1 in
          record {
            sampling = eqb-true (get_or s 0 0) 0 a.0;
            range = eqb-true (get_or s 1 0) 255 b.0;
            matrix = eqb-true (get_or s 2 0) 255 c.0;
            transfer = eqb-true (get_or s 3 0) 255 c.1;
          },
      λ p.
          and_from (eqb (get_or s 0 0) 0) _ (eq-eqb _ _ p.sampling)
          (and_from (eqb (get_or s 1 0) 255) _ (eq-eqb _ _ p.range)
          (and_from (eqb (get_or s 2 0) 255) _ (eq-eqb _ _ p.matrix) (eq-eqb _ _ p.transfer))),
    )

abbrev SomeRecorded : List ShiftRecord → Type 0
SomeRecorded rs = (i : ℕ) × (i < length rs) × (NothingRecorded (nth rs i) → ⊥)

some_recorded : (rs : List ShiftRecord) → are_plain rs ≡ false → SomeRecorded rs
some_recorded [] e = absurd (true≢false e)
some_recorded (r ∷ rs) e = go (is_plain r.settings) refl e (some_recorded rs)
  where
    go : (t : Bool) → is_plain r.settings ≡ t → (t && are_plain rs) ≡ false → (are_plain rs ≡ false → SomeRecorded rs) → SomeRecorded (r ∷ rs)
    go true is e later = let q = later e in (suc q.0, omega (arith, q.1), q.2)
    go false is e later = (0, omega arith, λ p. true≢false (sym ((plain_means r).1 p) ∙ is))

all_plain : (rs : List ShiftRecord) → are_plain rs ≡ true → (i : ℕ) → i < length rs → NothingRecorded (nth rs i)
all_plain [] e i h = absurd (omega arith)
all_plain (r ∷ rs) e zero h = (plain_means r).0 (and_parts (is_plain r.settings) (are_plain rs) e).0
all_plain (r ∷ rs) e (suc i) h = all_plain rs (and_parts (is_plain r.settings) (are_plain rs) e).1 i (omega arith)

not_plain : (rs : List ShiftRecord) → SomeRecorded rs → are_plain rs ≡ false
not_plain rs q = false_from_ne_true (are_plain rs) (λ e. q.2 (all_plain rs e q.0 q.1))

-- ---- what is written

module _ (from : ShiftForm) (file before : List ℕ) (r : Result ℕ NotWritten) (after : List ℕ) (p : MovePost from file before r after) (is : outcome_of r ≡ Ok tt) where
  front : (take (size_of r) after ≡ moved_file from file) × (drop (size_of r) after ≡ drop (size_of r) before)
  front =
      let size : size_of r ≡ length (moved_file from file) = rw is at p.size in
      let made : after ≡ moved_file from file ++ drop (length (moved_file from file)) before = rw is at p.written in
      (rw (made, size) (take_at (moved_file from file) _ _ refl), rw (made, size) (drop_at (moved_file from file) _ _ refl))

  tests : (is_file from file ≡ true) × (may_move from (records_in from file) ≡ true)
  tests =
      passed (is_file from file) (may_move from (records_in from file)) (ltb (length before) (length (moved_file from file)))
      (ap (λ (x : Numbers). x.number) (sym (ap numbers_of is)) ∙ answered_by from file before r after p)

  module _ (rs : List ShiftRecord) (f : IsFileOf from file rs) where
    its_moved : IsFileOf (other_form from) (take (size_of r) after) (moved (other_form from) rs)
    its_moved = rw front.0 (moved_is_file from file rs f (rw (its_records from file rs f) at tests.1))

module _ (from : ShiftForm) (file before : List ℕ) (r : Result ℕ NotWritten) (after : List ℕ) (bytes : Bytes file) (p : MovePost from file before r after)
    (is : outcome_of r ≡ Ok tt) (before₂ : List ℕ) (r₂ : Result ℕ NotWritten) (after₂ : List ℕ)
    (q : MovePost (other_form from) (take (size_of r) after) before₂ r₂ after₂) (room : length file ≤ length before₂) where
  abbrev rs : List ShiftRecord
  rs = records_in from file

  its_file : IsFileOf from file rs
  its_file = (Checked-file from file bytes (tests from file before r after p is).0).file

  there : take (size_of r) after ≡ moved_file from file
  there = (front from file before r after p is).0

  again : moved_file (other_form from) (take (size_of r) after) ≡ file
  again = rw there (there_and_back from file rs its_file (tests from file before r after p is).1)

  finishes : outcome_of r₂ ≡ Ok tt
  finishes =
      let f = its_moved from file before r after p is rs its_file in
      let may : may_move (other_form from) (records_in (other_form from) (take (size_of r) after)) ≡ true = rw (its_records _ _ _ f) (may_return from rs) in
      is_finished (outcome_of r₂)
      (answered_by (other_form from) (take (size_of r) after) before₂ r₂ after₂ q
      ∙ rw (is_checked _ _ _ f, may, again, le-ltb (length before₂) (length file) room))

  returned : (outcome_of r₂ ≡ Ok tt) × (take (size_of r₂) after₂ ≡ file)
  returned = (finishes, (front (other_form from) (take (size_of r) after) before₂ r₂ after₂ q finishes).0 ∙ again)

-- ---- a file of one form is none of the other

none_of_other : (form : ShiftForm) (file : List ℕ) → is_file form file ≡ true → is_file (other_form form) file ≡ false
none_of_other form file e = false_from_ne_true (is_file (other_form form) file) (never form e)
  where
    never : (form : ShiftForm) → is_file form file ≡ true → is_file (other_form form) file ≡ true → ⊥
    never WithoutSettings e f = one_form file f e
    never WithSettings e f = one_form file e f

pub shift_moves : ShiftMoves
shift_moves = record {
  moved_is_file = moved_is_file;
  may_return = may_return;
  there_and_back = there_and_back;
  refused = λ from file before r after bytes p.
      let m = may_move from (records_in from file) in
      let s = ltb (length before) (length (moved_file from file)) in
      by_test (is_file from file) (cond (not m) (numbers 20 0 0) (cond s (numbers 16 0 0) (numbers 0 0 0))) (some_list from file bytes) (later_is_not m s)
      (answered_by from file before r after p);
  recorded = λ file before r after rs f p.
      let q = is_20 (is_file WithSettings file) (are_plain rs) (ltb (length before) (length (moved_file WithSettings file))) (is_checked WithSettings file rs f)
      (rw (its_records WithSettings file rs f) at (answered_by WithSettings file before r after p)) in
      (λ z. some_recorded rs (q.0 z), λ some. q.1 (not_plain rs some));
  none_forward = λ file before r after p.
      never_20 (is_file WithoutSettings file) (ltb (length before) (length (moved_file WithoutSettings file))) (answered_by WithoutSettings file before r after p);
  short = λ from file before r after rs f may p.
      let size = length (moved_file from file) in
      let q = is_16 (is_file from file) (may_move from rs) (ltb (length before) size) (is_checked from file rs f) may
      (rw (its_records from file rs f) at (answered_by from file before r after p)) in
      (λ z. ltb-true (length before) size (q.0 z), λ h. q.1 (lt-ltb (length before) size h));
  moved_there = λ from file before r after rs f p is. (its_moved from file before r after p is rs f, (front from file before r after p is).1);
  moved_back = returned;
  other_reader = λ kind form file rs f first before r after p.
      ap (λ (x : Numbers). x.number) p.answered ∙ rw (none_of_other form file (is_checked form file rs f));
}
