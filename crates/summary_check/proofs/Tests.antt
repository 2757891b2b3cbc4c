-- The test: what it shows, and how a loop takes it: the test from here on is the test from the start. Assumes nothing.
use Prim.Native.Nat.{ℕ, ◌+◌, ◌*◌, ◌%◌, ◌≤◌, ◌<◌}
use mathlib.Core.Path.{◌≡◌, refl, ap, ap₂, ◌∙◌}
use mathlib.Core.Bool.{Bool, true, false, ◌&&◌, and-eq-true_iff}
use mathlib.Core.List.{List, [], ◌∷◌, map}
use native.Mathlib.Numerals.{add-one}
use native.Mathlib.Omega.{arith}
use borrow.Author.Tests.{le-leb, lt-leb}
use lib.ListN.{length, get_or, drop, drop_of_length-le, length-map}
use lib.Seq.{drop-cons}
use Rattle.merge_sort.specs.Ascending.{by_keys}
use Rattle.summary_entry.specs.declared.SummaryEntry.{SummaryEntry}
use Rattle.summary_entry.specs.Entry.{entries_in, same_entry, no_entry}
use Rattle.summary_entry.proofs.Entry.{same_true, same_itself}
use Rattle.shift_file.specs.declared.ShiftForm.{ShiftForm}
use Rattle.shift_file.specs.File.{ShiftRecord}
use Rattle.crossing_keys.specs.declared.key.Key.{Key}
use Rattle.crossing_keys.specs.Keys.{number_of}
use Rattle.crossing_keys.proofs.Keyed.{its_number}
use Rattle.summary_check.specs.Check.{same_entries, are_entries, is_summary}

-- ---- entries of the file

pub entries_same : (l m : List SummaryEntry) → same_entries l m ≡ true → l ≡ m
unfolding same_entries
entries_same [] [] h = refl
entries_same [] (b ∷ m) h = absurd (cc h)
entries_same (a ∷ l) [] h = absurd (cc h)
entries_same (a ∷ l) (b ∷ m) h =
    let p = (and-eq-true_iff (same_entry a b) _).0 h in
    ap₂ {C = List SummaryEntry} (λ (x : SummaryEntry) (r : List SummaryEntry). x ∷ r) (same_true a b p.0) (entries_same l m p.1)

pub entries_itself : (l : List SummaryEntry) → same_entries l l ≡ true
unfolding same_entries
entries_itself [] = refl
entries_itself (a ∷ l) = (and-eq-true_iff (same_entry a a) _).1 (same_itself a, entries_itself l)

module _ (keys : List Key) (es fs : List SummaryEntry) (i : ℕ) where
  abbrev names : List ℕ
  names = map number_of keys

  -- the test from place i on
  abbrev pub same_from : Bool
  same_from = same_entries (drop i es) (by_keys no_entry (drop i names) fs)

  pub same_step : (d : Key) → i < length keys → i < length es
      → same_from ≡ (same_entry (get_or es i no_entry) (get_or fs ((get_or keys i d).0 % 4096) no_entry) && same_entries (drop (i + 1) es) (by_keys no_entry (drop (i + 1) names) fs))
  unfolding same_entries
  same_step d h m = rw (drop-cons names i 0 (omega (arith, length-map keys number_of, h)), drop-cons es i no_entry m, add-one, its_number keys i d h)

  pub same_done : length keys ≤ i → length es ≤ i → same_from ≡ true
  unfolding same_entries
  same_done h k = rw (drop_of_length-le names {i = i} (omega (arith, length-map keys number_of)), drop_of_length-le es k)

-- ---- the tests as they are told

module _ (form : ShiftForm) (rs : List ShiftRecord) (s : List ℕ) where
  pub summary_told : (r : Bool) (n : ℕ) → n ≡ length rs → 13 * n ≤ length s → r ≡ are_entries form rs (entries_in n s) → r ≡ is_summary form rs s
  unfolding is_summary
  summary_told r n many long same =
      rw (le-leb (13 * length rs) (length s) (rw many at long)) (same ∙ ap (λ (m : ℕ). are_entries form rs (entries_in m s)) many)

  pub short_told : length s < 13 * length rs → false ≡ is_summary form rs s
  unfolding is_summary
  short_told h = rw (lt-leb (13 * length rs) (length s) h)
