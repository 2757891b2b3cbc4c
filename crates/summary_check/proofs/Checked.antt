-- The check says yes exactly where the bytes are a summary: it compares with the one that there is. Assumes nothing.
use Prim.Native.Nat.{ℕ, ◌*◌, ◌≤◌}
use mathlib.Core.Path.{◌≡◌, ap, sym, ◌∙◌}
use mathlib.Core.Bool.{true, and-eq-true_iff}
use mathlib.Core.List.{List, ◌++◌}
use borrow.Author.Tests.{leb-true, le-leb}
use lib.Dec.{leb}
use lib.ListN.{length, take, drop, take-append-drop}
use lib.Seq.{take_at}
use Rattle.little_endian.specs.Number.{Bytes}
use Rattle.merge_sort.specs.Order.{Ordered}
use Rattle.merge_sort.proofs.Permuted.{permuted_length}
use Rattle.merge_sort.proofs.Unique.{permuted_All}
use Rattle.summary_entry.specs.Entry.{entries_bytes, entries_in, same_entry}
use Rattle.summary_entry.specs.Order.{InOrder}
use Rattle.summary_entry.proofs.Entry.{Fits, same_true, same_itself, length_read, length_entries, entries_back, entries_again}
use Rattle.shift_file.specs.declared.ShiftForm.{ShiftForm}
use Rattle.shift_file.specs.File.{ShiftRecord, HasFile, records_at}
use Rattle.shift_summary.specs.Summary.{entries_of, IsSummary}
use Rattle.shift_summary.specs.Built.{in_order}
use Rattle.shift_summary.proofs.Entries.{length_entries as length_file, entries_fit}
use Rattle.shift_summary.proofs.Built.{in_order_lem, one_order}
use Rattle.summary_check.specs.Check.{is_summary, Checked}
use Rattle.summary_check.proofs.Tests.{entries_same, entries_itself}

pub checked_entries : (form : ShiftForm) (rs : List ShiftRecord) (s : List ℕ) → HasFile form rs → is_summary form rs s ≡ true
    → (13 * length rs ≤ length s) × Ordered InOrder (entries_of form rs) (entries_in (length rs) s)
unfolding is_summary
checked_entries form rs s h e =
    let p = (and-eq-true_iff (leb (13 * length rs) (length s)) _).0 e in
    (leb-true _ _ p.0, rw (entries_same (entries_in (length rs) s) (in_order form rs) p.1) (in_order_lem form rs h))

module _ (form : ShiftForm) (rs : List ShiftRecord) (s : List ℕ) (h : HasFile form rs) (b : Bytes s) where
  yes : is_summary form rs s ≡ true → (13 * length rs ≤ length s) × IsSummary form rs (take (13 * length rs) s)
  yes e =
      let p = checked_entries form rs s h e in
      let es = entries_in (length rs) s in
      let n = 13 * length rs in
      let bytes : entries_bytes es ≡ take n s =
      sym (take_at (entries_bytes es) (drop n s) n (length_entries es ∙ ap (λ (m : ℕ). 13 * m) (length_read (length rs) s)))
      ∙ ap (take n) (entries_again (length rs) s b p.0) in
      (p.0, record { entries = es; ordered = p.1; same = bytes })

  is : 13 * length rs ≤ length s → IsSummary form rs (take (13 * length rs) s) → is_summary form rs s ≡ true
  unfolding is_summary
  is long i =
      let es = i.entries in
      let p = i.ordered.permuted in
      let fit = permuted_All same_entry same_true same_itself Fits p (entries_fit form rs h) in
      let count : length es ≡ length rs = sym (permuted_length p) ∙ length_file (records_at form (length rs)) rs in
      let whole : entries_bytes es ++ drop (13 * length rs) s ≡ s = rw i.same (take-append-drop (13 * length rs) s) in
      let read : entries_in (length rs) s ≡ es =
      ap (entries_in (length rs)) (sym whole)
      ∙ ap (λ (n : ℕ). entries_in n (entries_bytes es ++ drop (13 * length rs) s)) (sym count) ∙ entries_back es _ fit in
      rw (le-leb (13 * length rs) (length s) long, read, one_order form rs h es (in_order form rs) i.ordered (in_order_lem form rs h))
      (entries_itself (in_order form rs))

pub checked : Checked
checked form rs s h b = (yes form rs s h b, λ i. is form rs s h b i.0 i.1)
