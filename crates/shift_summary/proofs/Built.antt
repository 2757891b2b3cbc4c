-- What is built is a summary: sorted keys name the entries by crossing, equal ones by their place, with which offsets rise. And there is no other, for
-- no offset stands twice. Assumes nothing.
use Prim.Native.Nat.{ℕ, ◌*◌, ◌≤◌, ◌<◌}
use mathlib.Core.Path.{◌≡◌, refl, sym, ap, ◌∙◌}
use mathlib.Core.List.{List}
use native.Mathlib.Nat.{le_of_lt}
use native.Mathlib.Omega.{arith}
use lib.ListN.{length, get_or}
use Rattle.merge_sort.specs.Order.{Sorted, Ordered}
use Rattle.merge_sort.specs.Ascending.{key}
use Rattle.merge_sort.proofs.Permuted.{Sorted-at, permuted_length, permutation_sym, permutation_trans}
use Rattle.merge_sort.proofs.Unique.{Sorted-unique, Once-permuted, rising_Once, Once-strict}
use Rattle.merge_sort.proofs.Keys.{ascending-Ordered}
use Rattle.summary_entry.specs.declared.SummaryEntry.{SummaryEntry}
use Rattle.summary_entry.specs.Entry.{entries_bytes, same_entry, no_entry}
use Rattle.summary_entry.specs.Order.{InOrder}
use Rattle.summary_entry.proofs.Entry.{same_true, same_itself, length_entries as length_bytes}
use Rattle.summary_entry.proofs.Order.{order_true, order_is}
use Rattle.shift_file.specs.declared.ShiftForm.{ShiftForm}
use Rattle.shift_file.specs.File.{ShiftRecord, HasFile, records_at}
use Rattle.shift_summary.specs.Summary.{entries_of, OneSummary}
use Rattle.shift_summary.specs.Built.{crossing_of, in_order, summary_of, Built}
use Rattle.shift_summary.proofs.Entries.{length_entries, offsets_rise}

-- two entries of one file: by crossing, then by offset, which differ
abbrev Strict : SummaryEntry → SummaryEntry → Type 0
Strict a b = (a.crossing ≤ b.crossing) × (a.crossing ≡ b.crossing → a.offset < b.offset)

stricter : (a b : SummaryEntry) → InOrder a b → (a.offset ≡ b.offset → ⊥) → Strict a b
stricter a b h n = let f = order_true a b h in (f.crossing, λ same. let most = f.offset same in omega arith)

never_both : (a b : SummaryEntry) → Strict a b → Strict b a → a ≡ b
never_both a b p q =
    let same : a.crossing ≡ b.crossing = omega (arith, p.0, q.0) in
    absurd (omega (arith, p.1 same, q.1 (sym same)))

module _ (form : ShiftForm) (rs : List ShiftRecord) (h : HasFile form rs) where
  pub entries_few : length (entries_of form rs) ≤ 4096
  entries_few = omega (arith, h.few, length_entries (records_at form (length rs)) rs)

  keys_tell : (i j : ℕ) → i < length (entries_of form rs) → j < length (entries_of form rs)
      → key (get_or (entries_of form rs) i no_entry).crossing i < key (get_or (entries_of form rs) j no_entry).crossing j
      → InOrder (get_or (entries_of form rs) i no_entry) (get_or (entries_of form rs) j no_entry)
  keys_tell i j p q less =
      let few = entries_few in
      let rise = (offsets_rise form (records_at form (length rs)) rs h.each).1 in
      order_is (get_or (entries_of form rs) i no_entry) (get_or (entries_of form rs) j no_entry) (record {
        crossing = omega arith;
        offset = λ same. le_of_lt (Sorted-at (λ d e. d.offset < e.offset) no_entry (entries_of form rs) i j rise (omega arith) q);
      })

  pub in_order_lem : Ordered InOrder (entries_of form rs) (in_order form rs)
  in_order_lem = ascending-Ordered no_entry crossing_of (entries_of form rs) entries_few InOrder keys_tell

  pub built_length : length (summary_of form rs) ≡ 13 * length rs
  built_length =
      omega (
        arith,
        length_bytes (in_order form rs),
        permuted_length in_order_lem.permuted,
        length_entries (records_at form (length rs)) rs,
      )

  -- no offset stands twice, so the order is strict, and the entries have one
  strict : (es : List SummaryEntry) → Ordered InOrder (entries_of form rs) es → Sorted Strict es
  strict es o =
      let rise = (offsets_rise form (records_at form (length rs)) rs h.each).1 in
      let once = Once-permuted (λ e. e.offset) o.permuted (rising_Once (λ e. e.offset) (entries_of form rs) rise) in
      Once-strict (λ e. e.offset) InOrder Strict stricter es once o.sorted

  pub one_order : (a b : List SummaryEntry) → Ordered InOrder (entries_of form rs) a → Ordered InOrder (entries_of form rs) b → a ≡ b
  one_order a b o q =
      Sorted-unique same_entry same_true same_itself Strict never_both a b (strict a o) (strict b q) (permutation_trans (permutation_sym o.permuted) q.permuted)

pub built : Built
built form rs h = record { entries = in_order form rs; ordered = in_order_lem form rs h; same = refl }

pub one_summary : OneSummary
one_summary form rs a b h i j = sym i.same ∙ ap entries_bytes (one_order form rs h i.entries j.entries i.ordered j.ordered) ∙ j.same
