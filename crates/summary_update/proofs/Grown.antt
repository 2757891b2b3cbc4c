-- The entries of a grown file are the old ones grown and the new one, so the new one in its place among the old leaves a summary. Assumes nothing.
use Prim.Native.Nat.{ℕ, ◌+◌, ◌*◌, ◌^◌, ◌<◌}
use mathlib.Core.Path.{◌≡◌, refl, ap, ap₂, ◌∙◌}
use mathlib.Core.Bool.{true}
use mathlib.Core.List.{List, [], ◌∷◌, ◌++◌, map}
use native.Mathlib.Nat.{add-zero, add_assoc}
use native.Mathlib.Omega.{arith}
use borrow.Author.Tests.{ltb-true, eqb-true}
use lib.ListN.{length, drop, length-append}
use Rattle.std.proofs.lemmas.Bool.{and_parts}
use Rattle.little_endian.specs.Number.{Bytes}
use Rattle.merge_sort.specs.Order.{count, All, Permutation, Ordered}
use Rattle.merge_sort.proofs.Permuted.{All-at, count-append, permuted_map, permutation_trans}
use Rattle.merge_sort.proofs.Unique.{permuted_All}
use Rattle.summary_entry.specs.declared.SummaryEntry.{SummaryEntry}
use Rattle.summary_entry.specs.Entry.{entry_in, entries_in, same_entry, no_entry}
use Rattle.summary_entry.specs.Order.{InOrder}
use Rattle.summary_entry.specs.Grown.{grown, place, OffsetsBelow}
use Rattle.summary_entry.proofs.Entry.{same_true, same_itself, length_read, entry_at}
use Rattle.summary_entry.proofs.Order.{grown-Sorted, place-Ordered}
use Rattle.shift_file.specs.declared.ShiftForm.{ShiftForm}
use Rattle.shift_file.specs.File.{ShiftRecord, Allowed, EachAllowed, HasFile, IsFileOf, file_of, bytes_of, record_bytes, records_at}
use Rattle.shift_file.specs.Read.{size_at, record_at, records_in}
use Rattle.shift_file.specs.Check.{record_stands, is_file}
use Rattle.shift_file.proofs.Record.{Stands-true, record_Allowed}
use Rattle.shift_file.proofs.File.{Checked-file, length_file}
use Rattle.shift_summary.specs.Summary.{entry_of, entries_from, entries_of, IsSummary}
use Rattle.shift_summary.specs.Built.{summary_of}
use Rattle.shift_summary.proofs.Built.{built, one_summary}
use Rattle.shift_summary.proofs.Entries.{offsets_below}
use Rattle.summary_check.specs.Check.{is_summary}
use Rattle.summary_check.proofs.Checked.{checked_entries}
use Rattle.summary_update.specs.Update.{is_record, may_grow, grown_records, new_entry, updated, Updates}

-- ---- the entries of a grown file

grown_from : (at : ℕ) (rs : List ShiftRecord) → entries_from (at + 12) rs ≡ map grown (entries_from at rs)
unfolding entries_from
grown_from at [] = refl
grown_from at (r ∷ rs) =
    let next : at + 12 + length (bytes_of r) ≡ at + length (bytes_of r) + 12 = omega arith in
    rw (next, grown_from (at + length (bytes_of r)) rs)

entries_append : (at : ℕ) (rs : List ShiftRecord) (r : ShiftRecord)
    → entries_from at (rs ++ r ∷ []) ≡ entries_from at rs ++ entry_of (at + length (record_bytes rs)) r ∷ []
unfolding entries_from record_bytes
entries_append at [] r = rw add-zero
entries_append at (s ∷ rs) r = rw (entries_append (at + length (bytes_of s)) rs r, length-append, ← add_assoc)

grown_entries : (form : ShiftForm) (rs : List ShiftRecord) (r : ShiftRecord)
    → entries_of form (rs ++ r ∷ []) ≡ map grown (entries_of form rs) ++ entry_of (length (file_of form rs) + 12) r ∷ []
grown_entries form rs r =
    let many : length (rs ++ r ∷ []) ≡ length rs + 1 = length-append rs (r ∷ []) in
    let first : records_at form (length (rs ++ r ∷ [])) ≡ records_at form (length rs) + 12 = omega arith in
    let last : records_at form (length rs) + 12 + length (record_bytes rs) ≡ length (file_of form rs) + 12 = omega (arith, length_file form rs) in
    ap (λ (at : ℕ). entries_from at (rs ++ r ∷ [])) first ∙ entries_append (records_at form (length rs) + 12) rs r
    ∙ ap₂ (λ (es : List SummaryEntry) (at : ℕ). es ++ entry_of at r ∷ []) (grown_from (records_at form (length rs)) rs) last

-- the last of a list, put first
last_first : (a b : List SummaryEntry) (x : SummaryEntry) → Permutation a b → Permutation (a ++ x ∷ []) (x ∷ b)
unfolding count
last_first a b x s = record { same = λ p. omega (arith, count-append p a (x ∷ []), s.same p) }

-- ---- a file that may grow

each_append : (form : ShiftForm) (rs : List ShiftRecord) (r : ShiftRecord) → EachAllowed form rs → Allowed form r → EachAllowed form (rs ++ r ∷ [])
each_append form [] r a b = (b, tt)
each_append form (s ∷ rs) r a b = (a.0, each_append form rs r a.1 b)

pub record MayGrow (form : ShiftForm) (file r : List ℕ) : Type 0 where
  pub is_file_lem : is_file form file ≡ true
  pub stands : record_stands form r ≡ true
  pub whole : size_at form r ≡ length r
  pub few : length (records_in form file) < 4096

pub may_grow_lem : (form : ShiftForm) (file r : List ℕ) → may_grow form file r ≡ true → MayGrow form file r
unfolding may_grow is_record
may_grow_lem form file r e =
    let p = and_parts (is_file form file) _ e in
    let q = and_parts (is_record form r) _ p.1 in
    let t = and_parts (record_stands form r) _ q.0 in
    record { is_file_lem = p.0; stands = t.0; whole = eqb-true _ _ t.1; few = ltb-true _ _ q.1 }

module _ (form : ShiftForm) (file r : List ℕ) (bf : Bytes file) (br : Bytes r) (e : may_grow form file r ≡ true) where
  known : MayGrow form file r
  known = may_grow_lem form file r e

  its_file : IsFileOf form file (records_in form file)
  its_file = (Checked-file form file bf known.is_file_lem).file

  pub new_Allowed : Allowed form (record_at form r)
  new_Allowed = record_Allowed form r br (Stands-true form r known.stands)

  pub grows : HasFile form (grown_records form file r)
  grows = record {
    few = rw length-append (omega (arith, known.few));
    each = each_append form (records_in form file) (record_at form r) its_file.has.each new_Allowed;
  }

  pub entries_grown : entries_of form (grown_records form file r) ≡ map grown (entries_of form (records_in form file)) ++ new_entry form file r ∷ []
  entries_grown =
      grown_entries form (records_in form file) (record_at form r)
      ∙ ap (λ (b : List ℕ). map grown (entries_of form (records_in form file)) ++ entry_of (length b + 12) (record_at form r) ∷ []) its_file.same

  -- ---- and a summary of it

  module _ (s : List ℕ) (c : is_summary form (records_in form file) s ≡ true) where
    old_entries : Ordered InOrder (entries_of form (records_in form file)) (entries_in (length (records_in form file)) s)
    old_entries = (checked_entries form (records_in form file) s its_file.has c).1

    pub offsets_short : OffsetsBelow (2 ^ 63) (length (records_in form file)) s
    offsets_short = record { below = below }
      where
        n : ℕ
        n = length (records_in form file)

        all : All (λ x. x.offset < 2 ^ 50) (entries_in n s)
        all = permuted_All same_entry same_true same_itself (λ x. x.offset < 2 ^ 50) old_entries.permuted (offsets_below form (records_in form file) its_file.has)

        below : (i : ℕ) → i < n → (entry_in (drop (13 * i) s)).offset < 2 ^ 63
        below i h =
            let one = All-at (λ x. x.offset < 2 ^ 50) no_entry (entries_in n s) i all (omega (arith, length_read n s)) in
            omega (arith, ap (λ (x : SummaryEntry). x.offset) (entry_at n i s h))

    pub new_Ordered : Ordered InOrder (entries_of form (grown_records form file r)) (place (new_entry form file r) (map grown (entries_in (length (records_in form file)) s)))
    new_Ordered =
        let es = entries_in (length (records_in form file)) s in
        let placed = place-Ordered (new_entry form file r) (map grown es) (grown-Sorted es old_entries.sorted) in
        let moved = permuted_map grown old_entries.permuted in
        record {
          sorted = placed.sorted;
          permuted = rw entries_grown (permutation_trans (last_first _ _ (new_entry form file r) moved) placed.permuted);
        }

    pub new_summary : IsSummary form (grown_records form file r) (updated form file r s)
    new_summary = record { entries = _; ordered = new_Ordered; same = refl }

    pub new_fresh : updated form file r s ≡ summary_of form (grown_records form file r)
    new_fresh = one_summary form (grown_records form file r) _ _ grows new_summary (built form (grown_records form file r) grows)

pub updates : Updates
updates = record {
  grows = grows;
  summary = λ form file r s bf br e c. new_summary form file r bf br e s c;
  fresh = λ form file r s bf br e c. new_fresh form file r bf br e s c;
}
