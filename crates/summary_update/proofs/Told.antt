-- How long an updated summary is, and a record's luma plane and entry, as code tells them. Assumes nothing.
use Prim.Native.Nat.{ℕ, ◌+◌, ◌*◌, ◌/◌, ◌≤◌}
use mathlib.Core.Path.{◌≡◌, refl, ◌∙◌}
use mathlib.Core.Bool.{true}
use mathlib.Core.List.{List, map}
use native.Mathlib.Omega.{arith}
use lib.ListN.{length, take, drop, length-map}
use Rattle.little_endian.specs.Number.{number_in}
use Rattle.luma_mean.specs.Mean.{sum}
use Rattle.summary_entry.specs.declared.SummaryEntry.{SummaryEntry}
use Rattle.summary_entry.specs.Entry.{entries_in}
use Rattle.summary_entry.specs.Grown.{grown, place}
use Rattle.summary_entry.proofs.Entry.{length_entries, length_read}
use Rattle.summary_entry.proofs.Order.{length-place}
use Rattle.shift_file.specs.declared.ShiftForm.{ShiftForm}
use Rattle.shift_file.specs.File.{Allowed, header_size}
use Rattle.shift_file.specs.Read.{luma_at, size_at, record_at, records_in}
use Rattle.shift_file.specs.Check.{record_stands}
use Rattle.shift_file.proofs.Record.{Stands-true}
use Rattle.shift_summary.specs.Summary.{mean_of, entry_of}
use Rattle.shift_summary.proofs.Entries.{some_luma, most_luma}
use Rattle.summary_update.specs.Update.{new_entry, updated}

-- ---- what is written

pub length-updated : (form : ShiftForm) (file added s : List ℕ) → length (updated form file added s) ≡ 13 * (length (records_in form file) + 1)
length-updated form file added s =
    let n = length (records_in form file) in
    let es = map grown (entries_in n s) in
    omega (
      arith,
      length_entries (place (new_entry form file added) es),
      length-place (new_entry form file added) es,
      length-map (entries_in n s) grown,
      length_read n s,
    )

-- ---- the new record

module _ (form : ShiftForm) (l : List ℕ) (h : record_stands form l ≡ true) where
  pub luma_inside : header_size form + luma_at l ≤ length l
  unfolding size_at
  luma_inside = omega (arith, (Stands-true form l h).whole)

  pub luma_there : (n : ℕ) → n ≡ luma_at l → take n (drop (header_size form) l) ≡ (record_at form l).y
  unfolding record_at
  luma_there n e = rw e

  crossing_there : number_in 4 l ≡ (record_at form l).crossing
  unfolding record_at
  crossing_there = refl

  module _ (a : Allowed form (record_at form l)) (y : List ℕ) (e : y ≡ (record_at form l).y) where
    pub luma_bounds : (1 ≤ length y) × (length y ≤ 16384 * 16384)
    luma_bounds = rw (e, a.y_size) (some_luma form (record_at form l) a, most_luma form (record_at form l) a)

    pub entry_told : (at c m : ℕ) → c ≡ number_in 4 l → m ≡ sum y / length y
        → ◌≡◌ {A = SummaryEntry} (record { crossing = c; offset = at; mean = m }) (entry_of at (record_at form l))
    entry_told at c m ec em =
        let crossing : c ≡ (record_at form l).crossing = ec ∙ crossing_there in
        let mean : m ≡ mean_of (record_at form l) = em ∙ rw (e, a.y_size) in
        λ i. record { crossing = crossing i; offset = at; mean = mean i }
