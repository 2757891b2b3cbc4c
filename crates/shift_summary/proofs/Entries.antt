-- The entries of a file: entry k is that of record k; the numbers of each have room; the offsets rise. By induction on the records. Assumes nothing.
use Prim.Native.Nat.{ℕ, zero, suc, ◌+◌, ◌*◌, ◌/◌, ◌^◌, ◌≤◌, ◌<◌}
use mathlib.Core.Path.{◌≡◌, refl, ap, sym, ◌∙◌}
use mathlib.Core.List.{List, [], ◌∷◌, map}
use native.Mathlib.Nat.{add-zero, add_assoc, div-lt_iff_lt-mul, mul-le-mul}
use native.Mathlib.Omega.{arith}
use lib.ListN.{length, get_or, take, length-append}
use Rattle.little_endian.specs.Number.{Bytes}
use Rattle.merge_sort.specs.Order.{All, Sorted}
use Rattle.merge_sort.proofs.Permuted.{all_map, all_both}
use Rattle.luma_mean.specs.Mean.{sum}
use Rattle.summary_entry.specs.declared.SummaryEntry.{SummaryEntry}
use Rattle.summary_entry.specs.Entry.{no_entry}
use Rattle.summary_entry.proofs.Entry.{Fits}
use Rattle.shift_file.specs.declared.ShiftForm.{ShiftForm}
use Rattle.shift_file.specs.declared.ShiftForm.TheVariants.{WithoutSettings, WithSettings}
use Rattle.shift_file.specs.File.{ShiftRecord, Allowed, EachAllowed, HasFile, bytes_of, record_bytes, records_at}
use Rattle.shift_file.proofs.Record.{side_bounds, size_most, length_bytes}
use Rattle.shift_reader.specs.Entry.{nth, offset_of}
use Rattle.crossing_keys.specs.Keys.{crossings_of}
use Rattle.shift_summary.specs.Summary.{mean_of, entry_of, entries_from, entries_of}
use Rattle.shift_summary.specs.Built.{crossing_of}

pub length_entries : (at : ℕ) (rs : List ShiftRecord) → length (entries_from at rs) ≡ length rs
unfolding entries_from
length_entries at [] = refl
length_entries at (r ∷ rs) = ap suc (length_entries (at + length (bytes_of r)) rs)

pub entry_is : (at k : ℕ) (rs : List ShiftRecord) → k < length rs
    → get_or (entries_from at rs) k no_entry ≡ entry_of (at + length (record_bytes (take k rs))) (nth rs k)
unfolding entries_from record_bytes
entry_is at k [] h = absurd (omega arith)
entry_is at zero (r ∷ rs) h = rw add-zero
entry_is at (suc k) (r ∷ rs) h = rw (length-append, ← add_assoc) (entry_is (at + length (bytes_of r)) k rs (omega arith))

pub crossings_from : (at : ℕ) (rs : List ShiftRecord) → map crossing_of (entries_from at rs) ≡ crossings_of rs
unfolding entries_from
crossings_from at [] = refl
crossings_from at (r ∷ rs) = ap (λ (cs : List ℕ). r.crossing ∷ cs) (crossings_from (at + length (bytes_of r)) rs)

-- ---- their numbers have room

sum_most : (l : List ℕ) → Bytes l → sum l ≤ 255 * length l
unfolding sum
sum_most [] b = omega arith
sum_most (x ∷ l) b = omega (arith, b 0, sum_most l (λ i. b (suc i)))

module _ (form : ShiftForm) (r : ShiftRecord) (a : Allowed form r) where
  pub some_luma : 1 ≤ r.width * r.height
  some_luma = mul-le-mul (side_bounds r.width a.width).0 (side_bounds r.height a.height).0

  pub most_luma : r.width * r.height ≤ 16384 * 16384
  most_luma = mul-le-mul (side_bounds r.width a.width).1 (side_bounds r.height a.height).1

  mean_most : mean_of r < 256
  mean_most =
      (div-lt_iff_lt-mul {k = r.width * r.height} {x = sum r.y} {y = 256} some_luma).1
      (omega (arith, some_luma, a.y_size, sum_most r.y a.y_bytes))

  size_positive : 1 ≤ length (bytes_of r)
  size_positive = omega (arith, length_bytes form r a)

-- a file is far below 2 ^ 52 bytes long
entries_below : (form : ShiftForm) (at : ℕ) (rs : List ShiftRecord) → EachAllowed form rs
    → All (λ e. e.offset ≤ at + 2 ^ 30 * length rs) (entries_from at rs)
unfolding entries_from All
entries_below form at [] a = tt
entries_below form at (r ∷ rs) a =
    let most = size_most form r a.0 in
    let next = at + length (bytes_of r) in
    (omega arith, all_map (entries_from next rs) (λ e h. omega arith) (entries_below form next rs a.1))

first_most : (form : ShiftForm) (n : ℕ) → records_at form n ≤ 8 + 12 * n
first_most WithoutSettings n = omega arith
first_most WithSettings n = omega arith

pub offsets_below : (form : ShiftForm) (rs : List ShiftRecord) → HasFile form rs → All (λ e. e.offset < 2 ^ 50) (entries_of form rs)
offsets_below form rs h =
    let few = h.few in
    let first = first_most form (length rs) in
    all_map (entries_of form rs) (λ e k. omega arith) (entries_below form (records_at form (length rs)) rs h.each)

others_fit : (form : ShiftForm) (at : ℕ) (rs : List ShiftRecord) → EachAllowed form rs
    → All (λ e. (e.crossing < 256 ^ 4) × (e.mean < 256 ^ 1)) (entries_from at rs)
unfolding entries_from All
others_fit form at [] a = tt
others_fit form at (r ∷ rs) a = ((a.0.crossing, mean_most form r a.0), others_fit form (at + length (bytes_of r)) rs a.1)

pub entries_fit : (form : ShiftForm) (rs : List ShiftRecord) → HasFile form rs → All Fits (entries_of form rs)
entries_fit form rs h = all_both _ _ Fits (entries_of form rs) (λ e p q. record { crossing = p.0; offset = omega arith; mean = p.1 })
    (others_fit form (records_at form (length rs)) rs h.each) (offsets_below form rs h)

-- ---- offsets rise

pub offsets_rise : (form : ShiftForm) (at : ℕ) (rs : List ShiftRecord) → EachAllowed form rs
    → All (λ e. at ≤ e.offset) (entries_from at rs) × Sorted (λ d e. d.offset < e.offset) (entries_from at rs)
unfolding entries_from All Sorted
offsets_rise form at [] a = (tt, tt)
offsets_rise form at (r ∷ rs) a =
    let next = at + length (bytes_of r) in
    let later = offsets_rise form next rs a.1 in
    let some = size_positive form r a.0 in
    let es = entries_from next rs in
    ((omega arith, all_map es (λ e h. omega arith) later.0), (all_map es (λ e h. omega arith) later.0, later.1))

-- ---- an entry as it is told

module _ (form : ShiftForm) (rs : List ShiftRecord) (k : ℕ) (below : k < length rs) (a : Allowed form (nth rs k)) where
  pub luma_bounds : (y : List ℕ) → y ≡ (nth rs k).y → (1 ≤ length y) × (length y ≤ 16384 * 16384)
  luma_bounds y e = rw (e, a.y_size) (some_luma form (nth rs k) a, most_luma form (nth rs k) a)

  pub entry_told : (c o m : ℕ) (y : List ℕ) → c ≡ (nth rs k).crossing → o ≡ offset_of form rs k → y ≡ (nth rs k).y → m ≡ sum y / length y
      → ◌≡◌ {A = SummaryEntry} (record { crossing = c; offset = o; mean = m }) (get_or (entries_of form rs) k no_entry)
  entry_told c o m y ec eo ey em =
      let mean : m ≡ mean_of (nth rs k) = em ∙ rw (ey, a.y_size) in
      (λ i. record { crossing = ec i; offset = eo i; mean = mean i }) ∙ sym (entry_is (records_at form (length rs)) k rs below)
