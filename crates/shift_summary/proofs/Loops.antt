-- Loops over keys and entries. What is left to write, written into the output as it is now, is all of it written into the output as it was.
-- Assumes nothing.
use Prim.Native.Nat.{ℕ, suc, ◌+◌, ◌*◌, ◌%◌, ◌≤◌, ◌<◌}
use mathlib.Core.Path.{◌≡◌, ap, sym, ◌∙◌}
use mathlib.Core.List.{List, map}
use native.Mathlib.Numerals.{add-one}
use native.Mathlib.Omega.{arith}
use lib.ListN.{length, get_or, drop, drop_of_length-le, length-map}
use lib.Seq.{sets, drop-cons}
use Rattle.little_endian.proofs.Stores.{sets-append}
use Rattle.merge_sort.specs.Ascending.{sorted, keys_from, by_keys}
use Rattle.summary_entry.specs.declared.SummaryEntry.{SummaryEntry}
use Rattle.summary_entry.specs.Entry.{entry_bytes, entries_bytes, no_entry}
use Rattle.summary_entry.proofs.Entry.{length_entry}
use Rattle.shift_file.specs.declared.ShiftForm.{ShiftForm}
use Rattle.shift_file.specs.File.{ShiftRecord, records_at}
use Rattle.crossing_keys.specs.declared.key.Key.{Key}
use Rattle.crossing_keys.specs.Keys.{crossings_of, number_of}
use Rattle.crossing_keys.proofs.Keyed.{its_number}
use Rattle.shift_summary.specs.Summary.{entries_of}
use Rattle.shift_summary.specs.Built.{crossing_of, in_order}
use Rattle.shift_summary.proofs.Entries.{crossings_from}

-- ---- the keys of a file

-- they are those of its entries
pub keys_of_entries : (form : ShiftForm) (rs : List ShiftRecord) → sorted (keys_from 0 (crossings_of rs)) ≡ sorted (keys_from 0 (map crossing_of (entries_of form rs)))
keys_of_entries form rs = ap (λ (cs : List ℕ). sorted (keys_from 0 cs)) (sym (crossings_from (records_at form (length rs)) rs))

-- and name them in order
pub ordered_entries : (form : ShiftForm) (rs : List ShiftRecord) (keys : List Key) → map number_of keys ≡ sorted (keys_from 0 (crossings_of rs))
    → by_keys no_entry (map number_of keys) (entries_of form rs) ≡ in_order form rs
ordered_entries form rs keys e = ap (λ (names : List ℕ). by_keys no_entry names (entries_of form rs)) (e ∙ keys_of_entries form rs)

-- ---- the entries that keys name

module _ (es : List SummaryEntry) (keys : List Key) where
  abbrev names : List ℕ
  names = map number_of keys

  pub entry_more : (s s' : List ℕ) (i : ℕ) (d : Key) (e : SummaryEntry) → i < length keys → e ≡ get_or es ((get_or keys i d).0 % 4096) no_entry
      → s' ≡ sets s (13 * i) (entry_bytes e)
      → sets s' (13 * (i + 1)) (entries_bytes (by_keys no_entry (drop (i + 1) names) es)) ≡ sets s (13 * i) (entries_bytes (by_keys no_entry (drop i names) es))
  unfolding entries_bytes
  entry_more s s' i d e h ee es' =
      let past : 13 * (i + 1) ≡ 13 * i + 13 = omega arith in
      let named : e ≡ get_or es (get_or names i 0 % 4096) no_entry = ee ∙ ap (λ (n : ℕ). get_or es (n % 4096) no_entry) (sym (its_number keys i d h)) in
      let rest = entries_bytes (by_keys no_entry (drop (suc i) names) es) in
      rw (past, add-one, drop-cons names i 0 (omega (arith, length-map keys number_of, h)), es', ← named)
      (ap (λ (n : ℕ). sets (sets s (13 * i) (entry_bytes e)) (13 * i + n) rest) (sym (length_entry e)) ∙ sym (sets-append (entry_bytes e) rest s (13 * i)))

  pub entries_done : (s : List ℕ) (i : ℕ) → length keys ≤ i → sets s (13 * i) (entries_bytes (by_keys no_entry (drop i names) es)) ≡ s
  unfolding entries_bytes
  entries_done s i h = rw (drop_of_length-le names {i = i} (omega (arith, length-map keys number_of)))
