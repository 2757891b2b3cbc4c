-- Records one after the other: what is left to look at, to tell and to put. Assumes nothing.
use Prim.Native.Nat.{ℕ, ◌+◌, ◌≤◌, ◌<◌}
use mathlib.Core.Path.{◌≡◌, sym}
use mathlib.Core.Bool.{true, ◌&&◌}
use mathlib.Core.List.{List, ◌∷◌, ◌++◌, append_assoc}
use native.Mathlib.Numerals.{add-one}
use lib.ListN.{length, drop, length-append}
use lib.Seq.{sets, drop-cons}
use Rattle.std.proofs.lemmas.List.{drop_all}
use Rattle.little_endian.specs.Number.{low_bytes}
use Rattle.little_endian.proofs.Number.{length_low}
use Rattle.little_endian.proofs.Stores.{sets-append}
use Rattle.shift_file.specs.declared.ShiftForm.{ShiftForm}
use Rattle.shift_file.specs.declared.ShiftForm.TheVariants.{WithoutSettings, WithSettings}
use Rattle.shift_file.specs.File.{ShiftRecord, settings_told, bytes_of, pairs_of, record_bytes}
use Rattle.shift_reader.specs.Entry.{no_record, nth}
use Rattle.shift_move.specs.Move.{is_plain, are_plain, may_move, moved_record, moved}

-- by the form
pub told_with : (form : ShiftForm) → form ≡ WithSettings → (settings : List ℕ) → settings_told form settings ≡ settings
told_with form e settings = rw e

pub may_with : (form : ShiftForm) → form ≡ WithSettings → (rs : List ShiftRecord) → may_move form rs ≡ are_plain rs
may_with form e rs = rw e

pub may_without : (form : ShiftForm) → form ≡ WithoutSettings → (rs : List ShiftRecord) → may_move form rs ≡ true
may_without form e rs = rw e

module _ (rs : List ShiftRecord) (k : ℕ) where
  next : k < length rs → drop k rs ≡ nth rs k ∷ drop (k + 1) rs
  next h = rw add-one (drop-cons rs k no_record h)

  -- looking at them
  pub plain_next : k < length rs → are_plain (drop k rs) ≡ (is_plain (nth rs k).settings && are_plain (drop (k + 1) rs))
  plain_next h = rw (next h)

  pub plain_last : length rs ≤ k → are_plain (drop k rs) ≡ true
  plain_last h = rw (drop_all k rs h)

  module _ (to : ShiftForm) where
    -- so many bytes are left
    pub left_next : k < length rs
        → length (record_bytes (moved to (drop k rs))) ≡ length (bytes_of (moved_record to (nth rs k))) + length (record_bytes (moved to (drop (k + 1) rs)))
    unfolding record_bytes
    left_next h = rw (next h) (length-append (bytes_of (moved_record to (nth rs k))) (record_bytes (moved to (drop (k + 1) rs))))

    module _ (d : List ℕ) (at : ℕ) where
      -- one pair written, and the rest still to write
      pub pair_next : (pair size : ℕ) → k < length rs → size ≡ length (bytes_of (moved_record to (nth rs k)))
          → sets (sets d pair (low_bytes 8 at ++ low_bytes 4 size)) (pair + 12) (pairs_of (at + size) (moved to (drop (k + 1) rs)))
          ≡ sets d pair (pairs_of at (moved to (drop k rs)))
      unfolding pairs_of
      pair_next pair size h e =
          let this = low_bytes 8 at ++ low_bytes 4 size in
          let long : length this ≡ 12 = simp (length-append, length_low) in
          rw (next h, ← e, ← append_assoc (low_bytes 8 at) (low_bytes 4 size) (pairs_of (at + size) (moved to (drop (k + 1) rs))), sets-append this, long)

      pub pair_last : (pair : ℕ) → length rs ≤ k → sets d pair (pairs_of at (moved to (drop k rs))) ≡ d
      unfolding pairs_of
      pair_last pair h = rw (drop_all k rs h)

      -- one record put, and the rest still to put
      pub record_next : (size : ℕ) → k < length rs → size ≡ length (bytes_of (moved_record to (nth rs k)))
          → sets (sets d at (bytes_of (moved_record to (nth rs k)))) (at + size) (record_bytes (moved to (drop (k + 1) rs)))
          ≡ sets d at (record_bytes (moved to (drop k rs)))
      unfolding record_bytes
      record_next size h e = rw (next h, e) (sym (sets-append (bytes_of (moved_record to (nth rs k))) (record_bytes (moved to (drop (k + 1) rs))) d at))

      pub record_last : length rs ≤ k → sets d at (record_bytes (moved to (drop k rs))) ≡ d
      unfolding record_bytes
      record_last h = rw (drop_all k rs h)
