-- Entries as they are told: one after the other, from a record on. Assumes nothing.
use Prim.Native.Nat.{ℕ, zero, suc, ◌+◌, ◌*◌, ◌-◌, ◌/◌, ◌≤◌, ◌<◌, min}
use mathlib.Core.Path.{◌≡◌, refl, ap, sym, ◌∙◌}
use mathlib.Core.List.{List, ◌++◌, append_assoc, append-nil}
use native.Mathlib.Nat.{zero-add, add-zero, mul-zero, mul-suc, mul-le-mul}
use native.Mathlib.Numerals.{add-one}
use native.Mathlib.Omega.{arith}
use lib.ListN.{length, take, drop, length-append}
use lib.Seq.{sets, sets-eq}
use borrow.Rule.Slice.PartMut.{put_mid}
use Rattle.little_endian.proofs.Stores.{sets-append, sets_part}
use Rattle.shift_file.specs.declared.ShiftForm.{ShiftForm}
use Rattle.shift_file.specs.declared.ShiftForm.TheVariants.{WithoutSettings, WithSettings}
use Rattle.shift_file.specs.File.{ShiftRecord, Allowed, EachAllowed}
use Rattle.shift_reader.specs.declared.EntryKind.{EntryKind}
use Rattle.shift_reader.specs.declared.EntryKind.TheVariants.{Places, PlacesAndSettings}
use Rattle.shift_reader.specs.Entry.{nth, offset_of, places_of, settings_after, entry_of, entry_size, entries_of}
use Rattle.shift_reader.proofs.Places.{allowed_at}

pub length_after : (kind : EntryKind) (form : ShiftForm) (r : ShiftRecord) → Allowed form r → 11 + length (settings_after kind form r) ≡ entry_size kind
length_after Places form r a = refl
length_after PlacesAndSettings WithoutSettings r a = refl
length_after PlacesAndSettings WithSettings r a = rw a.settings

-- so many entries as the room has places for
pub entries_fit : (kind : EntryKind) (n most room : ℕ) → n ≡ min most (room / entry_size kind) → entry_size kind * n ≤ room
entries_fit Places n most room e = omega arith
entries_fit PlacesAndSettings n most room e = omega arith

module _ (kind : EntryKind) (form : ShiftForm) (rs : List ShiftRecord) where
  abbrev after : (k : ℕ) → List ℕ
  after k = settings_after kind form (nth rs k)

  module _ (each : EachAllowed form rs) where
    pub length_entries : (k n : ℕ) → k + n ≤ length rs → length (entries_of kind form rs k n) ≡ entry_size kind * n
    unfolding entries_of
    length_entries k zero h = sym (mul-zero (entry_size kind))
    length_entries k (suc n) h =
        rw (length-append (after k) (entries_of kind form rs (k + 1) n), mul-suc)
        (omega (arith, length_after kind form (nth rs k) (allowed_at form k rs each (omega arith)), length_entries (k + 1) n (omega arith)))

  -- the entry of a record
  abbrev one : (k : ℕ) → List ℕ
  one k = entry_of kind form (offset_of form rs k) (nth rs k)

  -- one entry more
  entries_next : (k n : ℕ) → entries_of kind form rs k (suc n) ≡ entries_of kind form rs k n ++ one (k + n)
  unfolding entries_of
  entries_next k zero = rw add-zero (append-nil (one k))
  entries_next k (suc n) =
      let there : k + 1 + n ≡ k + suc n = omega arith in
      ap (λ (l : List ℕ). one k ++ l) (entries_next (k + 1) n ∙ rw there) ∙ sym (append_assoc (one k) (entries_of kind form rs (k + 1) n) (one (k + suc n)))

  -- told behind those that were, in the part that starts there
  pub entry_told : (d s e : List ℕ) (k i n at j : ℕ) → EachAllowed form rs → k + n ≤ length rs → i < n → entry_size kind * n ≤ length d
      → length s ≡ length d → at ≡ entry_size kind * i → j ≡ length d - at → s ≡ sets d 0 (entries_of kind form rs k i)
      → e ≡ sets (take j (drop at s)) 0 (one (k + i)) → put_mid at j s e ≡ sets d 0 (entries_of kind form rs k (i + 1))
  entry_told d s e k i n at j each inside more room same here rest so told =
      let r = nth rs (k + i) in
      let es = entries_of kind form rs k i in
      let long : length es ≡ at = length_entries each k i (omega arith) ∙ sym here in
      let size : length (one (k + i)) ≡ entry_size kind =
      length-append (places_of form (offset_of form rs (k + i)) r) (after (k + i)) ∙ length_after kind form r (allowed_at form (k + i) rs each (omega arith)) in
      let fit : entry_size kind * suc i ≤ entry_size kind * n = mul-le-mul {n₁ = entry_size kind} (omega arith) more in
      let past : at + entry_size kind ≤ length d = omega (arith, mul-suc (entry_size kind) i) in
      let place : sets s at (one (k + i)) ≡ sets (sets d 0 es) (0 + length es) (one (k + i)) = rw (zero-add (length es), long, so) in
      rw (add-one i)
      (ap (put_mid at j s) told ∙ sets_part s (one (k + i)) at j (omega arith) (omega arith) ∙ place ∙ sym (sets-append es (one (k + i)) d 0)
      ∙ ap (sets d 0) (sym (entries_next k i)))

  -- where a call tells an entry, the record that it asks for first is one
  first_told : (first n : ℕ) → n ≤ length rs - first → entries_of kind form rs (min first (length rs)) n ≡ entries_of kind form rs first n
  unfolding entries_of
  first_told first zero h = refl
  first_told first (suc n) h = let is : min first (length rs) ≡ first = omega arith in rw is

  pub told_entries : (d : List ℕ) (first from n : ℕ) → EachAllowed form rs → from ≡ min first (length rs) → n ≤ length rs - first → entry_size kind * n ≤ length d
      → sets d 0 (entries_of kind form rs from n) ≡ entries_of kind form rs first n ++ drop (entry_size kind * n) d
  told_entries d first from n each e h fit =
      let entries = entries_of kind form rs from n in
      let long : length entries ≡ entry_size kind * n = length_entries each from n (omega arith) in
      sets-eq entries d 0 (rw (zero-add (length entries), long) fit) ∙ rw (zero-add (length entries), long, e, first_told first n h)
