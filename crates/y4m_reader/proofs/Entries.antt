-- Entries as they are told: one after the other, from a picture on. Assumes nothing.
use Prim.Native.Nat.{ℕ, zero, suc, ◌+◌, ◌*◌, ◌-◌, ◌≤◌, ◌<◌, min}
use mathlib.Core.Path.{◌≡◌, refl, sym, ◌∙◌}
use mathlib.Core.List.{List, ◌++◌}
use native.Mathlib.Nat.{zero-add}
use native.Mathlib.Omega.{arith}
use lib.ListN.{length, drop}
use lib.Seq.{sets, sets-eq}
use Rattle.little_endian.proofs.Stores.{sets-append}
use Rattle.y4m_file.specs.File.{Y4mFile}
use Rattle.y4m_reader.specs.Entry.{picture_of, offset_of, entry_of, entries_of}

module _ (f : Y4mFile) where
  pub length_entries : (k n : ℕ) → length (entries_of f k n) ≡ 6 * n
  unfolding entries_of
  length_entries k zero = refl
  length_entries k (suc n) = omega (arith, length_entries (k + 1) n)

  -- one entry told, and the rest still to tell
  pub entry_more : (d e : List ℕ) (first n i : ℕ) → e ≡ entry_of (offset_of f (first + i)) (picture_of f (first + i)) → i < n
      → sets (sets d (6 * i) e) (6 * (i + 1)) (entries_of f (first + (i + 1)) (n - (i + 1))) ≡ sets d (6 * i) (entries_of f (first + i) (n - i))
  unfolding entries_of
  entry_more d e first n i is h =
      let one : n - i ≡ suc (n - (i + 1)) = omega arith in
      let next : first + (i + 1) ≡ first + i + 1 = omega arith in
      let past : 6 * (i + 1) ≡ 6 * i + 6 = omega arith in
      rw (one, next, past, is)
      (sym (sets-append (entry_of (offset_of f (first + i)) (picture_of f (first + i))) (entries_of f (first + i + 1) (n - (i + 1))) d (6 * i)))

  pub entries_done : (d : List ℕ) (at k n : ℕ) → n ≡ 0 → sets d at (entries_of f k n) ≡ d
  unfolding entries_of
  entries_done d at k n e = rw e

  -- where a call tells an entry, the picture that it asks for first is one
  first_told : (first n : ℕ) → n ≤ length f.pictures - first → entries_of f (min first (length f.pictures)) n ≡ entries_of f first n
  unfolding entries_of
  first_told first zero h = refl
  first_told first (suc n) h = let is : min first (length f.pictures) ≡ first = omega arith in rw is

  pub told_entries : (d : List ℕ) (first from n : ℕ) → from ≡ min first (length f.pictures) → n ≤ length f.pictures - first → 6 * n ≤ length d
      → sets d 0 (entries_of f from n) ≡ entries_of f first n ++ drop (6 * n) d
  told_entries d first from n e h fit =
      let entries = entries_of f first n in
      rw (e, first_told first n h)
      (sets-eq entries d 0 (rw (zero-add (length entries), length_entries) fit) ∙ rw (zero-add (length entries), length_entries))
