-- Pairs as they are written, one after the other; then the whole file. Assumes nothing.
use Prim.Native.Nat.{ℕ, zero, suc, ◌+◌, ◌-◌, ◌≤◌, ◌<◌}
use mathlib.Core.Path.{◌≡◌, refl}
use mathlib.Core.List.{List, ◌++◌, append_assoc}
use native.Mathlib.Nat.{add_assoc, zero-add}
use native.Mathlib.Omega.{arith}
use lib.ListN.{length, drop, length-append}
use lib.Seq.{sets}
use Rattle.little_endian.specs.Number.{low_bytes}
use Rattle.little_endian.proofs.Number.{length_low}
use Rattle.little_endian.proofs.Stores.{sets-append}
use Rattle.shift_file.specs.declared.ShiftForm.{ShiftForm}
use Rattle.shift_file.specs.File.{ShiftRecord, mark, mark_size, pairs_at, records_at, pairs_of, record_bytes, file_of}
use Rattle.shift_file.specs.Read.{size_at, records_from}
use Rattle.shift_file.proofs.File.{length-mark, length_pairs}
use Rattle.shift_writer.specs.Known.{Counted}
use Rattle.shift_writer.proofs.Count.{length_from, next_size}

-- one pair written, and the rest still to write
pair_more : (form : ShiftForm) (b d : List ℕ) (first at pair n : ℕ) → Counted form b at (suc n)
    → sets (sets d pair (low_bytes 8 (first + at) ++ low_bytes 4 (size_at form (drop at b)))) (pair + 12)
    (pairs_of (first + (at + size_at form (drop at b))) (records_from form b (at + size_at form (drop at b)) n))
    ≡ sets d pair (pairs_of (first + at) (records_from form b at (suc n)))
unfolding records_from pairs_of
pair_more form b d first at pair n c =
    let s = size_at form (drop at b) in
    let this = low_bytes 8 (first + at) ++ low_bytes 4 s in
    let rest = pairs_of (first + at + s) (records_from form b (at + s) n) in
    let long : length this ≡ 12 = simp (length-append, length_low) in
    rw (← next_size form b at n c, ← add_assoc first at s, ← append_assoc (low_bytes 8 (first + at)) (low_bytes 4 s) rest, sets-append this, long)

pub pairs_more : (form : ShiftForm) (b d : List ℕ) (first at pair n : ℕ) → 0 < n → Counted form b at n
    → sets (sets d pair (low_bytes 8 (first + at) ++ low_bytes 4 (size_at form (drop at b)))) (pair + 12)
    (pairs_of (first + (at + size_at form (drop at b))) (records_from form b (at + size_at form (drop at b)) (n - 1)))
    ≡ sets d pair (pairs_of (first + at) (records_from form b at n))
pairs_more form b d first at pair zero h c = absurd (omega arith)
pairs_more form b d first at pair (suc n) h c = let one : suc n - 1 ≡ n = omega arith in rw one (pair_more form b d first at pair n c)

pub pairs_done : (form : ShiftForm) (b d : List ℕ) (off at pair n : ℕ) → n ≤ 0 → sets d pair (pairs_of off (records_from form b at n)) ≡ d
unfolding records_from pairs_of
pairs_done form b d off at pair zero h = refl
pairs_done form b d off at pair (suc n) h = absurd (omega arith)

-- four runs, one after the other
pub sets_four : (a b c e d : List ℕ) (p q r : ℕ) → length a ≡ p → p + length b ≡ q → q + length c ≡ r
    → sets (sets (sets (sets d 0 a) p b) q c) r e ≡ sets d 0 (a ++ (b ++ (c ++ e)))
sets_four a b c e d p q r hp hq hr =
    rw (sets-append a (b ++ (c ++ e)) d 0, zero-add (length a), hp, sets-append b (c ++ e) (sets d 0 a) p, hq, sets-append c e (sets (sets d 0 a) p b) q, hr)

-- mark and count
pub front_put : (form : ShiftForm) (n : ℕ) (d : List ℕ)
    → sets (sets d 0 (mark form)) (mark_size form) (low_bytes 4 n) ≡ sets d 0 (mark form ++ low_bytes 4 n)
front_put form n d = rw (sets-append (mark form) (low_bytes 4 n) d 0, zero-add (length (mark form)), length-mark form)

-- mark and count, pairs and records
pub parts_put : (form : ShiftForm) (rs : List ShiftRecord) (d : List ℕ) → let n = length rs in
    sets (sets (sets d 0 (mark form ++ low_bytes 4 n)) (pairs_at form) (pairs_of (records_at form n) rs)) (records_at form n) (record_bytes rs)
    ≡ sets d 0 (file_of form rs)
unfolding file_of
parts_put form rs d =
    let n = length rs in
    rw (← front_put form n d)
    (sets_four (mark form) (low_bytes 4 n) (pairs_of (records_at form n) rs) (record_bytes rs) d (mark_size form) (pairs_at form) (records_at form n)
    (length-mark form) (rw length_low) (rw length_pairs))

pub file_put : (form : ShiftForm) (b d : List ℕ) (n : ℕ) → Counted form b 0 n → let rs = records_from form b 0 n in
    sets (sets (sets d 0 (mark form ++ low_bytes 4 n)) (pairs_at form) (pairs_of (records_at form n) rs)) (records_at form n) b
    ≡ sets d 0 (file_of form rs)
file_put form b d n c = rw (length_from form b 0 n, ← c.bytes) at (parts_put form (records_from form b 0 n) d)
