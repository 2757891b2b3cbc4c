-- Pairs and records that belong together. From the walk to the records and back by induction on the count, over what stands from the pair and from
-- the record on; then the walk as the loop takes it. Assumes nothing.
use Prim.Native.Nat.{ℕ, zero, suc, ◌+◌, ◌*◌, ◌-◌, ◌^◌, ◌≤◌, ◌<◌}
use mathlib.Core.Path.{◌≡◌, refl, ap, sym, ◌∙◌}
use mathlib.Core.Bool.{Bool, true, false, cond, ◌&&◌}
use mathlib.Core.List.{List, [], ◌∷◌, ◌++◌, append_assoc}
use native.Mathlib.Nat.{add-zero}
use native.Mathlib.Omega.{arith}
use lib.Dec.{eqb}
use lib.ListN.{length, drop, length-append, length-drop, take-append-drop, drop_of_length-le}
use lib.Seq.{drop-drop, drop_at, length-take-le}
use borrow.Author.Tests.{eqb-true, eq-eqb}
use Rattle.std.proofs.lemmas.Bool.{and_from, and_parts}
use Rattle.std.proofs.lemmas.Option.{cond_some}
use Rattle.little_endian.specs.Number.{Bytes, low_bytes, number_in}
use Rattle.little_endian.proofs.Number.{bytes_drop, number_low, low_rest, drop_low}
use Rattle.shift_file.specs.declared.ShiftForm.{ShiftForm}
use Rattle.shift_file.specs.File.{ShiftRecord, EachAllowed, bytes_of, pairs_of, record_bytes}
use Rattle.std.specs.Prelude.{Some, None}
use Rattle.shift_file.specs.Read.{size_at, record_at, records_from}
use Rattle.shift_file.specs.Check.{record_stands, pair_is, next_size, walk}
use Rattle.shift_file.proofs.Record.{Stands, Stands-true, bytes_record, record_Allowed, size_bytes, stands_bytes, size_most, record_bytes_lem}

-- ---- records back to back

-- the first of them, and what follows it
pub First-of : (form : ShiftForm) (l : List ℕ) → Bytes l → Stands form l → bytes_of (record_at form l) ++ drop (size_at form l) l ≡ l
First-of form l b s = rw (bytes_record form l b s) (take-append-drop (size_at form l) l)

pub length_first : (form : ShiftForm) (l : List ℕ) → Bytes l → Stands form l → length (bytes_of (record_at form l)) ≡ size_at form l
length_first form l b s = ap length (bytes_record form l b s) ∙ length-take-le _ l s.whole

-- where records stand back to back, they are the ones that are read
pub records_are : (form : ShiftForm) (b : List ℕ) (rs : List ShiftRecord) (at : ℕ) → EachAllowed form rs → drop at b ≡ record_bytes rs
    → records_from form b at (length rs) ≡ rs
unfolding records_from record_bytes
records_are form b [] at es e = refl
records_are form b (r ∷ rs) at es e =
    let size = length (bytes_of r) in
    let next : drop (at + size) b ≡ record_bytes rs = sym (drop-drop size at b) ∙ rw e (drop_at (bytes_of r) (record_bytes rs) size refl) in
    rw (e, record_bytes_lem form r es.0 (record_bytes rs), size_bytes form r es.0 (record_bytes rs), records_are form b rs (at + size) es.1 next)

-- ---- a pair

pair_Bytes : (l : List ℕ) (at size : ℕ) → Bytes l → 12 ≤ length l → pair_is l at size ≡ true → l ≡ low_bytes 8 at ++ (low_bytes 4 size ++ drop 12 l)
unfolding pair_is
pair_Bytes l at size b h e =
    let q = and_parts (eqb (number_in 8 l) at) _ e in
    let offset : low_bytes 8 at ≡ low_bytes 8 (number_in 8 l) = ap (low_bytes 8) (sym (eqb-true _ _ q.0)) in
    let extent : low_bytes 4 size ≡ low_bytes 4 (number_in 4 (drop 8 l)) = ap (low_bytes 4) (sym (eqb-true _ _ q.1)) in
    let rest = low_rest 4 (drop 8 l) (bytes_drop 8 l b) (rw length-drop (omega arith)) in
    rw (offset, extent, ← drop-drop 4 8 l, rest) (sym (low_rest 8 l b (omega arith)))

module _ (l t : List ℕ) (at size : ℕ) (e : l ≡ low_bytes 8 at ++ (low_bytes 4 size ++ t)) where
  pub offset_in : at < 256 ^ 8 → number_in 8 l ≡ at
  offset_in h = rw e (number_low 8 at _ h)

  pub extent_in : size < 256 ^ 4 → number_in 4 (drop 8 l) ≡ size
  extent_in h = rw (e, drop_low 8 at (low_bytes 4 size ++ t)) (number_low 4 size t h)

  pair_read : at < 256 ^ 8 → size < 256 ^ 4 → pair_is l at size ≡ true
  unfolding pair_is
  pair_read ha hs =
      and_from (eqb (number_in 8 l) at) (eqb (number_in 4 (drop 8 l)) size) (eq-eqb _ _ (offset_in ha)) (eq-eqb _ _ (extent_in hs))

  pub pair_drop : drop 12 l ≡ t
  pair_drop = sym (drop-drop 4 8 l) ∙ rw (e, drop_low 8 at (low_bytes 4 size ++ t)) (drop_low 4 size t)

-- ---- from the walk to the records

pub record Walked (form : ShiftForm) (b : List ℕ) (pair at n : ℕ) (rs : List ShiftRecord) : Type 0 where
  pub count : length rs ≡ n
  pub each : EachAllowed form rs
  pub pairs : drop pair b ≡ pairs_of at rs ++ drop (pair + 12 * n) b
  pub bytes : drop at b ≡ record_bytes rs

-- one more in front
walked_more : (form : ShiftForm) (b : List ℕ) (n pair at : ℕ) (rs : List ShiftRecord) → Bytes b → pair + 12 * suc n ≤ length b
    → Stands form (drop at b) → pair_is (drop pair b) at (size_at form (drop at b)) ≡ true → Walked form b (pair + 12) (at + size_at form (drop at b)) n rs
    → Walked form b pair at (suc n) (record_at form (drop at b) ∷ rs)
unfolding pairs_of record_bytes
walked_more form b n pair at rs hb hp s e w =
    let l = drop at b in
    let past : pair + 12 * suc n ≡ pair + 12 + 12 * n = omega arith in
    record {
      count = ap suc w.count;
      each = (record_Allowed form l (bytes_drop at b hb) s, w.each);
      pairs =
          rw (length_first form l (bytes_drop at b hb) s, past, append_assoc, append_assoc, ← w.pairs, ← drop-drop 12 pair b)
          (pair_Bytes (drop pair b) at (size_at form l) (bytes_drop pair b hb) (rw length-drop (omega arith)) e);
      bytes = rw (← w.bytes, ← drop-drop (size_at form l) at b) (sym (First-of form l (bytes_drop at b hb) s));
    }

pub walk_records : (form : ShiftForm) (b : List ℕ) (n pair at : ℕ) → Bytes b → pair + 12 * n ≤ length b → at ≤ length b
    → walk form b pair at n ≡ true → Walked form b pair at n (records_from form b at n)
unfolding walk records_from pairs_of record_bytes
walk_records form b zero pair at hb hp ha e = record {
  count = refl;
  each = tt;
  pairs = rw add-zero;
  bytes = drop_of_length-le b {i = at} (omega (arith, eqb-true at (length b) e));
}
walk_records form b (suc n) pair at hb hp ha e =
    let l = drop at b in
    let q = and_parts (record_stands form l) _ e in
    let u = and_parts (pair_is (drop pair b) at (size_at form l)) _ q.1 in
    let s = Stands-true form l q.0 in
    walked_more form b n pair at _ hb hp s u.0
    (walk_records form b n (pair + 12) (at + size_at form l) hb (omega arith) (omega (arith, s.whole, length-drop at b)) u.1)

-- ---- and from the records to the walk

pub records_walk : (form : ShiftForm) (b t : List ℕ) (rs : List ShiftRecord) (pair at : ℕ) → length b < 2 ^ 64 → at ≤ length b → EachAllowed form rs
    → drop pair b ≡ pairs_of at rs ++ t → drop at b ≡ record_bytes rs → walk form b pair at (length rs) ≡ true
unfolding walk pairs_of record_bytes
records_walk form b t [] pair at hb ha es hp hs = eq-eqb at (length b) (omega (arith, length-drop at b, ap length hs))
records_walk form b t (r ∷ rs) pair at hb ha es hp hs =
    let size = length (bytes_of r) in
    let here : drop pair b ≡ low_bytes 8 at ++ (low_bytes 4 size ++ (pairs_of (at + size) rs ++ t)) = hp ∙ simp append_assoc in
    let long : length b - at ≡ size + length (record_bytes rs) = sym (length-drop at b) ∙ ap length hs ∙ length-append (bytes_of r) (record_bytes rs) in
    rw (hs, size_bytes form r es.0 (record_bytes rs))
    (and_from (record_stands form (bytes_of r ++ record_bytes rs)) _ (stands_bytes form r es.0 (record_bytes rs))
    (and_from (pair_is (drop pair b) at size) _ (pair_read (drop pair b) _ at size here (omega arith) (omega (arith, size_most form r es.0)))
    (records_walk form b t rs (pair + 12) (at + size) hb (omega arith) es.1
    (sym (drop-drop 12 pair b) ∙ pair_drop (drop pair b) _ at size here)
    (sym (drop-drop size at b) ∙ rw hs (drop_at (bytes_of r) (record_bytes rs) size refl)))))

-- ---- the walk as the loop takes it

refused : (t u v : Bool) (n : ℕ) → cond (t && u) (Some n) None ≡ None → (t && (u && v)) ≡ false
refused true true v n e = cc
refused true false v n e = refl
refused false u v n e = refl

module _ (form : ShiftForm) (b : List ℕ) (pair at : ℕ) where
  pub walk_none : (n : ℕ) → 0 < n → next_size form b pair at ≡ None → walk form b pair at n ≡ false
  unfolding walk next_size
  walk_none zero h e = absurd (omega arith)
  walk_none (suc n) h e = refused (record_stands form (drop at b)) (pair_is (drop pair b) at (size_at form (drop at b))) _ (size_at form (drop at b)) e

  pub walk_end : (n : ℕ) → n ≡ 0 → eqb at (length b) ≡ walk form b pair at n
  unfolding walk
  walk_end n e = rw e

  module _ (s : ℕ) (e : next_size form b pair at ≡ Some s) where
    next_is : (record_stands form (drop at b) ≡ true) × (pair_is (drop pair b) at (size_at form (drop at b)) ≡ true) × (size_at form (drop at b) ≡ s)
    unfolding next_size
    next_is =
        let q = cond_some _ (size_at form (drop at b)) s e in
        let p = and_parts (record_stands form (drop at b)) _ q.0 in
        (p.0, p.1, q.1)

    pub walk_some : (n : ℕ) → 0 < n → walk form b pair at n ≡ walk form b (pair + 12) (at + s) (n - 1)
    unfolding walk
    walk_some zero h = absurd (omega arith)
    walk_some (suc n) h = let one : suc n - 1 ≡ n = omega arith in rw (next_is.0, next_is.1, next_is.2, one)

    pub next_inside : at ≤ length b → at + s ≤ length b
    next_inside h = omega (arith, next_is.2, (Stands-true form (drop at b) next_is.0).whole, length-drop at b)

-- the same, of a loop that has come to pair k of n
pub walk_more : (form : ShiftForm) (b : List ℕ) (first at n k s : ℕ) → next_size form b (first + 12 * k) at ≡ Some s → k < n
    → walk form b (first + 12 * (k + 1)) (at + s) (n - (k + 1)) ≡ walk form b (first + 12 * k) at (n - k)
walk_more form b first at n k s e h =
    let pair : first + 12 * (k + 1) ≡ first + 12 * k + 12 = omega arith in
    let left : n - (k + 1) ≡ n - k - 1 = omega arith in
    rw (pair, left) (sym (walk_some form b (first + 12 * k) at s e (n - k) (omega arith)))
