-- What is written is read again, and what is read is written again: first an entry, then a run of them by induction. Assumes nothing.
use Prim.Native.Nat.{ℕ, zero, suc, ◌+◌, ◌*◌, ◌^◌, ◌≤◌, ◌<◌}
use mathlib.Core.Path.{◌≡◌, refl, ap, sym, ◌∙◌}
use mathlib.Core.Bool.{true, and-eq-true_iff}
use mathlib.Core.List.{List, [], ◌∷◌, ◌++◌, append_assoc}
use native.Mathlib.Omega.{arith}
use lib.Dec.{eqb}
use lib.ListN.{length, get_or, drop, length-append, length-drop}
use lib.Seq.{drop_at, drop-drop}
use borrow.Author.Tests.{eqb-true, eq-eqb}
use Rattle.little_endian.specs.Number.{Bytes, low_bytes, number_in}
use Rattle.little_endian.proofs.Number.{length_low, number_low, low_rest, drop_low, bytes_drop}
use Rattle.merge_sort.specs.Order.{All}
use Rattle.summary_entry.specs.declared.SummaryEntry.{SummaryEntry}
use Rattle.summary_entry.specs.Entry.{entry_bytes, entries_bytes, entry_in, entries_in, same_entry, no_entry}

-- an entry whose numbers have room
pub record Fits (e : SummaryEntry) : Type 0 where
  pub crossing : e.crossing < 256 ^ 4
  pub offset : e.offset < 256 ^ 8
  pub mean : e.mean < 256 ^ 1

pub length_entry : (e : SummaryEntry) → length (entry_bytes e) ≡ 13
unfolding entry_bytes
length_entry e = simp (length-append, length_low)

pub length_entries : (es : List SummaryEntry) → length (entries_bytes es) ≡ 13 * length es
unfolding entries_bytes
length_entries [] = refl
length_entries (e ∷ es) = rw (length-append, length_entry, length_entries es) (omega arith)

-- past an entry
pub drop_entry : (e : SummaryEntry) (t : List ℕ) → drop 13 (entry_bytes e ++ t) ≡ t
drop_entry e t = drop_at (entry_bytes e) t 13 (length_entry e)

-- ---- written, then read

module _ (e : SummaryEntry) (t : List ℕ) where
  parts : entry_bytes e ++ t ≡ low_bytes 4 e.crossing ++ (low_bytes 8 e.offset ++ (low_bytes 1 e.mean ++ t))
  unfolding entry_bytes
  parts = simp append_assoc

  at4 : drop 4 (entry_bytes e ++ t) ≡ low_bytes 8 e.offset ++ (low_bytes 1 e.mean ++ t)
  at4 = rw parts (drop_low 4 e.crossing _)

  at12 : drop 12 (entry_bytes e ++ t) ≡ low_bytes 1 e.mean ++ t
  at12 = sym (drop-drop 8 4 (entry_bytes e ++ t)) ∙ rw at4 (drop_low 8 e.offset _)

  pub entry_back : Fits e → entry_in (entry_bytes e ++ t) ≡ e
  unfolding entry_in
  entry_back f = λ i. record { crossing = crossing_is i; offset = offset_is i; mean = mean_is i }
    where
      crossing_is : number_in 4 (entry_bytes e ++ t) ≡ e.crossing
      crossing_is = rw parts (number_low 4 _ _ f.crossing)

      offset_is : number_in 8 (drop 4 (entry_bytes e ++ t)) ≡ e.offset
      offset_is = rw at4 (number_low 8 _ _ f.offset)

      mean_is : number_in 1 (drop 12 (entry_bytes e ++ t)) ≡ e.mean
      mean_is = rw at12 (number_low 1 _ _ f.mean)

pub entries_back : (es : List SummaryEntry) (t : List ℕ) → All Fits es → entries_in (length es) (entries_bytes es ++ t) ≡ es
unfolding entries_in entries_bytes All
entries_back [] t f = refl
entries_back (e ∷ es) t f =
    rw (append_assoc, entry_back e (entries_bytes es ++ t) f.0, drop_entry e (entries_bytes es ++ t), entries_back es t f.1)

-- ---- read, then written

entry_again : (l : List ℕ) → Bytes l → 13 ≤ length l → entry_bytes (entry_in l) ++ drop 13 l ≡ l
unfolding entry_bytes entry_in
entry_again l b h =
    let one = low_rest 1 (drop 12 l) (bytes_drop 12 l b) (rw length-drop (omega arith)) in
    let eight = low_rest 8 (drop 4 l) (bytes_drop 4 l b) (rw length-drop (omega arith)) in
    simp append_assoc (rw (← drop-drop 1 12 l, one, ← drop-drop 8 4 l, eight) (low_rest 4 l b (omega arith)))

pub entries_again : (n : ℕ) (l : List ℕ) → Bytes l → 13 * n ≤ length l → entries_bytes (entries_in n l) ++ drop (13 * n) l ≡ l
unfolding entries_in entries_bytes
entries_again zero l b h = refl
entries_again (suc n) l b h =
    let past : 13 * suc n ≡ 13 + 13 * n = omega arith in
    let later = entries_again n (drop 13 l) (bytes_drop 13 l b) (rw length-drop (omega arith)) in
    rw (past, append_assoc, ← drop-drop (13 * n) 13 l, later) (entry_again l b (omega arith))

-- ---- the entries of a summary

pub length_read : (n : ℕ) (l : List ℕ) → length (entries_in n l) ≡ n
unfolding entries_in
length_read zero l = refl
length_read (suc n) l = ap suc (length_read n (drop 13 l))

pub entry_at : (n i : ℕ) (l : List ℕ) → i < n → get_or (entries_in n l) i no_entry ≡ entry_in (drop (13 * i) l)
unfolding entries_in
entry_at zero i l h = absurd (omega arith)
entry_at (suc n) zero l h = refl
entry_at (suc n) (suc i) l h =
    let past : 13 * suc i ≡ 13 + 13 * i = omega arith in
    entry_at n i (drop 13 l) (omega arith) ∙ rw (past, drop-drop)

-- ---- equal entries

module _ (a b : SummaryEntry) where
  pub same_true : same_entry a b ≡ true → a ≡ b
  same_true h =
      let p = (and-eq-true_iff (eqb a.crossing b.crossing) _).0 h in
      let q = (and-eq-true_iff (eqb a.offset b.offset) _).0 p.1 in
      let crossing : a.crossing ≡ b.crossing = eqb-true _ _ p.0 in
      let offset : a.offset ≡ b.offset = eqb-true _ _ q.0 in
      let mean : a.mean ≡ b.mean = eqb-true _ _ q.1 in
      λ i. record { crossing = crossing i; offset = offset i; mean = mean i }

pub same_itself : (a : SummaryEntry) → same_entry a a ≡ true
same_itself a = rw (eq-eqb a.crossing a.crossing refl, eq-eqb a.offset a.offset refl) (eq-eqb a.mean a.mean refl)
