-- Records counted: the count is that of the records where there are some, and where it is at most n the records are there. Both by induction on n.
-- Assumes nothing.
use Prim.Native.Nat.{ℕ, zero, suc, ◌+◌, ◌-◌, ◌≤◌, ◌<◌}
use mathlib.Core.Path.{◌≡◌, refl, ap, sym, ◌∙◌}
use mathlib.Core.Bool.{Bool, true, false, cond}
use Rattle.std.specs.Prelude.{Some, None}
use mathlib.Core.List.{List, [], ◌∷◌, ◌++◌}
use native.Mathlib.Omega.{arith}
use lib.Dec.{eqb}
use Rattle.std.proofs.Math.Arith.{lt_of_le-ne}
use lib.ListN.{length, drop, length-append, length-drop, drop_of_length-le}
use lib.Seq.{drop-drop}
use Rattle.std.proofs.lemmas.Option.{cond_some}
use Rattle.std.proofs.CharBoundary.{drop_past_prefix}
use borrow.Author.Tests.{eq-eqb, ne_eqb, eqb-true, eqb-false, leb-true, le-leb}
use Rattle.little_endian.specs.Number.{Bytes}
use Rattle.little_endian.proofs.Number.{bytes_drop}
use Rattle.shift_file.specs.declared.ShiftForm.{ShiftForm}
use Rattle.shift_file.specs.File.{ShiftRecord, Allowed, EachAllowed, bytes_of, record_bytes, header_size}
use Rattle.shift_file.specs.Read.{size_at, record_at, records_from}
use Rattle.shift_file.specs.Check.{record_stands, size_standing}
use Rattle.shift_file.proofs.Record.{Stands-true, record_Allowed, size_bytes, stands_bytes, length_bytes}
use Rattle.shift_file.proofs.Walk.{First-of, records_are}
use Rattle.shift_writer.specs.Records.{count_from, are_records, records_back, count_back, BackToBack, SomeRecords, TheseRecords}
use Rattle.shift_writer.specs.Known.{Counted}

pub length_from : (form : ShiftForm) (b : List ℕ) (at n : ℕ) → length (records_from form b at n) ≡ n
unfolding records_from
length_from form b at zero = refl
length_from form b at (suc n) = ap suc (length_from form b (at + size_at form (drop at b)) n)

-- ---- one step

pub not_standing : (t : Bool) (n : ℕ) → cond t (Some n) None ≡ None → t ≡ false
not_standing true n e = cc
not_standing false n e = refl

pub standing_some : (form : ShiftForm) (l : List ℕ) (s : ℕ) → size_standing form l ≡ Some s → (record_stands form l ≡ true) × (size_at form l ≡ s)
unfolding size_standing
standing_some form l s e = cond_some (record_stands form l) (size_at form l) s e

pub standing_none : (form : ShiftForm) (l : List ℕ) → size_standing form l ≡ None → record_stands form l ≡ false
unfolding size_standing
standing_none form l e = not_standing (record_stands form l) (size_at form l) e

module _ (form : ShiftForm) (b : List ℕ) (at : ℕ) where
  pub stands_inside : at ≤ length b → record_stands form (drop at b) ≡ true → at + size_at form (drop at b) ≤ length b
  stands_inside h e = omega (arith, (Stands-true form (drop at b) e).whole, length-drop at b)

  pub count_end : (n : ℕ) → length b ≤ at → at ≤ length b → count_from form b at n ≡ 0
  unfolding count_from
  count_end zero h k = rw (eq-eqb at (length b) (omega arith))
  count_end (suc n) h k = rw (eq-eqb at (length b) (omega arith))

  pub count_full : (n : ℕ) → n ≡ 0 → at < length b → count_from form b at n ≡ 1
  unfolding count_from
  count_full zero e h = rw (ne_eqb at (length b) (λ e. omega arith))
  count_full (suc n) e h = absurd (omega arith)

  pub count_none : (n : ℕ) → at < length b → record_stands form (drop at b) ≡ false → count_from form b at n ≡ suc n
  unfolding count_from
  count_none zero h e = rw (ne_eqb at (length b) (λ e. omega arith))
  count_none (suc n) h e = rw (ne_eqb at (length b) (λ e. omega arith), e)

  pub count_more : (n m : ℕ) → n ≡ suc m → at < length b → record_stands form (drop at b) ≡ true
      → count_from form b at n ≡ suc (count_from form b (at + size_at form (drop at b)) m)
  unfolding count_from
  count_more n m d h e = rw (d, ne_eqb at (length b) (λ e. omega arith), e)

-- the count as the loop takes it: of a count of k records up to a place, or of one record too many
pub record Reached (form : ShiftForm) (b : List ℕ) (at k : ℕ) : Type 0 where
  pub inside : at ≤ length b
  pub few : k ≤ 4096 → k + count_from form b at (4096 - k) ≡ count_from form b 0 4096
  pub many : 4096 < k → count_from form b 0 4096 ≡ 4097

pub Reached-zero : (form : ShiftForm) (b : List ℕ) → Reached form b 0 0
Reached-zero form b = record { inside = omega arith; few = λ h. omega arith; many = λ h. absurd (omega arith) }

module _ (form : ShiftForm) (b : List ℕ) (at k : ℕ) (c : Reached form b at k) (most : k ≤ 4096) where
  pub count_at_end : at ≡ length b → Some k ≡ count_back form b
  count_at_end e =
      let all : count_from form b 0 4096 ≡ k = omega (arith, c.few most, count_end form b at (4096 - k) (omega arith) c.inside) in
      rw (all, le-leb k 4096 most)

  module _ (less : at ≡ length b → ⊥) where
    before : at < length b
    before = lt_of_le-ne c.inside less

    pub count_at_none : size_standing form (drop at b) ≡ None → None ≡ count_back form b
    count_at_none e =
        let all : count_from form b 0 4096 ≡ 4097 =
        omega (arith, c.few most, count_none form b at (4096 - k) before (standing_none form (drop at b) e)) in
        rw all

    pub Reached-more : (s : ℕ) → size_standing form (drop at b) ≡ Some s → Reached form b (at + s) (k + 1)
    Reached-more s e =
        let stands = standing_some form (drop at b) s e in record {
          inside = omega (arith, stands.1, stands_inside form b at c.inside stands.0);
          few = λ h.
              let more : count_from form b at (4096 - k) ≡ suc (count_from form b (at + s) (4096 - (k + 1))) =
              rw (← stands.1) (count_more form b at (4096 - k) (4096 - (k + 1)) (omega arith) before stands.0) in
              omega (arith, c.few most, more);
          many = λ h. omega (arith, c.few most, count_full form b at (4096 - k) (omega arith) before);
        }

pub count_at_most : (form : ShiftForm) (b : List ℕ) (at k : ℕ) → Reached form b at k → 4096 < k → None ≡ count_back form b
count_at_most form b at k c h = rw (c.many h)

-- ---- from the records to the count

records_counted : (form : ShiftForm) (b : List ℕ) (rs : List ShiftRecord) (at n : ℕ) → EachAllowed form rs → length rs ≤ n → at ≤ length b
    → drop at b ≡ record_bytes rs → count_from form b at n ≡ length rs
unfolding record_bytes
records_counted form b [] at n es hn ha e = count_end form b at n (omega (arith, length-drop at b, ap length e)) ha
records_counted form b (r ∷ rs) at zero es hn ha e = absurd (omega arith)
records_counted form b (r ∷ rs) at (suc n) es hn ha e =
    let size : size_at form (drop at b) ≡ length (bytes_of r) = ap (size_at form) e ∙ size_bytes form r es.0 (record_bytes rs) in
    let long : length b - at ≡ length (bytes_of r) + length (record_bytes rs) = sym (length-drop at b) ∙ ap length e ∙ length-append (bytes_of r) (record_bytes rs) in
    count_more form b at (suc n) n refl (omega (arith, length_bytes form r es.0)) (ap (record_stands form) e ∙ stands_bytes form r es.0 (record_bytes rs))
    ∙ rw size (ap suc (records_counted form b rs (at + length (bytes_of r)) n es.1 (omega arith) (omega arith) (drop_past_prefix b (bytes_of r) (record_bytes rs) at e)))

-- ---- from the count to the records

none_Counted : (form : ShiftForm) (b : List ℕ) (at n : ℕ) → length b ≤ at → n ≡ 0 → Counted form b at n
unfolding records_from record_bytes
none_Counted form b at n h e = rw e (record { each = tt; bytes = drop_of_length-le b {i = at} h })

more_Counted : (form : ShiftForm) (b : List ℕ) (at m n : ℕ) → Bytes b → record_stands form (drop at b) ≡ true → n ≡ suc m
    → Counted form b (at + size_at form (drop at b)) m → Counted form b at n
unfolding records_from record_bytes
more_Counted form b at m n hb e q c =
    let l = drop at b in
    let s = Stands-true form l e in
    rw q (record {
      each = (record_Allowed form l (bytes_drop at b hb) s, c.each);
      bytes = rw (← c.bytes, ← drop-drop (size_at form l) at b) (sym (First-of form l (bytes_drop at b hb) s));
    })

pub counted : (form : ShiftForm) (b : List ℕ) (n at : ℕ) → Bytes b → at ≤ length b → count_from form b at n ≤ n → Counted form b at (count_from form b at n)
counted form b zero at hb ha h = go (eqb at (length b)) refl
  where
    go : (t : Bool) → eqb at (length b) ≡ t → Counted form b at (count_from form b at 0)
    go true e = let z = eqb-true at (length b) e in none_Counted form b at _ (omega arith) (count_end form b at 0 (omega arith) ha)
    go false e = absurd (omega (arith, count_full form b at 0 refl (lt_of_le-ne ha (eqb-false at (length b) e))))
counted form b (suc n) at hb ha h =
    go (eqb at (length b)) refl (record_stands form (drop at b)) refl (λ s. counted form b n (at + size_at form (drop at b)) hb (stands_inside form b at ha s))
  where
    go : (t : Bool) → eqb at (length b) ≡ t → (u : Bool) → record_stands form (drop at b) ≡ u
        → (record_stands form (drop at b) ≡ true → count_from form b (at + size_at form (drop at b)) n ≤ n
        → Counted form b (at + size_at form (drop at b)) (count_from form b (at + size_at form (drop at b)) n))
        → Counted form b at (count_from form b at (suc n))
    go true e u d later = let z = eqb-true at (length b) e in none_Counted form b at _ (omega arith) (count_end form b at (suc n) (omega arith) ha)
    go false e false d later = absurd (omega (arith, count_none form b at (suc n) (lt_of_le-ne ha (eqb-false at (length b) e)) d))
    go false e true d later =
        let q = count_more form b at (suc n) n refl (lt_of_le-ne ha (eqb-false at (length b) e)) d in
        more_Counted form b at _ _ hb d q (later d (omega arith))

-- the next record, and those after it
module _ (form : ShiftForm) (b : List ℕ) (at n : ℕ) (c : Counted form b at (suc n)) where
  abbrev r : ShiftRecord
  r = record_at form (drop at b)

  abbrev rest : List ShiftRecord
  rest = records_from form b (at + size_at form (drop at b)) n

  here : drop at b ≡ bytes_of r ++ record_bytes rest
  unfolding records_from record_bytes
  here = c.bytes

  allowed : Allowed form r × EachAllowed form rest
  unfolding records_from
  allowed = c.each

  pub next_size : size_at form (drop at b) ≡ length (bytes_of (record_at form (drop at b)))
  next_size = ap (size_at form) here ∙ size_bytes form r allowed.0 (record_bytes rest)

  next_header : header_size form ≤ length (drop at b)
  next_header = rw (here, length-append) (omega (arith, length_bytes form r allowed.0))

  next_inside : at ≤ length b → at + size_at form (drop at b) ≤ length b
  next_inside h =
      omega (arith, next_size, length-drop at b, ap length here, length-append (bytes_of r) (record_bytes rest), length_bytes form r allowed.0)

  next_Counted : Counted form b (at + size_at form (drop at b)) n
  next_Counted = record { each = allowed.1; bytes = ap (λ (n : ℕ). drop (at + n) b) next_size ∙ drop_past_prefix b (bytes_of r) (record_bytes rest) at here }

-- a record that was counted: its header is there, it is whole, and those after it were counted too
pub record Next (form : ShiftForm) (b : List ℕ) (at n : ℕ) : Type 0 where
  pub header : header_size form ≤ length (drop at b)
  pub inside : at ≤ length b → at + size_at form (drop at b) ≤ length b
  pub later : Counted form b (at + size_at form (drop at b)) n

pub next : (form : ShiftForm) (b : List ℕ) (at n : ℕ) → 0 < n → Counted form b at n → Next form b at (n - 1)
next form b at zero h c = absurd (omega arith)
next form b at (suc n) h c =
    let one : suc n - 1 ≡ n = omega arith in
    rw one (record { header = next_header form b at n c; inside = next_inside form b at n c; later = next_Counted form b at n c })

-- ---- what this comes to

these : (form : ShiftForm) (b : List ℕ) (rs : List ShiftRecord) → BackToBack form b rs → count_from form b 0 4096 ≡ length rs
these form b rs w = records_counted form b rs 0 4096 w.has.each w.has.few (omega arith) (sym w.same)

pub these_records : TheseRecords
these_records form b rs w = rw (these form b rs w) (records_are form b rs 0 w.has.each (sym w.same))

pub back_to_back : (form : ShiftForm) (b : List ℕ) → Bytes b → are_records form b ≡ true → BackToBack form b (records_back form b)
back_to_back form b hb e =
    let few = leb-true _ _ e in
    let c = counted form b 4096 0 hb (omega arith) few in
    record { has = record { few = rw (length_from form b 0 (count_from form b 0 4096)) few; each = c.each }; same = sym c.bytes }

pub some_records : SomeRecords
some_records form b hb = (
  λ e. (records_back form b, back_to_back form b hb e),
  λ w. le-leb (count_from form b 0 4096) 4096 (rw (these form b w.0 w.1) w.1.has.few),
)
