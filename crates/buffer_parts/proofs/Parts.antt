-- Bytes of a part, replaced and read again.
-- Assumes nothing.
use Prim.Native.Nat.{ℕ, ◌+◌, ◌-◌, ◌≤◌, ◌<◌}
use mathlib.Core.Path.{◌≡◌, refl, sym, ap, subst, ◌∙◌}
use mathlib.Core.Bool.{Bool, true, false}
use mathlib.Core.List.{List, ◌++◌}
use native.Mathlib.Omega.{arith}
use borrow.Author.Tests.{ltb-true, ltb-false}
use borrow.Rule.Slice.PartMut.{put_mid}
use lib.Dec.{ltb}
use lib.ListN.{length, get_or, take, drop, length-take, length-drop, length-append, take-append-drop, get_or-append}
use lib.Seq.{length-take-le, drop-drop, drop_at, take_at, get_or-take, get_or-drop, get_or-append-add, ext_get_or}
use Rattle.buffer_parts.specs.declared.BufferPart.{BufferPart}
use Rattle.buffer_parts.specs.Parts.{InPart, Inside, Overlap, part_of, with_part, Elsewhere}

pub part_length : {A : Type 0} (p : BufferPart) (buffer : List A) → Inside p (length buffer) → length (part_of p buffer) ≡ p.length
part_length p buffer inside = simp (length-take, length-drop) (omega arith)

-- byte i of a part
pub part_byte : {A : Type 0} (p : BufferPart) (buffer : List A) (i : ℕ) (d : A) → i < p.length → get_or (part_of p buffer) i d ≡ get_or buffer (p.offset + i) d
part_byte p buffer i d l = get_or-take p.length (drop p.offset buffer) i d l ∙ get_or-drop p.offset buffer i d

-- from the offset to the end there are `length` bytes
pub part_size : (p : BufferPart) → p.offset + p.length - p.offset ≡ p.length
part_size p = omega arith

-- bytes that were lent as a part of a slice, and came back
pub put_is : {A : Type 0} (p : BufferPart) {k : ℕ} (buffer bytes : List A) → k ≡ p.length → put_mid p.offset k buffer bytes ≡ with_part p buffer bytes
unfolding with_part
put_is {A} p {k} buffer bytes e =
    ap (λ (n : ℕ). put_mid p.offset n buffer bytes) e
    ∙ ap (λ (l : List A). take p.offset buffer ++ (bytes ++ l)) (drop-drop p.length p.offset buffer)

-- a part put back as it was
pub with_same : {A : Type 0} (p : BufferPart) (buffer : List A) → with_part p buffer (part_of p buffer) ≡ buffer
unfolding with_part
with_same {A} p buffer =
    ap (λ (l : List A). take p.offset buffer ++ (part_of p buffer ++ l)) (sym (drop-drop p.length p.offset buffer))
    ∙ ap (λ (l : List A). take p.offset buffer ++ l) (take-append-drop p.length (drop p.offset buffer))
    ∙ take-append-drop p.offset buffer

module _ {A : Type 0} (p : BufferPart) (buffer bytes : List A) (inside : Inside p (length buffer)) (size : length bytes ≡ p.length) where
  front : length (take p.offset buffer) ≡ p.offset
  front = length-take-le p.offset buffer (omega arith)

  abbrev behind : List A
  behind = drop (p.offset + p.length) buffer

  pub with_part_lem : part_of p (with_part p buffer bytes) ≡ bytes
  unfolding with_part
  with_part_lem =
      ap (take p.length) (drop_at (take p.offset buffer) (bytes ++ behind) p.offset front)
      ∙ take_at bytes behind p.length size

  pub with_length : length (with_part p buffer bytes) ≡ length buffer
  unfolding with_part
  with_length = simp (length-append, length-drop) (omega (arith, front))

  before : (d : A) (i : ℕ) → i < p.offset → get_or (with_part p buffer bytes) i d ≡ get_or buffer i d
  unfolding with_part
  before d i l = get_or-append (take p.offset buffer) (bytes ++ behind) d i (omega (arith, front)) ∙ get_or-take p.offset buffer i d l

  after : (d : A) (q : ℕ) → get_or (with_part p buffer bytes) (p.offset + (p.length + q)) d ≡ get_or buffer (p.offset + p.length + q) d
  unfolding with_part
  after d q =
      ap (λ (n : ℕ). get_or (take p.offset buffer ++ (bytes ++ behind)) (n + (p.length + q)) d) (sym front)
      ∙ get_or-append-add (take p.offset buffer) (bytes ++ behind) (p.length + q) d
      ∙ ap (λ (n : ℕ). get_or (bytes ++ behind) (n + q) d) (sym size)
      ∙ get_or-append-add bytes behind q d
      ∙ get_or-drop (p.offset + p.length) buffer q d

  pub outside : (d : A) (i : ℕ) → (InPart p i → ⊥) → get_or (with_part p buffer bytes) i d ≡ get_or buffer i d
  outside d i out = by_place i out (ltb i p.offset) refl
    where
      by_place : (i : ℕ) → (InPart p i → ⊥) → (b : Bool) → ltb i p.offset ≡ b → get_or (with_part p buffer bytes) i d ≡ get_or buffer i d
      by_place i out true e = before d i (ltb-true i p.offset e)
      by_place i out false e = by_end i (ltb-false i p.offset e) out (ltb i (p.offset + p.length)) refl
        where
          by_end : (i : ℕ) → p.offset ≤ i → (InPart p i → ⊥) → (b : Bool) → ltb i (p.offset + p.length) ≡ b
              → get_or (with_part p buffer bytes) i d ≡ get_or buffer i d
          by_end i least out true e = absurd (out (least, ltb-true i (p.offset + p.length) e))
          by_end i least out false e =
              let most = ltb-false i (p.offset + p.length) e in
              let q = i - (p.offset + p.length) in
              let there : p.offset + (p.length + q) ≡ i = omega arith in
              let same : p.offset + p.length + q ≡ i = omega arith in
              subst (λ (j : ℕ). get_or (with_part p buffer bytes) j d ≡ get_or buffer i d) there (after d q ∙ ap (λ (j : ℕ). get_or buffer j d) same)

pub with_Elsewhere : (p : BufferPart) (buffer bytes : List ℕ) → Inside p (length buffer) → length bytes ≡ p.length
    → Elsewhere p buffer (with_part p buffer bytes)
with_Elsewhere p buffer bytes inside size = record { size = with_length p buffer bytes inside size; byte = outside p buffer bytes inside size 0 }

-- a part is the same in two lists where these differ in another part only, and no place is of both
pub part_same : {A : Type 0} (p q : BufferPart) (d : A) (before after : List A) → length after ≡ length before
    → ((i : ℕ) → (InPart p i → ⊥) → get_or after i d ≡ get_or before i d) → (Overlap p q → ⊥) → part_of q after ≡ part_of q before
part_same p q d before after size others apart =
    ext_get_or d _ _ (simp (length-take, length-drop) (rw size)) (λ i l. byte i (omega (arith, length-take q.length (drop q.offset after))))
  where
    byte : (i : ℕ) → i < q.length → get_or (part_of q after) i d ≡ get_or (part_of q before) i d
    byte i l =
        part_byte q after i d l
        ∙ others (q.offset + i) (λ x. apart (q.offset + i, (x, (omega arith, omega arith))))
        ∙ sym (part_byte q before i d l)

-- a part keeps its bytes where only bytes of another are written, and none is of both
pub part_kept : (p q : BufferPart) (before after : List ℕ) → Elsewhere p before after → (Overlap p q → ⊥) → part_of q after ≡ part_of q before
part_kept p q before after others apart = part_same p q 0 before after others.size others.byte apart
