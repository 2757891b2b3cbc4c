-- A band served is answered by the first rule that holds, and where it is refused, every byte of every buffer is as it was: those of the frame's
-- parts by the band call's promise, all others since only the parts are lent.
-- Assumes nothing.
use Prim.Native.Nat.{ℕ, ◌+◌, ◌-◌, ◌≤◌, ◌<◌}
use mathlib.Core.Path.{◌≡◌, refl, sym, ap, subst, ◌∙◌}
use mathlib.Core.Bool.{Bool, true, false, cond, not}
use mathlib.Core.List.{List}
use native.Mathlib.Omega.{arith}
use borrow.Author.Tests.{ltb-true, ltb-false}
use lib.Dec.{ltb}
use lib.ListN.{get_or}
use lib.Seq.{ext_get_or}
use Rattle.yuv_error.specs.Numbers.{numbers, numbers_of}
use Rattle.yuv_error.specs.Rules.{first_numbers}
use Rattle.yuv_error.specs.Lent.{taken}
use Rattle.band_calls.specs.declared.FrameAnswer.{FrameAnswer}
use Rattle.band_calls.specs.BandCall.{rules_of}
use Rattle.band_calls.proofs.Post.{refused_writes_nothing}
use Rattle.buffer_parts.specs.declared.BufferPart.{BufferPart}
use Rattle.buffer_parts.specs.Parts.{part_of, Elsewhere}
use Rattle.buffer_parts.proofs.Parts.{part_byte}
use Rattle.desk_places.specs.declared.OpenFrame.{OpenFrame}
use Rattle.desk_places.specs.declared.WaitingBand.{WaitingBand}
use Rattle.desk_bands.specs.Buffers.{Buffers, buffers_of, are_lent, band_call_in, Converted, Outside, IfLent, ServePost, ServedRight}

-- a byte of the part
in_part : (p : BufferPart) (x y : List ℕ) (i : ℕ) → p.offset ≤ i → i < p.offset + p.length → part_of p y ≡ part_of p x → get_or y i 0 ≡ get_or x i 0
in_part p x y i least less e =
    let is : p.offset + (i - p.offset) ≡ i = omega arith in
    let few : i - p.offset < p.length = omega arith in
    subst (λ (n : ℕ). get_or y n 0 ≡ get_or x n 0) is
    (sym (part_byte p y (i - p.offset) 0 few) ∙ ap (λ (z : List ℕ). get_or z (i - p.offset) 0) e ∙ part_byte p x (i - p.offset) 0 few)

same_buffer : (p : BufferPart) (x y : List ℕ) → Elsewhere p x y → part_of p y ≡ part_of p x → y ≡ x
same_buffer p x y others e = ext_get_or 0 y x others.size (λ i l. by_start i (ltb i p.offset) refl)
  where
    by_start : (i : ℕ) (b : Bool) → ltb i p.offset ≡ b → get_or y i 0 ≡ get_or x i 0
    by_start i true before = others.byte i (λ z. omega (arith, z.0, ltb-true i p.offset before))
    by_start i false after = by_end (ltb i (p.offset + p.length)) refl
      where
        by_end : (b : Bool) → ltb i (p.offset + p.length) ≡ b → get_or y i 0 ≡ get_or x i 0
        by_end true within = in_part p x y i (ltb-false i p.offset after) (ltb-true i (p.offset + p.length) within) e
        by_end false past = others.byte i (λ z. omega (arith, z.1, ltb-false i (p.offset + p.length) past))

Converted-right : (f : OpenFrame) (b : WaitingBand) (p : Buffers) (r : FrameAnswer) (q : Buffers) → are_lent f b p ≡ true → Converted f b p r q
    → ServedRight f b p r q
Converted-right f b p r q inside made = record {
  answered = made.met.answered ∙ ap (λ (t : Bool). cond (not t) (numbers 18 0 0) (first_numbers (rules_of (band_call_in f b p r q)))) (sym inside);
  refused = λ is.
      let none : (n : ℕ) → taken r.answer n ≡ 0 = λ n. rw is in
      let u = refused_writes_nothing {k = band_call_in f b p r q} none made.met in
      let o = made.others in
      let w = f.parts in (
        u.0,
        λ i. buffers_of (o.source i) (same_buffer w.y p.y q.y o.y u.1 i) (same_buffer w.u p.u q.u o.u u.2 i)
            (same_buffer w.v p.v q.v o.v u.3 i) (same_buffer w.carried p.carried q.carried o.carried u.4 i),
      );
}

Outside-right : (f : OpenFrame) (b : WaitingBand) (p : Buffers) (r : FrameAnswer) (q : Buffers) → are_lent f b p ≡ false → Outside f p r q
    → ServedRight f b p r q
Outside-right f b p r q out post = record {
  answered = ap (λ (x : FrameAnswer). numbers_of x.answer) post.answer
      ∙ ap (λ (t : Bool). cond (not t) (numbers 18 0 0) (first_numbers (rules_of (band_call_in f b p r q)))) (sym out);
  refused = λ is. (ap (λ (x : FrameAnswer). x.state) post.answer, post.buffers);
}

pub served_right : (f : OpenFrame) (b : WaitingBand) (p : Buffers) (r : FrameAnswer) (q : Buffers) → ServePost f b p r q → ServedRight f b p r q
served_right f b p r q post = (elim (are_lent f b p) as (λ t. are_lent f b p ≡ t → IfLent t (Converted f b p r q) (Outside f p r q)
    → ServedRight f b p r q) [ true ↦ Converted-right f b p r q | false ↦ Outside-right f b p r q ]) refl post
