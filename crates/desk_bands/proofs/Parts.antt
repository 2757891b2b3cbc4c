-- A band call on parts of the buffers that were lent and came back.
-- Assumes nothing.
use Prim.Native.Nat.{ℕ, ◌+◌, ◌-◌}
use mathlib.Core.Path.{◌≡◌, refl, sym, ap, subst, ◌∙◌}
use mathlib.Core.Bool.{true, false, and-eq-true_iff}
use mathlib.Core.List.{List}
use borrow.Rule.Slice.PartMut.{mid_of, put_mid}
use lib.ListN.{length, take, drop}
use Rattle.yuv_error.specs.declared.YuvError.TheVariants.{PartsMismatch}
use Rattle.std.specs.Prelude.{Err}
use Rattle.band_calls.specs.declared.FrameAnswer.{FrameAnswer}
use Rattle.band_calls.specs.BandCall.{band_call, BandPost}
use Rattle.buffer_parts.specs.declared.BufferPart.{BufferPart}
use Rattle.buffer_parts.specs.Parts.{Inside, is_inside, part_of, with_part}
use Rattle.buffer_parts.proofs.Tests.{Inside-yes}
use Rattle.buffer_parts.proofs.Parts.{part_length, part_size, put_is, with_part_lem, with_Elsewhere}
use Rattle.desk_places.specs.declared.FrameParts.{FrameParts}
use Rattle.desk_places.specs.declared.OpenFrame.{OpenFrame}
use Rattle.desk_places.specs.declared.WaitingBand.{WaitingBand}
use Rattle.desk_places.specs.Places.{are_inside}
use Rattle.desk_bands.specs.Buffers.{Buffers, buffers_of, lengths_of, are_lent, AllInside, Converted, ServePost}

-- every part lies in its buffer
pub all_inside : (f : OpenFrame) (b : WaitingBand) (p : Buffers) → are_lent f b p ≡ true → AllInside f b p
all_inside f b p e =
    let w = f.parts in
    let s = (and-eq-true_iff (is_inside b.source (length p.source)) (are_inside w (lengths_of p))).0 e in
    let y = (and-eq-true_iff (is_inside w.y (length p.y)) _).0 s.1 in
    let u = (and-eq-true_iff (is_inside w.u (length p.u)) _).0 y.1 in
    let v = (and-eq-true_iff (is_inside w.v (length p.v)) _).0 u.1 in
    record {
      source = Inside-yes b.source _ s.0;
      y = Inside-yes w.y _ y.0;
      u = Inside-yes w.u _ u.0;
      v = Inside-yes w.v _ v.0;
      carried = Inside-yes w.carried _ v.1;
    }

-- ---- the call on the parts, and the buffers with what it left in their place

module _ (f : OpenFrame) (b : WaitingBand) (p : Buffers) (r : FrameAnswer) (y u v carried : List ℕ) (all : AllInside f b p) where
  abbrev w : FrameParts
  w = f.parts

  abbrev pub with_parts : Buffers
  with_parts =
      buffers_of p.source (with_part w.y p.y y) (with_part w.u p.u u) (with_part w.v p.v v)
      (with_part w.carried p.carried carried)

  pub converted : length y ≡ w.y.length → length u ≡ w.u.length → length v ≡ w.v.length → length carried ≡ w.carried.length
      → BandPost (band_call f.state b.rows b.stride (part_of b.source p.source) (part_of w.y p.y) (part_of w.u p.u)
      (part_of w.v p.v) (part_of w.carried p.carried) r y u v carried)
      → Converted f b p r with_parts
  converted ys us vs cs post =
      record {
        met = subst BandPost (λ i. band_call f.state b.rows b.stride (part_of b.source p.source) (part_of w.y p.y)
            (part_of w.u p.u) (part_of w.v p.v) (part_of w.carried p.carried) r
            (sym (with_part_lem w.y p.y y all.y ys) i) (sym (with_part_lem w.u p.u u all.u us) i)
            (sym (with_part_lem w.v p.v v all.v vs) i) (sym (with_part_lem w.carried p.carried carried all.carried cs) i)) post;
        others = record {
          source = refl;
          y = with_Elsewhere w.y p.y y all.y ys;
          u = with_Elsewhere w.u p.u u all.u us;
          v = with_Elsewhere w.v p.v v all.v vs;
          carried = with_Elsewhere w.carried p.carried carried all.carried cs;
        };
      }

-- ---- the same as it is lent in the code: each part from its offset to its end

abbrev pub lent_of : BufferPart → List ℕ → List ℕ
lent_of p buffer = mid_of p.offset (p.offset + p.length - p.offset) buffer

abbrev pub back_of : BufferPart → (buffer bytes : List ℕ) → List ℕ
back_of p buffer bytes = put_mid p.offset (p.offset + p.length - p.offset) buffer bytes

lent_is : (p : BufferPart) (buffer : List ℕ) → lent_of p buffer ≡ part_of p buffer
lent_is p buffer = ap (λ (n : ℕ). take n (drop p.offset buffer)) (part_size p)

size_of : (p : BufferPart) (buffer bytes : List ℕ) → Inside p (length buffer) → length bytes ≡ length (lent_of p buffer) → length bytes ≡ p.length
size_of p buffer bytes inside e = e ∙ ap length (lent_is p buffer) ∙ part_length p buffer inside

module _ (f : OpenFrame) (b : WaitingBand) (p : Buffers) (r : FrameAnswer) (y u v carried : List ℕ) (all : AllInside f b p)
    (ys : length y ≡ length (lent_of f.parts.y p.y)) (us : length u ≡ length (lent_of f.parts.u p.u))
    (vs : length v ≡ length (lent_of f.parts.v p.v)) (cs : length carried ≡ length (lent_of f.parts.carried p.carried)) where
  abbrev x : FrameParts
  x = f.parts

  pub serve_inside : BandPost (band_call f.state b.rows b.stride (lent_of b.source p.source) (lent_of x.y p.y)
      (lent_of x.u p.u) (lent_of x.v p.v) (lent_of x.carried p.carried) r y u v carried)
      → Converted f b p r (buffers_of p.source (back_of x.y p.y y) (back_of x.u p.u u) (back_of x.v p.v v)
      (back_of x.carried p.carried carried))
  serve_inside post =
      let on_parts = subst BandPost (λ i. band_call f.state b.rows b.stride (lent_is b.source p.source i) (lent_is x.y p.y i)
      (lent_is x.u p.u i) (lent_is x.v p.v i) (lent_is x.carried p.carried i) r y u v carried) post in
      let made = converted f b p r y u v carried all (size_of x.y p.y y all.y ys) (size_of x.u p.u u all.u us)
      (size_of x.v p.v v all.v vs) (size_of x.carried p.carried carried all.carried cs) on_parts in
      subst (Converted f b p r) (λ i. buffers_of p.source (sym (put_is x.y p.y y (part_size x.y)) i) (sym (put_is x.u p.u u (part_size x.u)) i)
      (sym (put_is x.v p.v v (part_size x.v)) i) (sym (put_is x.carried p.carried carried (part_size x.carried)) i)) made

-- 18
pub serve_outside : (f : OpenFrame) (b : WaitingBand) (p : Buffers) → are_lent f b p ≡ false
    → ServePost f b p (record { state = f.state; answer = Err PartsMismatch }) p
serve_outside f b p out = rw out (record { answer = refl; buffers = refl })
