-- What a run leaves in one plane: no byte changes but those of finished frames' parts. One law for Y, U and V.
-- Assumes nothing.
use Prim.Native.Nat.{ℕ, suc, ◌<◌}
use mathlib.Core.Path.{◌≡◌, refl, ap, ◌∙◌}
use mathlib.Core.List.{List}
use mathlib.Core.Logic.{inl, inr}
use native.Mathlib.Omega.{arith}
use lib.ListN.{length, get_or}
use Rattle.std.specs.Prelude.{Result, Ok}
use Rattle.yuv_error.specs.declared.YuvError.{YuvError}
use Rattle.buffer_parts.specs.declared.BufferPart.{BufferPart}
use Rattle.buffer_parts.specs.Parts.{InPart, Inside, Overlap, part_of, with_part, Elsewhere}
use Rattle.buffer_parts.proofs.Parts.{with_part_lem, with_Elsewhere, part_kept}
use Rattle.convoy_parts.specs.declared.ConvoyFrame.{ConvoyFrame}
use Rattle.convoy_parts.specs.Parts.{FramesOverlap, frame_at}
use Rattle.convoy.specs.Run.{Planes, with_parts, CallPost, Run, ended, stopped, went_on}
use Rattle.convoy.specs.Called.{FrameInside}
use Rattle.convoy.proofs.Calls.{SameSizes, Fits, sizes_same, sizes_then, call_fits, placed_sizes}
use Rattle.convoy.proofs.Lists.{sizes_of, AllIn, Clear, all_sizes}

-- one of the three planes: its bytes, and a frame's part of it
pub record Plane : Type 0 where
  pub part : ConvoyFrame → BufferPart
  pub bytes : Planes → List ℕ
  pub placed : (f : ConvoyFrame) (p left : Planes) → bytes (with_parts f p left) ≡ with_part (part f) (bytes p) (bytes left)
  pub inside : (source : List ℕ) (p : Planes) (f : ConvoyFrame) → FrameInside f (sizes_of source p) → Inside (part f) (length (bytes p))
  pub fits : (f : ConvoyFrame) (p left : Planes) → Fits f p left → length (bytes left) ≡ (part f).length
  pub clear : (f g : ConvoyFrame) → (FramesOverlap f g → ⊥) → Overlap (part f) (part g) → ⊥

abbrev pub luma_plane : Plane
luma_plane = record {
  part = λ f. f.y;
  bytes = λ p. p.y;
  placed = λ f p left. refl;
  inside = λ source p f i. i.y;
  fits = λ f p left x. x.y;
  clear = λ f g out o. out (inl o);
}

abbrev pub cb_plane : Plane
cb_plane = record {
  part = λ f. f.u;
  bytes = λ p. p.u;
  placed = λ f p left. refl;
  inside = λ source p f i. i.u;
  fits = λ f p left x. x.u;
  clear = λ f g out o. out (inr (inl o));
}

abbrev pub cr_plane : Plane
cr_plane = record {
  part = λ f. f.v;
  bytes = λ p. p.v;
  placed = λ f p left. refl;
  inside = λ source p f i. i.v;
  fits = λ f p left x. x.v;
  clear = λ f g out o. out (inr (inr o));
}

module _ (source : List ℕ) where
  pub Run-sizes : (fs : List ConvoyFrame) (p : Planes) (a : Result Unit YuvError) (n : ℕ) (q : Planes) → AllIn (sizes_of source p) fs → Run source fs p a n q
      → SameSizes p q
  Run-sizes fs p a n q all ended = sizes_same refl
  Run-sizes fs p a n q all (stopped left post) = sizes_same refl
  Run-sizes fs p a n q all (went_on {f = f} {fs = gs} {n = m} left post run) =
      let s = placed_sizes f source p all.0 (Ok tt) left post in
      sizes_then s (Run-sizes gs (with_parts f p left) a m q (all_sizes source p (with_parts f p left) gs s all.1) run)

module _ (s : Plane) (source : List ℕ) where
  -- a call changes no byte outside its frame's part
  pub call_Elsewhere : (f : ConvoyFrame) (p left : Planes) → FrameInside f (sizes_of source p) → CallPost f source p (Ok tt) left
      → Elsewhere (s.part f) (s.bytes p) (s.bytes (with_parts f p left))
  call_Elsewhere f p left i post =
      rw (s.placed f p left) (with_Elsewhere (s.part f) (s.bytes p) (s.bytes left) (s.inside source p f i) (s.fits f p left
      (call_fits f source p i (Ok tt) left post)))

  -- what it left stands in the part
  pub call_part : (f : ConvoyFrame) (p left : Planes) → FrameInside f (sizes_of source p) → CallPost f source p (Ok tt) left
      → part_of (s.part f) (s.bytes (with_parts f p left)) ≡ s.bytes left
  call_part f p left i post =
      ap (part_of (s.part f)) (s.placed f p left)
      ∙ with_part_lem (s.part f) (s.bytes p) (s.bytes left) (s.inside source p f i) (s.fits f p left (call_fits f source p i (Ok tt) left post))

  -- a byte of no finished frame's part is as before
  pub byte_kept : (fs : List ConvoyFrame) (p : Planes) (a : Result Unit YuvError) (n : ℕ) (q : Planes) → AllIn (sizes_of source p) fs → Run source fs p a n q
      → (i : ℕ) → ((j : ℕ) → j < n → InPart (s.part (frame_at fs j)) i → ⊥) → get_or (s.bytes q) i 0 ≡ get_or (s.bytes p) i 0
  byte_kept fs p a n q all ended i out = refl
  byte_kept fs p a n q all (stopped left post) i out = refl
  byte_kept fs p a n q all (went_on {f = f} {fs = gs} {n = m} left post run) i out =
      let t = with_parts f p left in
      byte_kept gs t a m q (all_sizes source p t gs (placed_sizes f source p all.0 (Ok tt) left post) all.1) run i
      (λ j l. out (suc j) (omega arith))
      ∙ (call_Elsewhere f p left all.0 post).byte i (out 0 (omega arith))

  -- the part of a frame that overlaps none of them is as before
  pub part_unwritten : (g : ConvoyFrame) (fs : List ConvoyFrame) (p : Planes) (a : Result Unit YuvError) (n : ℕ) (q : Planes) → AllIn (sizes_of source p) fs
      → Clear g fs → Run source fs p a n q → part_of (s.part g) (s.bytes q) ≡ part_of (s.part g) (s.bytes p)
  part_unwritten g fs p a n q all clear ended = refl
  part_unwritten g fs p a n q all clear (stopped left post) = refl
  part_unwritten g fs p a n q all clear (went_on {f = f} {fs = gs} {n = m} left post run) =
      let t = with_parts f p left in
      part_unwritten g gs t a m q (all_sizes source p t gs (placed_sizes f source p all.0 (Ok tt) left post) all.1) clear.1 run
      ∙ part_kept (s.part f) (s.part g) (s.bytes p) (s.bytes t) (call_Elsewhere f p left all.0 post)
      (λ o. s.clear g f clear.0 (o.0, (o.1.1, o.1.0)))
