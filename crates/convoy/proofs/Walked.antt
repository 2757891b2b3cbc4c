-- A run that is under way: k frames are finished, and what the frames from k on come to is what all of them come to.
-- Assumes nothing.
use Prim.Native.Nat.{ℕ, suc, ◌+◌, ◌≤◌, ◌<◌}
use mathlib.Core.Path.{◌≡◌, refl, sym, subst}
use mathlib.Core.List.{List, ◌∷◌}
use native.Mathlib.Omega.{arith}
use lib.ListN.{length, drop, drop_of_length-le}
use Rattle.std.proofs.lemmas.List.{drop_more}
use Rattle.yuv_error.specs.declared.YuvError.{YuvError}
use Rattle.std.specs.Prelude.{Result, Ok, Err}
use Rattle.yuv_error.specs.Lent.{lengths_of}
use Rattle.convoy_parts.specs.declared.ConvoyFrame.{ConvoyFrame}
use Rattle.convoy_parts.specs.Parts.{no_frame, frame_at}
use Rattle.convoy.specs.Run.{Planes, CallPost, Run, ended, stopped, went_on}
use Rattle.convoy.specs.Called.{FrameInside, AllInside, Called}
use Rattle.convoy.proofs.Calls.{SameSizes, sizes_same, sizes_then, refused_same, Called-sizes}

pub record Walked (source : List ℕ) (c : List ConvoyFrame) (k : ℕ) (p₀ p : Planes) : Type 0 where
  pub most : k ≤ length c
  pub sizes : SameSizes p₀ p
  pub run : (a : Result Unit YuvError) (n : ℕ) (q : Planes) → Run source (drop k c) p a n q → Run source c p₀ a (k + n) q

pub walked_none : (source : List ℕ) (c : List ConvoyFrame) (p : Planes) → Walked source c 0 p p
walked_none source c p = record {
  most = omega arith;
  sizes = sizes_same refl;
  run = λ a n q r.
      subst (λ (m : ℕ). Run source c p a m q) (let e : n ≡ 0 + n = omega arith in e) r;
}

module _ (source : List ℕ) (c : List ConvoyFrame) (k : ℕ) (p₀ p : Planes) (w : Walked source c k p₀ p) where
  -- the next frame's parts lie inside, since the buffers are as long as they were
  pub next_inside : k < length c → AllInside c (lengths_of source p₀.y p₀.u p₀.v)
      → FrameInside (frame_at c k) (lengths_of source p.y p.u p.v)
  next_inside l all =
      let i = all k l in
      record {
        source = i.source;
        y = omega (arith, i.y, w.sizes.y);
        u = omega (arith, i.u, w.sizes.u);
        v = omega (arith, i.v, w.sizes.v);
      }

  -- the frames from k on are frame k and the others
  here : k < length c → (a : Result Unit YuvError) (n : ℕ) (q : Planes) → Run source (frame_at c k ∷ drop (k + 1) c) p a n q
      → Run source c p₀ a (k + n) q
  here l a n q r = w.run a n q (subst (λ (fs : List ConvoyFrame). Run source fs p a n q) (sym (drop_more c k no_frame l)) r)

  pub walked_then : (l : k < length c) → AllInside c (lengths_of source p₀.y p₀.u p₀.v) → (a : Result Unit YuvError) (q : Planes)
      → Called (frame_at c k) source p a q → a ≡ Ok tt → Walked source c (k + 1) p₀ q
  walked_then l all a q called is = record {
    most = omega arith;
    sizes = sizes_then w.sizes (Called-sizes (frame_at c k) source p (next_inside l all) a q called);
    run = λ b n r run.
        subst (λ (m : ℕ). Run source c p₀ b m r) (let e : k + suc n ≡ k + 1 + n = omega arith in e)
        (here l b (suc n) r (went_on called.left (subst (λ (x : Result Unit YuvError). CallPost (frame_at c k) source p x called.left) is called.call)
        (subst (λ (s : Planes). Run source (drop (k + 1) c) s b n r) called.placed run)));
  }

  pub walked_stop : k < length c → (a : Result Unit YuvError) (q : Planes) (e : YuvError) → Called (frame_at c k) source p a q → a ≡ Err e
      → {j : ℕ} → j ≡ k → Run source c p₀ (Err e) j q
  walked_stop l a q e called is {j} place =
      let f = frame_at c k in
      let refused = subst (λ (x : Result Unit YuvError). Called f source p x q) is called in
      let r = here l (Err e) 0 p (stopped refused.left refused.call) in
      subst (λ (s : Planes). Run source c p₀ (Err e) j s) (sym (refused_same f source p e q refused))
      (subst (λ (m : ℕ). Run source c p₀ (Err e) m p) (let z : k + 0 ≡ j = omega (arith, place) in z) r)

  pub walked_end : length c ≤ k → Run source c p₀ (Ok tt) (length c) p
  walked_end l =
      let r = w.run (Ok tt) 0 p (subst (λ (fs : List ConvoyFrame). Run source fs p (Ok tt) 0 p) (sym (drop_of_length-le c l)) ended) in
      subst (λ (m : ℕ). Run source c p₀ (Ok tt) m p) (let z : k + 0 ≡ length c = omega (arith, w.most) in z) r
