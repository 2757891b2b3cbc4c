-- The test of refusal 18 says yes exactly where the convoy is broken, and what is known where it says no.
-- Assumes nothing.
use Prim.Native.Nat.{ℕ, zero, suc, ◌≤◌, ◌<◌}
use mathlib.Core.Path.{◌≡◌, refl, sym, ap}
use mathlib.Core.Bool.{Bool, true, false, not, ◌||◌, true≢false}
use mathlib.Core.List.{List, [], ◌∷◌}
use mathlib.Core.Logic.{◌⊎◌, inl, inr}
use native.Mathlib.Omega.{arith}
use borrow.Author.Tests.{ltb-true, ltb-false, lt-ltb, not-true}
use lib.Dec.{ltb}
use lib.ListN.{length}
use Rattle.std.specs.List.{list_any}
use Rattle.std.proofs.lemmas.Bool.{or_left, or_right, or_parts, or_cases, both_ways, false_from_ne_true}
use Rattle.yuv_error.specs.declared.Lengths.{Lengths}
use Rattle.buffer_parts.specs.declared.BufferPart.{BufferPart}
use Rattle.buffer_parts.specs.Parts.{Inside, is_inside, are_overlapping}
use Rattle.buffer_parts.proofs.Tests.{tests_are_exact}
use Rattle.convoy_parts.specs.declared.ConvoyFrame.{ConvoyFrame}
use Rattle.convoy_parts.specs.Parts.{frame_at, FrameOutside, FramesOverlap, Broken, too_many, outside, overlapping}
use Rattle.convoy_parts.specs.Parts.{is_frame_outside, do_frames_overlap, any_outside, any_overlap, broken_parts, BrokenIsExact}

-- ---- of one frame, and of two

not-Inside : (p : BufferPart) (n : ℕ) → not (is_inside p n) ≡ true → Inside p n → ⊥
not-Inside p n e i = both_ways _ (not-true (is_inside p n) e) ((tests_are_exact.inside p n).1 i)

is_not-Inside : (p : BufferPart) (n : ℕ) → (Inside p n → ⊥) → not (is_inside p n) ≡ true
is_not-Inside p n f = ap not (false_from_ne_true (is_inside p n) (λ e. f ((tests_are_exact.inside p n).0 e)))

outside_yes : (f : ConvoyFrame) (n : Lengths) → is_frame_outside f n ≡ true → FrameOutside f n
outside_yes f n e = go (or_cases _ (not (is_inside f.v n.v)) e)
  where
    last : (not (is_inside f.source n.source) ≡ true) ⊎ (not (is_inside f.y n.y) ≡ true) → FrameOutside f n
    last (inl e) = inl (not-Inside f.source n.source e)
    last (inr e) = inr (inl (not-Inside f.y n.y e))

    more : (not (is_inside f.source n.source) || not (is_inside f.y n.y) ≡ true) ⊎ (not (is_inside f.u n.u) ≡ true) → FrameOutside f n
    more (inl e) = last (or_cases (not (is_inside f.source n.source)) (not (is_inside f.y n.y)) e)
    more (inr e) = inr (inr (inl (not-Inside f.u n.u e)))

    go : (not (is_inside f.source n.source) || not (is_inside f.y n.y) || not (is_inside f.u n.u) ≡ true)
        ⊎ (not (is_inside f.v n.v) ≡ true) → FrameOutside f n
    go (inl e) = more (or_cases (not (is_inside f.source n.source) || not (is_inside f.y n.y)) (not (is_inside f.u n.u)) e)
    go (inr e) = inr (inr (inr (not-Inside f.v n.v e)))

outside_found : (f : ConvoyFrame) (n : Lengths) → FrameOutside f n → is_frame_outside f n ≡ true
outside_found f n (inl x) = or_left _ _ (or_left _ _ (or_left _ _ (is_not-Inside f.source n.source x)))
outside_found f n (inr (inl x)) =
    or_left _ _ (or_left _ _ (or_right (not (is_inside f.source n.source)) _ (is_not-Inside f.y n.y x)))
outside_found f n (inr (inr (inl x))) =
    or_left _ _ (or_right (not (is_inside f.source n.source) || not (is_inside f.y n.y)) _ (is_not-Inside f.u n.u x))
outside_found f n (inr (inr (inr x))) =
    or_right (not (is_inside f.source n.source) || not (is_inside f.y n.y) || not (is_inside f.u n.u)) _
    (is_not-Inside f.v n.v x)

Overlap-yes : (f g : ConvoyFrame) → do_frames_overlap f g ≡ true → FramesOverlap f g
Overlap-yes f g e = go (or_cases _ (are_overlapping f.v g.v) e)
  where
    more : (are_overlapping f.y g.y ≡ true) ⊎ (are_overlapping f.u g.u ≡ true) → FramesOverlap f g
    more (inl e) = inl ((tests_are_exact.overlap f.y g.y).0 e)
    more (inr e) = inr (inl ((tests_are_exact.overlap f.u g.u).0 e))

    go : (are_overlapping f.y g.y || are_overlapping f.u g.u ≡ true) ⊎ (are_overlapping f.v g.v ≡ true) → FramesOverlap f g
    go (inl e) = more (or_cases (are_overlapping f.y g.y) (are_overlapping f.u g.u) e)
    go (inr e) = inr (inr ((tests_are_exact.overlap f.v g.v).0 e))

Overlap-found : (f g : ConvoyFrame) → FramesOverlap f g → do_frames_overlap f g ≡ true
Overlap-found f g (inl x) = or_left _ _ (or_left _ _ ((tests_are_exact.overlap f.y g.y).1 x))
Overlap-found f g (inr (inl x)) = or_left _ _ (or_right (are_overlapping f.y g.y) _ ((tests_are_exact.overlap f.u g.u).1 x))
Overlap-found f g (inr (inr x)) =
    or_right (are_overlapping f.y g.y || are_overlapping f.u g.u) _ ((tests_are_exact.overlap f.v g.v).1 x)

-- ---- of a list of frames

-- a frame of the list passes the test
record Passes (test : ConvoyFrame → Bool) (c : List ConvoyFrame) : Type 0 where
  place : ℕ
  below : place < length c
  passes : test (frame_at c place) ≡ true

any_found : (test : ConvoyFrame → Bool) (c : List ConvoyFrame) → list_any test c ≡ true → Passes test c
any_found test [] e = absurd (true≢false (sym e))
any_found test (f ∷ fs) e = go (or_cases (test f) (list_any test fs) e) (any_found test fs)
  where
    go : (test f ≡ true) ⊎ (list_any test fs ≡ true) → (list_any test fs ≡ true → Passes test fs) → Passes test (f ∷ fs)
    go (inl e) later = record { place = 0; below = omega arith; passes = e }
    go (inr e) later = let p = later e in record { place = suc p.place; below = omega (arith, p.below); passes = p.passes }

any_one : (test : ConvoyFrame → Bool) (c : List ConvoyFrame) (j : ℕ) → j < length c → test (frame_at c j) ≡ true → list_any test c ≡ true
any_one test [] j l e = absurd (omega arith)
any_one test (f ∷ fs) zero l e = or_left _ _ e
any_one test (f ∷ fs) (suc j) l e = or_right (test f) _ (any_one test fs j (omega arith) e)

-- two frames of the list overlap
record Two (c : List ConvoyFrame) : Type 0 where
  first : ℕ
  second : ℕ
  order : first < second
  below : second < length c
  overlap : do_frames_overlap (frame_at c first) (frame_at c second) ≡ true

Two-found : (c : List ConvoyFrame) → any_overlap c ≡ true → Two c
Two-found [] e = absurd (true≢false (sym e))
Two-found (f ∷ fs) e = go (or_cases (list_any (do_frames_overlap f) fs) (any_overlap fs) e) (Two-found fs)
  where
    go : (list_any (do_frames_overlap f) fs ≡ true) ⊎ (any_overlap fs ≡ true) → (any_overlap fs ≡ true → Two fs) → Two (f ∷ fs)
    go (inl e) later =
        let p = any_found (do_frames_overlap f) fs e in
        record { first = 0; second = suc p.place; order = omega arith; below = omega (arith, p.below); overlap = p.passes }
    go (inr e) later =
        let t = later e in
        record {
          first = suc t.first;
          second = suc t.second;
          order = omega (arith, t.order);
          below = omega (arith, t.below);
          overlap = t.overlap;
        }

two_one : (c : List ConvoyFrame) (i j : ℕ) → i < j → j < length c → do_frames_overlap (frame_at c i) (frame_at c j) ≡ true → any_overlap c ≡ true
two_one [] i j order l e = absurd (omega arith)
two_one (f ∷ fs) i zero order l e = absurd (omega arith)
two_one (f ∷ fs) zero (suc j) order l e = or_left _ _ (any_one (do_frames_overlap f) fs j (omega arith) e)
two_one (f ∷ fs) (suc i) (suc j) order l e =
    or_right (list_any (do_frames_overlap f) fs) _ (two_one fs i j (omega arith) (omega arith) e)

-- ---- 18

module _ (c : List ConvoyFrame) (n : Lengths) where
  Broken-yes : broken_parts c n ≡ true → Broken c n
  unfolding broken_parts
  Broken-yes e = go (or_cases (ltb 64 (length c)) (any_outside n c || any_overlap c) e)
    where
      more : (any_outside n c ≡ true) ⊎ (any_overlap c ≡ true) → Broken c n
      more (inl e) =
          let p = any_found (λ (f : ConvoyFrame). is_frame_outside f n) c e in
          outside p.place p.below (outside_yes (frame_at c p.place) n p.passes)
      more (inr e) =
          let t = Two-found c e in
          overlapping t.first t.second t.order t.below (Overlap-yes (frame_at c t.first) (frame_at c t.second) t.overlap)

      go : (ltb 64 (length c) ≡ true) ⊎ (any_outside n c || any_overlap c ≡ true) → Broken c n
      go (inl e) = too_many (ltb-true 64 (length c) e)
      go (inr e) = more (or_cases (any_outside n c) (any_overlap c) e)

  Broken-found : Broken c n → broken_parts c n ≡ true
  unfolding broken_parts
  Broken-found (too_many l) = or_left _ _ (lt-ltb 64 (length c) l)
  Broken-found (outside k l x) =
      or_right (ltb 64 (length c)) _ (or_left _ _
      (any_one (λ (f : ConvoyFrame). is_frame_outside f n) c k l (outside_found (frame_at c k) n x)))
  Broken-found (overlapping j k l m x) =
      or_right (ltb 64 (length c)) _ (or_right (any_outside n c) _
      (two_one c j k l m (Overlap-found (frame_at c j) (frame_at c k) x)))

pub broken_is_exact : BrokenIsExact
broken_is_exact c n = (Broken-yes c n, Broken-found c n)

-- what is known where the test says no
pub record Unbroken (c : List ConvoyFrame) (n : Lengths) : Type 0 where
  pub few : length c ≤ 64
  pub inside : (k : ℕ) → k < length c → FrameOutside (frame_at c k) n → ⊥
  pub apart : (j k : ℕ) → j < k → k < length c → FramesOverlap (frame_at c j) (frame_at c k) → ⊥

pub unbroken : (c : List ConvoyFrame) (n : Lengths) → broken_parts c n ≡ false → Unbroken c n
unfolding broken_parts
unbroken c n e = record {
  few = ltb-false 64 (length c) (or_parts (ltb 64 (length c)) (any_outside n c || any_overlap c) e).0;
  inside = λ k l x. both_ways _ e (Broken-found c n (outside k l x));
  apart = λ j k l m x. both_ways _ e (Broken-found c n (overlapping j k l m x));
}

-- a part that is not outside is inside
pub is_Inside : (p : BufferPart) (n : ℕ) → ((Inside p n → ⊥) → ⊥) → Inside p n
is_Inside p n f = go (is_inside p n) refl
  where
    go : (b : Bool) → is_inside p n ≡ b → Inside p n
    go true e = (tests_are_exact.inside p n).0 e
    go false e = absurd (f (λ i. both_ways _ e ((tests_are_exact.inside p n).1 i)))
