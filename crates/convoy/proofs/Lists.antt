-- Lists of frames whose parts lie inside their buffers, and whose plane parts do not overlap.
-- Assumes nothing.
use Prim.Native.Nat.{ℕ, zero, suc, ◌<◌}
use mathlib.Core.List.{List, [], ◌∷◌}
use native.Mathlib.Omega.{arith}
use lib.ListN.{length}
use Rattle.yuv_error.specs.declared.Lengths.{Lengths}
use Rattle.yuv_error.specs.Lent.{lengths_of}
use Rattle.convoy_parts.specs.declared.ConvoyFrame.{ConvoyFrame}
use Rattle.convoy_parts.specs.Parts.{frame_at, FramesOverlap}
use Rattle.convoy_parts.proofs.Broken.{Unbroken}
use Rattle.convoy.specs.Run.{Planes}
use Rattle.convoy.specs.Called.{FrameInside}
use Rattle.convoy.proofs.Calls.{SameSizes, all_inside}

-- the lengths of a source and of planes
abbrev pub sizes_of : (source : List ℕ) → Planes → Lengths
sizes_of source p = lengths_of source p.y p.u p.v

abbrev pub AllIn : Lengths → List ConvoyFrame → Type 0
AllIn n [] = Unit {0}
AllIn n (f ∷ fs) = FrameInside f n × AllIn n fs

-- a frame's plane parts overlap those of no frame of the list
abbrev pub Clear : ConvoyFrame → List ConvoyFrame → Type 0
Clear f [] = Unit {0}
Clear f (g ∷ gs) = (FramesOverlap f g → ⊥) × Clear f gs

abbrev pub AllApart : List ConvoyFrame → Type 0
AllApart [] = Unit {0}
AllApart (f ∷ fs) = Clear f fs × AllApart fs

pub clear_at : (f : ConvoyFrame) (fs : List ConvoyFrame) (j : ℕ) → j < length fs → Clear f fs → FramesOverlap f (frame_at fs j) → ⊥
clear_at f [] j l c = absurd (omega arith)
clear_at f (g ∷ gs) zero l c = c.0
clear_at f (g ∷ gs) (suc j) l c = clear_at f gs j (omega arith) c.1

-- buffers of the same lengths serve as well
pub inside_sizes : (source : List ℕ) (p q : Planes) (f : ConvoyFrame) → SameSizes p q → FrameInside f (sizes_of source p)
    → FrameInside f (sizes_of source q)
inside_sizes source p q f s i =
    record { source = i.source; y = omega (arith, i.y, s.y); u = omega (arith, i.u, s.u); v = omega (arith, i.v, s.v) }

pub all_sizes : (source : List ℕ) (p q : Planes) (fs : List ConvoyFrame) → SameSizes p q → AllIn (sizes_of source p) fs → AllIn (sizes_of source q) fs
all_sizes source p q [] s all = tt
all_sizes source p q (f ∷ fs) s all = (inside_sizes source p q f s all.0, all_sizes source p q fs s all.1)

-- ---- of the frames of a convoy

AllIn-each : (c : List ConvoyFrame) (n : Lengths) → ((j : ℕ) → j < length c → FrameInside (frame_at c j) n) → AllIn n c
AllIn-each [] n all = tt
AllIn-each (f ∷ fs) n all = (all 0 (omega arith), AllIn-each fs n (λ j l. all (suc j) (omega arith)))

Clear-each : (f : ConvoyFrame) (c : List ConvoyFrame) → ((j : ℕ) → j < length c → FramesOverlap f (frame_at c j) → ⊥) → Clear f c
Clear-each f [] all = tt
Clear-each f (g ∷ gs) all = (all 0 (omega arith), Clear-each f gs (λ j l. all (suc j) (omega arith)))

AllApart-each : (c : List ConvoyFrame) → ((i j : ℕ) → i < j → j < length c → FramesOverlap (frame_at c i) (frame_at c j) → ⊥) → AllApart c
AllApart-each [] all = tt
AllApart-each (f ∷ fs) all =
    (Clear-each f fs (λ j l. all 0 (suc j) (omega arith) (omega arith)), AllApart-each fs (λ i j l m. all (suc i) (suc j) (omega arith) (omega arith)))

pub convoy_in : (c : List ConvoyFrame) (n : Lengths) → Unbroken c n → AllIn n c
convoy_in c n u = AllIn-each c n (all_inside c n u)

pub convoy_apart : (c : List ConvoyFrame) (n : Lengths) → Unbroken c n → AllApart c
convoy_apart c n u = AllApart-each c u.apart
