-- What the steps of a convoy promise to one another. This serves the contracts of smaller functions; the meaning stands in Run.
-- Assumes nothing.
use Rattle.std.specs.Prelude.{ℕ, ◌<◌, ◌≡◌, List, length, Result}
use Rattle.yuv_error.specs.declared.YuvError.{YuvError}
use Rattle.yuv_error.specs.declared.Lengths.{Lengths}
use Rattle.buffer_parts.specs.Parts.{Inside}
use Rattle.convoy_parts.specs.declared.ConvoyFrame.{ConvoyFrame}
use Rattle.convoy_parts.specs.Parts.{frame_at}
use Rattle.convoy.specs.Run.{Planes, with_parts, CallPost}

-- the parts of a frame lie inside their buffers
pub record FrameInside (f : ConvoyFrame) (n : Lengths) : Type 0 where
  pub source : Inside f.source n.source
  pub y : Inside f.y n.y
  pub u : Inside f.u n.u
  pub v : Inside f.v n.v

-- so of every frame that is given
abbrev pub AllInside : List ConvoyFrame → Lengths → Type 0
AllInside c n = (k : ℕ) → k < length c → FrameInside (frame_at c k) n

-- a frame's call was made on its parts, and what it left in them is there
pub record Called (f : ConvoyFrame) (source : List ℕ) (before : Planes) (answer : Result Unit YuvError) (after : Planes) : Type 0 where
  pub left : Planes
  pub call : CallPost f source before answer left
  pub placed : after ≡ with_parts f before left
