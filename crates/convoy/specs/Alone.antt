-- What single calls in order come to where parts lie inside and plane parts do not overlap: docs/RULES.md, 15.4.
-- Assumes nothing.
use Rattle.std.specs.Prelude.{ℕ, ◌≤◌, ◌<◌, ◌≡◌, false, List, length, get_or, Ok, Err}
use Rattle.yuv_error.specs.declared.YuvError.{YuvError}
use Rattle.buffer_parts.specs.declared.BufferPart.{BufferPart}
use Rattle.buffer_parts.specs.Parts.{InPart}
use Rattle.convoy_parts.specs.declared.ConvoyFrame.{ConvoyFrame}
use Rattle.convoy_parts.specs.Parts.{frame_at}
use Rattle.convoy.specs.Run.{parts_of, CallPost, ConvoyCall, is_broken, ConvoyPost}

-- RULES 15.4: every byte of a buffer that is in no finished frame's part of it is as before
pub record OthersKept (part : ConvoyFrame → BufferPart) (c : List ConvoyFrame) (done : ℕ) (before after : List ℕ) : Type 0 where
  pub size : length after ≡ length before
  pub byte : (i : ℕ) → ((j : ℕ) → j < done → InPart (part (frame_at c j)) i → ⊥) → get_or after i 0 ≡ get_or before i 0

-- RULES 15.4: what is not written, of a refused call too: the parts of the refused frame and of later ones, and every byte of no finished frame's
-- part; after 18, with no frame finished, that is every byte
pub record Unwritten (k : ConvoyCall) : Type 0 where
  pub unbegun : (j : ℕ) → k.result.done ≤ j → j < length k.convoy → let f = frame_at k.convoy j in parts_of f k.after ≡ parts_of f k.before
  pub y_others : OthersKept (λ (f : ConvoyFrame). f.y) k.convoy k.result.done k.before.y k.after.y
  pub u_others : OthersKept (λ (f : ConvoyFrame). f.u) k.convoy k.result.done k.before.u k.after.u
  pub v_others : OthersKept (λ (f : ConvoyFrame). f.v) k.convoy k.result.done k.before.v k.after.v

-- RULES 15.4
pub record AsAlone (k : ConvoyCall) : Type 0 where
  -- each finished frame's parts are in the end what its call alone, over the buffers as they were lent, leaves in them
  pub finished : (j : ℕ) → j < k.result.done → let f = frame_at k.convoy j in CallPost f k.source k.before (Ok tt) (parts_of f k.after)
  -- all of them, where nothing is refused
  pub all : k.result.answer ≡ Ok tt → k.result.done ≡ length k.convoy
  -- or else the next frame's call, alone over the buffers as they were lent, is refused with that answer
  pub refused : (e : YuvError) → k.result.answer ≡ Err e
      → (k.result.done < length k.convoy)
      × (let f = frame_at k.convoy k.result.done in CallPost f k.source k.before (Err e) (parts_of f k.before))
  pub unwritten : Unwritten k

-- RULES 15.4: each frame as if alone
abbrev pub EachAlone : Type 0
EachAlone = (k : ConvoyCall) → ConvoyPost k → is_broken k ≡ false → AsAlone k

-- RULES 15.3: two calls that are given the same give the same answer and leave the same planes, byte for byte
abbrev pub OneOutcome : Type 0
OneOutcome =
    (k j : ConvoyCall) → ConvoyPost k → ConvoyPost j → j.convoy ≡ k.convoy → j.source ≡ k.source → j.before ≡ k.before
    → (k.result ≡ j.result) × (k.after ≡ j.after)
