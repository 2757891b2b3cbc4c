-- Single calls in order, and what a convoy is answered and leaves: docs/RULES.md, 15.3.
-- Assumes nothing.
use Rattle.std.specs.Prelude.{ℕ, suc, ◌≡◌, Bool, true, false, List, [], ◌∷◌, Option, None, Some, Result, Ok, Err}
use Rattle.yuv_error.specs.declared.YuvError.{YuvError}
use Rattle.yuv_error.specs.declared.YuvError.TheVariants.{MalformedRequest, PartsMismatch}
use Rattle.yuv_error.specs.Lent.{lengths_of}
use Rattle.buffer_parts.specs.Parts.{part_of, with_part}
use Rattle.sharp_rgba_to_yuv.specs.FrameCall.{frame_call, FramePost}
use Rattle.convoy_parts.specs.declared.ConvoyFrame.{ConvoyFrame}
use Rattle.convoy.specs.declared.ConvoyAnswer.{ConvoyAnswer}
use Rattle.convoy_parts.specs.Parts.{broken_parts}
use Rattle.definitions.specs.declared.FrameDescription.{FrameDescription}

-- RULES 15.3: the bytes of three planes
pub record Planes : Type 0 where
  pub y : List ℕ
  pub u : List ℕ
  pub v : List ℕ

-- RULES 15.3
abbrev pub planes_of : (y u v : List ℕ) → Planes
planes_of y u v = record { y = y; u = u; v = v }

-- RULES 15.3: a frame's parts of the plane buffers
abbrev pub parts_of : ConvoyFrame → (buffers : Planes) → Planes
parts_of f p = planes_of (part_of f.y p.y) (part_of f.u p.u) (part_of f.v p.v)

-- RULES 15.3: the buffers with other bytes in those parts
abbrev pub with_parts : ConvoyFrame → (buffers parts : Planes) → Planes
with_parts f p q = planes_of (with_part f.y p.y q.y) (with_part f.u p.u q.u) (with_part f.v p.v q.v)

-- RULES 15.3: a single call, by its planes before and after it: the frame call's own promise, or refusal 1 for codes without a meaning
abbrev pub SinglePost : Option FrameDescription → (stride : ℕ) (source : List ℕ) (before : Planes) (answer : Result Unit YuvError) (after : Planes) → Type 0
SinglePost None stride source p a q = (a ≡ Err MalformedRequest) × (q ≡ p)
SinglePost (Some d) stride source p a q = FramePost (frame_call d stride source p.y p.u p.v a q.y q.u q.v)

-- RULES 15.3: the single call of a convoy's frame, on its parts of the buffers; `left` is what it leaves in them
abbrev pub CallPost : ConvoyFrame → (source : List ℕ) (buffers : Planes) (answer : Result Unit YuvError) (left : Planes) → Type 0
CallPost f source p a left = SinglePost f.described f.stride (part_of f.source source) (parts_of f p) a left

-- RULES 15.3: such calls in order, from the buffers before them to the buffers after, with the answer and how many finished
pub data Run (source : List ℕ) : List ConvoyFrame → (before : Planes) → (answer : Result Unit YuvError) (done : ℕ) → (after : Planes) → Type 0 where
  -- no frame is left
  ended : {p : Planes} → Run source [] p (Ok tt) 0 p
  -- the call was refused: its refusal is the answer, no byte is written, and no later frame is begun
  stopped : {f : ConvoyFrame} {fs : List ConvoyFrame} {p : Planes} {e : YuvError} (left : Planes)
      → CallPost f source p (Err e) left → Run source (f ∷ fs) p (Err e) 0 p
  -- the call finished: the next frame's is made over what it left
  went_on : {f : ConvoyFrame} {fs : List ConvoyFrame} {p q : Planes} {a : Result Unit YuvError} {n : ℕ} (left : Planes)
      → CallPost f source p (Ok tt) left → Run source fs (with_parts f p left) a n q → Run source (f ∷ fs) p a (suc n) q

-- RULES 15.3: what a call was given, its answer, and the planes before and after it
pub record ConvoyCall : Type 0 where
  pub convoy : List ConvoyFrame
  pub source : List ℕ
  pub before : Planes
  pub result : ConvoyAnswer
  pub after : Planes

-- RULES 15.3
abbrev pub convoy_call : List ConvoyFrame → (source : List ℕ) (before : Planes) → ConvoyAnswer → (after : Planes) → ConvoyCall
convoy_call c source p r q = record { convoy = c; source = source; before = p; result = r; after = q }

-- RULES 15.2: 18 is asked of a call
abbrev pub is_broken : ConvoyCall → Bool
is_broken k = broken_parts k.convoy (lengths_of k.source k.before.y k.before.u k.before.v)

-- RULES 15.2, 15.3: everything of a call: 18 with nothing written before any frame is begun, or single calls in order
pub record ConvoyPost (k : ConvoyCall) : Type 0 where
  pub broken : is_broken k ≡ true → (k.result ≡ record { answer = Err PartsMismatch; done = 0 }) × (k.after ≡ k.before)
  pub run : is_broken k ≡ false → Run k.source k.convoy k.before k.result.answer k.result.done k.after
