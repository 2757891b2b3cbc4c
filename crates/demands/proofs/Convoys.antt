-- What is claimed of convoys. A single call by a frame's numbers on its parts is the call that the convoy makes at its turn, and such calls have one
-- outcome.
-- Assumes nothing.
use Prim.Native.Nat.{ℕ, ◌≤◌, ◌<◌}
use mathlib.Core.Path.{◌≡◌, sym, ap, subst, ◌∙◌}
use mathlib.Core.Bool.{Bool, true, false, cond}
use mathlib.Core.List.{List}
use native.Mathlib.Omega.{arith}
use lib.ListN.{length, drop}
use Rattle.std.specs.Prelude.{Option, None, Some, Result, Ok, Err}
use Rattle.yuv_error.specs.declared.YuvError.{YuvError}
use Rattle.yuv_error.specs.declared.YuvError.TheVariants.{MalformedRequest}
use Rattle.yuv_error.specs.Numbers.{Numbers, numbers_of}
use Rattle.sharp_rgba_to_yuv.specs.FrameCall.{FramePost, Unwritten}
use Rattle.band_lists.specs.BandLists.{Either}
use Rattle.call_numbers.specs.Codes.{at, description_of, is_malformed}
use Rattle.frame_calls.specs.Calls.{ExportedFrame, frame_with, FrameAnswered, FrameKept}
use Rattle.frame_calls.specs.Lists.{numbers_told, done_told}
use Rattle.frame_calls.proofs.Lists.{is_refused}
use Rattle.buffer_parts.specs.Parts.{part_of}
use Rattle.buffer_parts.proofs.Tests.{tests_are_exact}
use Rattle.definitions.specs.declared.FrameDescription.{FrameDescription}
use Rattle.convoy_parts.specs.declared.ConvoyFrame.{ConvoyFrame}
use Rattle.convoy_parts.specs.Parts.{frame_at}
use Rattle.convoy_parts.proofs.Broken.{broken_is_exact}
use Rattle.convoy.specs.Run.{Planes, planes_of, parts_of, SinglePost, CallPost, ConvoyCall, ConvoyPost}
use Rattle.convoy.proofs.Calls.{planes_equal}
use Rattle.convoy.proofs.Outcome.{call_one, one_outcome}
use Rattle.convoy.proofs.Answers.{not_broken, alone, only_Broken, Broken-keeps, finished_none, refused_Lowest, all_accepted, no_frames}
use Rattle.convoy_calls.specs.Numbers.{numbers_at, described_by, frame_of}
use Rattle.convoy_calls.specs.Calls.{ExportedConvoy, ConvoyKept}
use Rattle.convoy_calls.proofs.Frames.{convoy_length, convoy_first, convoy_frame, frame_described, frame_stride}
use Rattle.demands.proofs.ConvoyTold.{convoy_met, convoy_told}
use Rattle.demands.specs.Demands.{as_convoy, IsBroken, SingleOf, Convoys}

-- a frame call by numbers is the single call of what they describe
single : (e : ExportedFrame) (a : Result Unit YuvError) → FrameAnswered e a
    → SinglePost (described_by e.numbers e.custom) (at e.numbers 0) e.source (planes_of e.y e.u e.v) a
    (planes_of e.y' e.u' e.v')
single e a p = go (is_malformed 1 e.numbers) p
  where
    go : (b : Bool) → Either b ((a ≡ Err MalformedRequest) × Unwritten (frame_with e a)) (FramePost (frame_with e a))
        → SinglePost (cond b None (Some (description_of (drop 1 e.numbers) e.custom))) (at e.numbers 0) e.source
        (planes_of e.y e.u e.v) a (planes_of e.y' e.u' e.v')
    go true p = (p.0, planes_equal p.1.0 p.1.1 p.1.2)
    go false p = p

-- a single call with a convoy's frame's description, stride, source and planes is that frame's
turn : (f : ConvoyFrame) (source : List ℕ) (before : Planes) (d : Option FrameDescription) (stride : ℕ) (bytes : List ℕ) (planes : Planes) (a : Result Unit YuvError)
    (left : Planes)
    → d ≡ f.described → stride ≡ f.stride → bytes ≡ part_of f.source source → planes ≡ parts_of f before → SinglePost d stride bytes planes a left
    → CallPost f source before a left
turn f source before d stride bytes planes a left ed es eb ep post =
    subst (λ (x : Planes). SinglePost f.described f.stride (part_of f.source source) x a left) ep
    (subst (λ (x : List ℕ). SinglePost f.described f.stride x planes a left) eb
    (subst (λ (x : ℕ). SinglePost f.described x bytes planes a left) es
    (subst (λ (x : Option FrameDescription). SinglePost x stride bytes planes a left) ed post)))

module _ (k : ExportedConvoy) (p : ConvoyKept k) (whole : IsBroken (as_convoy k) → ⊥) where
  abbrev call : ConvoyCall
  call = as_convoy k

  met : ConvoyPost call
  met = convoy_met k p

  module _ (j : ℕ) (below : j < length call.convoy) (e : ExportedFrame) (q : FrameKept e) (s : SingleOf k j e) where
    abbrev f : ConvoyFrame
    f = frame_at call.convoy j

    is : f ≡ frame_of k.numbers k.customs k.parts j
    is = convoy_frame k.numbers k.customs k.parts k.count j (omega (arith, below, convoy_length k.numbers k.customs k.parts k.count))

    described : described_by e.numbers e.custom ≡ f.described
    described =
        ap (λ (l : List ℕ). described_by l e.custom) s.numbers ∙ ap (described_by (numbers_at k.numbers j)) s.custom
        ∙ sym (frame_described k.numbers k.customs k.parts j s.given) ∙ ap (λ (g : ConvoyFrame). g.described) (sym is)

    stride : at e.numbers 0 ≡ f.stride
    stride =
        ap (λ (l : List ℕ). at l 0) s.numbers ∙ sym (frame_stride k.numbers k.customs k.parts j)
        ∙ ap (λ (g : ConvoyFrame). g.stride) (sym is)

    its_call : CallPost f k.source k.before q.answer (planes_of e.y' e.u' e.v')
    its_call =
        turn f k.source k.before (described_by e.numbers e.custom) (at e.numbers 0) e.source (planes_of e.y e.u e.v)
        q.answer
        (planes_of e.y' e.u' e.v') described stride s.source s.planes (single e q.answer q.answered)

  finished : (j : ℕ) → j < done_told k.told → (e : ExportedFrame) → FrameKept e → SingleOf k j e
      → (e.number ≡ 0) × (planes_of e.y' e.u' e.v' ≡ parts_of (frame_at call.convoy j) k.after)
  finished j l e q s =
      let g = frame_at call.convoy j in
      let same = call_one g k.source k.before q.answer (planes_of e.y' e.u' e.v') (Ok tt) (parts_of g k.after)
      (its_call j (finished_none call met whole j l).0 e q s) ((alone call met whole).finished j l) in
      (q.number ∙ ap (λ (a : Result Unit YuvError). (numbers_of a).number) same.0, same.1)

  refused : 1 ≤ k.number → (e : ExportedFrame) → FrameKept e → SingleOf k (done_told k.told) e
      → numbers_told e.number e.told ≡ numbers_told k.number k.told
  refused l e q s =
      let j = done_told k.told in
      let g = frame_at call.convoy j in
      let number : (numbers_of call.result.answer).number ≡ k.number = ap (λ (x : Numbers). x.number) (convoy_told k p) in
      let r = is_refused call.result.answer (omega (arith, number)) in
      let x = (alone call met whole).refused r.0 r.1 in
      let same = call_one g k.source k.before q.answer (planes_of e.y' e.u' e.v') (Err r.0) (parts_of g k.before)
      (its_call j x.0 e q s) x.1 in
      let told : numbers_told e.number e.told ≡ numbers_of q.answer = rw (q.number, q.told) in
      told ∙ ap numbers_of (same.0 ∙ sym r.1) ∙ convoy_told k p

pub convoys : Convoys
convoys = record {
  tests_are_exact = tests_are_exact;
  broken_is_exact = broken_is_exact;
  only_broken = only_Broken;
  broken_keeps = Broken-keeps;
  in_order = λ k p whole. p.run (not_broken k p whole);
  one_outcome = one_outcome;
  each_alone = alone;
  first_refused = λ k p whole l.
      let x = refused_Lowest k p whole l in
      (x.0, x.1, λ j m. (finished_none k p whole j m).1);
  accepted = all_accepted;
  no_frames = no_frames;
  linked = λ k p. (convoy_met k p, convoy_told k p);
  linked_count = λ k. convoy_length k.numbers k.customs k.parts k.count;
  linked_frame = λ k j l. convoy_frame k.numbers k.customs k.parts k.count j l;
  linked_room = λ k j l. convoy_frame k.numbers k.customs k.parts 64 j l;
  linked_first = λ k l. convoy_first k.numbers k.customs k.parts k.count l;
  linked_finished = finished;
  linked_refused = refused;
}
