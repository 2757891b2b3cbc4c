-- A promise by cases, from the test that decides it; and what a call hands back, of the frame that its numbers describe.
-- Assumes nothing.
use Prim.Native.Nat.{ℕ}
use mathlib.Core.Path.{◌≡◌, sym, subst}
use mathlib.Core.Bool.{Bool, true, false}
use Rattle.definitions.specs.declared.FrameDescription.{FrameDescription}
use Rattle.band_calls.specs.declared.FrameAnswer.{FrameAnswer}
use Rattle.band_calls.specs.BandCall.{state_of, OpenPost, BandCall, band_call, BandPost}
use Rattle.band_lists.specs.BandLists.{Either}
use Rattle.frame_calls.specs.Calls.{handed}

pub holds : {test : Bool} {first : Type 0} (second : Type 0) → test ≡ true → first → Either test first second
holds {first = first} second e x = subst (λ (b : Bool). Either b first second) (sym e) x

pub fails : {test : Bool} (first : Type 0) {second : Type 0} → test ≡ false → second → Either test first second
fails first {second = second} e x = subst (λ (b : Bool). Either b first second) (sym e) x

-- what a call hands back is its answer, and the rows done of the frame that it was given
handed_is : (d : FrameDescription) (r : FrameAnswer) (n : ℕ) → r.state ≡ state_of d n → r ≡ handed d r.answer r.state.done
handed_is d r n e = rw e

-- an opening's is its answer, and no row done
pub opened : {d d' : FrameDescription} {r : FrameAnswer} → d ≡ d' → OpenPost d r → OpenPost d' (handed d' r.answer 0)
opened {d} {d'} {r} is p =
    let same : r ≡ handed d r.answer 0 = λ i. record { answer = r.answer; state = p.state i } in
    subst (λ (x : FrameDescription). OpenPost x (handed x r.answer 0)) is (subst (OpenPost d) same p)

-- a band call of another frame, with what it hands back
abbrev of_frame : BandCall → FrameDescription → FrameAnswer → BandCall
of_frame k d r =
    band_call (state_of d k.state.done) k.rows k.stride k.source k.y k.u k.v k.carried r k.y' k.u' k.v' k.carried'

pub banded : {k : BandCall} {d : FrameDescription} → k.state.frame ≡ d → BandPost k
    → BandPost (of_frame k d (handed d k.result.answer k.result.state.done))
banded {k} {d} is p =
    let e = k.state.frame in
    let r = k.result in
    subst (λ (x : FrameDescription). BandPost (of_frame k x (handed x r.answer r.state.done))) is
    (subst (λ (x : FrameAnswer). BandPost (of_frame k e x)) (handed_is e r _ p.state) p)
