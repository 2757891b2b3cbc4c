-- Every step tells what the rules of the band say, and writes nothing where it converted none: by the same of a band served.
-- Assumes nothing.
use Prim.Native.Nat.{ℕ}
use mathlib.Core.Path.{◌≡◌, refl, sym, ap, ◌∙◌}
use mathlib.Core.Bool.{true, true≢false}
use Rattle.yuv_error.specs.declared.YuvError.{YuvError}
use Rattle.std.specs.Prelude.{Result, Ok, Err, Option, None, Some}
use Rattle.desk_places.specs.declared.Turn.{Turn}
use Rattle.desk_places.specs.Places.{next_waiting}
use Rattle.desk_bands.proofs.Right.{served_right}
use Rattle.desk.specs.DeskCall.{StepCall, Stepped, served_by}
use Rattle.desk.specs.Told.{Tells, none_converted, StepsAreRight}

tells : (n : Option Turn) (k : StepCall) → Stepped n k → Tells n k
tells None k s = s.served
tells (Some t) k s = record {
  answer = s.call.answer;
  served = s.served;
  answered = (served_right t.frame t.band k.lent s.call k.left s.met).answered;
}

is_refused : (c : ℕ) (a : Result Unit YuvError) → none_converted (served_by c a) ≡ true → (e : YuvError) × (a ≡ Err e)
is_refused c (Ok done) none = absurd (true≢false (sym none))
is_refused c (Err e) none = (e, refl)

unwritten : (n : Option Turn) (k : StepCall) → Stepped n k → none_converted k.result.served ≡ true → k.left ≡ k.lent
unwritten None k s none = s.buffers
unwritten (Some t) k s none =
    let r = is_refused t.camera s.call.answer (sym (ap none_converted s.served) ∙ none) in
    ((served_right t.frame t.band k.lent s.call k.left s.met).refused {e = r.0} r.1).1

pub steps_are_right : StepsAreRight
steps_are_right = record {
  told = λ k s. tells (next_waiting k.desk.places k.desk.from) k s;
  unwritten = λ k s. unwritten (next_waiting k.desk.places k.desk.from) k s;
}
