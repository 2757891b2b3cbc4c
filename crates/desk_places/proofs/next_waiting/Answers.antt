use Prim.Native.Nat.{◌+◌, ◌-◌, ◌%◌}
use mathlib.Core.Path.{◌≡◌, sym, refl, ◌∙◌}
use mathlib.Core.Bool.{false}
use native.Mathlib.Omega.{arith}
use Rattle.desk_places.specs.declared.OpenFrame.{OpenFrame}
use Rattle.desk_places.specs.declared.WaitingBand.{WaitingBand}
use Rattle.desk_places.specs.declared.Slot.{Slot}
use Rattle.desk_places.specs.declared.Slot.TheVariants.{Free, Idle, Waiting}
use Rattle.desk_places.specs.Places.{is_waiting, next_waiting}
use Rattle.desk_places.proofs.NextTurn.{none_left, found, passed, skipped}
use Rattle.desk_places.proofs.next_waiting.Goals as goal

not_waiting : (s : Slot) → ((f : OpenFrame) (b : WaitingBand) → s ≡ Waiting f b → ⊥) → is_waiting s ≡ false
not_waiting Free other = refl
not_waiting (Idle f) other = refl
not_waiting (Waiting f b) other = absurd (other f b refl)

pub loop-asked-init : goal.loop-asked-init
unfolding next_waiting
loop-asked-init c = refl

pub returns-in-Waiting : goal.returns-in-Waiting
returns-in-Waiting c = found c.args.places c.args.from _ c.loop-asked-test.true (omega arith) c.in-Waiting.is c.loop-asked.invariant

pub loop-asked-preserved : goal.loop-asked-preserved
loop-asked-preserved c =
    let is : (c.args.from % 32 + c.loop-asked.asked) % 32 ≡ (c.args.from + c.loop-asked.asked) % 32 = omega arith in
    passed c.args.places c.args.from _ c.loop-asked-test.true is (skipped _ _ (not_waiting _ c.in_default.not-Waiting)) c.loop-asked.invariant

pub returns : goal.returns
returns c =
    let end : 32 - c.loop-asked.asked ≡ 0 = omega arith in
    sym (none_left _ _ _ end) ∙ c.loop-asked.invariant
