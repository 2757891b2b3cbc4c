-- Of a slice only its own bytes may be left.
use Rattle.std.proofs.Common.{◌≡◌, ℕ, List, drop, replicate}
use Rattle.replay.specs.Stored.{next_room}
use Rattle.replay.proofs.OfSlices.{of_slice, if_ok}
use Rattle.replay.proofs.slices.planes.Goals as goal

pub returns-clause-zeros : goal.returns-clause-zeros
returns-clause-zeros c =
    let zeros : List ℕ → List ℕ = λ left. replicate (next_room c.args.most left) 0 in
    if_ok c.planes.result
    (λ planes p. of_slice _ _ (λ old new. (planes.y.items ≡ zeros old) × (planes.u.items ≡ zeros (drop 4 old)) × (planes.v.items ≡ zeros (drop 8 old))) p)
    c.planes.ensures.zeros

pub returns-clause-left : goal.returns-clause-left
returns-clause-left c = of_slice _ _ (λ old new. new ≡ drop 12 old) c.planes.ensures.left
