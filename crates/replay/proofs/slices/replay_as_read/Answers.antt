-- Of a slice only its own bytes may be left.
use Rattle.replay.specs.Stored.{IsNumber}
use Rattle.replay.proofs.OfSlices.{of_slice, on_ok}
use Rattle.replay.proofs.slices.replay_as_read.Goals as goal

pub returns : goal.returns
returns g c =
    on_ok c.replay_as_read.result
    (λ p. let counted = of_slice _ _ (λ old new. IsNumber old new p.3) p.4 in (p.0, p.1, p.2, counted.1, rw (← counted.0) p.6, p.8))
    c.replay_as_read.ensures
