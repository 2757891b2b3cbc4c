-- Of a slice only its own bytes may be left.
use Rattle.replay.specs.Stored.{IsNumber}
use Rattle.replay.proofs.OfSlices.{of_slice, on_ok, if_err}
use Rattle.replay.proofs.slices.each.Goals as goal

pub returns-clause-all : goal.returns-clause-all
returns-clause-all g c =
    on_ok c.each.result (λ p. let counted = of_slice _ _ (λ old new. IsNumber old new p.2) p.3 in (p.0, p.1, counted.1, rw (← counted.0) p.4)) c.each.ensures.all

pub returns-clause-stop : goal.returns-clause-stop
returns-clause-stop g c =
    if_err c.each.result (λ e p. let counted = of_slice _ _ (λ old new. IsNumber old new p.2) p.3 in (p.0, p.1, counted.1, rw (← counted.0) p.4)) c.each.ensures.stop
