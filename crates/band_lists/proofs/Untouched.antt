-- Every refused call of a list gave back the state it got and left every byte as it was.
-- Assumes nothing.
use mathlib.Core.Path.{◌≡◌, refl}
use mathlib.Core.Bool.{true, false}
use mathlib.Core.List.{List, [], ◌∷◌}
use Rattle.band_calls.specs.BandCall.{BandCall, Untouched}
use Rattle.band_lists.specs.BandLists.{AllMet, is_accepted, Either, RefusedUntouched}
use Rattle.band_lists.proofs.Accepted.{call_refused}
use Rattle.band_calls.proofs.Post.{refused_writes_nothing}

pub refused_untouched : (ks : List BandCall) → AllMet ks → RefusedUntouched ks
refused_untouched [] met = tt
refused_untouched (k ∷ ks) met = (
  (elim (is_accepted k) as (λ a. is_accepted k ≡ a → Either a (Unit {0}) (Untouched k))
      [ true ↦ λ e. tt | false ↦ λ e. refused_writes_nothing (call_refused k met.0.answered e) met.0 ]) refl,
  refused_untouched ks met.1,
)
