-- Lists of band calls, and of what became of a camera's bands: one more at the end.
-- Assumes nothing.
use mathlib.Core.Path.{◌≡◌, refl, ap}
use mathlib.Core.Bool.{true, false, cond}
use mathlib.Core.List.{List, [], ◌∷◌, ◌++◌}
use Rattle.definitions.specs.declared.FrameDescription.{FrameDescription}
use Rattle.band_calls.specs.declared.FrameState.{FrameState}
use Rattle.band_calls.specs.BandCall.{BandCall, BandPost}
use Rattle.band_lists.specs.BandLists.{AllMet, is_accepted, Tally, counted, tally_of, Accepted, call, last_call, Follows, Either, Chained}
use Rattle.desk_lists.specs.Isolation.{OwnBand, Turned, dropped, called, calls_of, band_of, bands_of}

pub met_more : (ks : List BandCall) (k : BandCall) → AllMet ks → BandPost k → AllMet (ks ++ (k ∷ []))
met_more [] k met m = (m, tt)
met_more (j ∷ ks) k met m = (met.0, met_more ks k met.1 m)

pub chained_more : (o : FrameState) (p : Accepted) (ks : List BandCall) (k : BandCall) → Chained o p ks
    → (is_accepted k ≡ true → Follows o (last_call p ks) k) → Chained o p (ks ++ (k ∷ []))
chained_more o p [] k chain follows = (elim (is_accepted k) as (λ a. is_accepted k ≡ a → Either a (Follows o p k × Unit {0}) (Unit {0})) [
  | true ↦ λ e. (follows e, tt)
  | false ↦ λ e. tt
]) refl
chained_more o p (j ∷ ks) k chain follows =
    (elim (is_accepted j) as (λ a. Either a (Follows o p j × Chained o (call j) ks) (Chained o p ks)
    → (is_accepted k ≡ true → Follows o (last_call (cond a (call j) p) ks) k)
    → Either a (Follows o p j × Chained o (call j) (ks ++ (k ∷ []))) (Chained o p (ks ++ (k ∷ [])))) [
      | true ↦ λ c f. (c.0, chained_more o (call j) ks k c.1 f)
      | false ↦ λ c f. chained_more o p ks k c f
    ]) chain follows

pub last_more : (p : Accepted) (ks : List BandCall) (k : BandCall) → last_call p (ks ++ (k ∷ [])) ≡ cond (is_accepted k) (call k) (last_call p ks)
last_more p [] k = refl
last_more p (j ∷ ks) k = last_more (cond (is_accepted j) (call j) p) ks k

pub tally_more : (d : FrameDescription) (t : Tally) (ks : List BandCall) (k : BandCall)
    → tally_of d t (ks ++ (k ∷ [])) ≡ cond (is_accepted k) (counted d k (tally_of d t ks)) (tally_of d t ks)
tally_more d t [] k = refl
tally_more d t (j ∷ ks) k = tally_more d (cond (is_accepted j) (counted d j t) t) ks k

pub calls_called : (ts : List Turned) (k : BandCall) → calls_of (ts ++ (called k ∷ [])) ≡ calls_of ts ++ (k ∷ [])
calls_called [] k = refl
calls_called (dropped b ∷ ts) k = calls_called ts k
calls_called (called j ∷ ts) k = ap (λ (l : List BandCall). j ∷ l) (calls_called ts k)

pub calls_dropped : (ts : List Turned) (b : OwnBand) → calls_of (ts ++ (dropped b ∷ [])) ≡ calls_of ts
calls_dropped [] b = refl
calls_dropped (dropped c ∷ ts) b = calls_dropped ts b
calls_dropped (called j ∷ ts) b = ap (λ (l : List BandCall). j ∷ l) (calls_dropped ts b)

pub bands_more : (ts : List Turned) (t : Turned) → bands_of (ts ++ (t ∷ [])) ≡ bands_of ts ++ (band_of t ∷ [])
bands_more [] t = refl
bands_more (u ∷ ts) t = ap (λ (l : List OwnBand). band_of u ∷ l) (bands_more ts t)
