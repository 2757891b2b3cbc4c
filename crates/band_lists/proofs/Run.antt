-- The accepted calls of a list, one after another. Of every image that begins with the tally's rows they keep the planes of its first n rows,
-- whatever rows come later in the image; a refused call changes nothing of this. So what follows of such a run holds of every list.
-- Assumes nothing.
use mathlib.Core.Path.{◌≡◌, refl, ap, subst, ◌∙◌}
use mathlib.Core.Bool.{true, false}
use mathlib.Core.List.{List, [], ◌∷◌}
use lib.ListN.{length}
use Rattle.definitions.specs.Row.{Pixels}
use Rattle.definitions.specs.declared.FrameDescription.{FrameDescription}
use Rattle.definitions.specs.Image.{Image}
use Rattle.yuv_error.specs.Known.{PlanesLent}
use Rattle.band_calls.specs.declared.FrameState.{FrameState}
use Rattle.band_calls.specs.BandCall.{state_of, BandCall, band_call, lent_to, BandPost}
use Rattle.band_lists.specs.BandLists.{AllMet, is_accepted, Tally, no_rows, counted, tally_of, Accepted, none, call, last_call, first_call, Chained}
use Rattle.band_calls.proofs.Accepted.{AcceptedBand}
use Rattle.band_lists.proofs.Accepted.{call_given, call_finished}
use Rattle.band_lists.proofs.Kept.{Kept, Kept-none, Kept-band}
use Rattle.band_lists.proofs.Tally.{Fits, Fits-none, Fits-counted, Begins, Begins-before, Begins-own}

-- i was the first accepted call so far, j the last
pub record Run (d : FrameDescription) (t : Tally) (i j : BandCall) : Type 0 where
  pub state : j.result.state ≡ state_of d t.n
  pub lent : PlanesLent d (length j.y) (length j.u) (length j.v)
  pub fits : Fits d t
  pub kept : (image : Image) → Begins d t image → Kept d image t.n i.y i.u i.v j.y' j.u' j.v' j.carried'

-- the call from a state
abbrev from : BandCall → FrameState → BandCall
from k s = band_call s k.rows k.stride k.source k.y k.u k.v k.carried k.result k.y' k.u' k.v' k.carried'

-- one accepted call more, from what is kept in what it was handed
run_more : (d : FrameDescription) (t : Tally) (i k : BandCall) → is_accepted k ≡ true → BandPost k → k.state ≡ state_of d t.n → Fits d t
    → ((image : Image) → Begins d t image → Kept d image t.n i.y i.u i.v k.y k.u k.v k.carried) → Run d (counted d k t) i k
run_more d t i k e met handed fits kept =
    let a = subst (λ (s : FrameState). AcceptedBand s k.rows k.stride (lent_to k) (length k.carried)) handed (call_given k e) in
    let post = subst (λ (s : FrameState). BandPost (from k s)) handed met in
    let all = call_finished k met.answered e in
    record {
      state = rw all at post.state;
      lent = a.planes;
      fits = Fits-counted d t k fits a.sized a.given;
      kept = λ image begins. Kept-band k.source k.carried a.given
          (λ r l m x b _ _. ap (λ (row : Pixels). row x b) (Begins-own d t k fits begins r l m))
          (kept image (Begins-before d t k fits begins)) (rw all at post.planes) (rw all at post.carry);
    }

module _ (d : FrameDescription) (o : FrameState) (fresh : o ≡ state_of d 0) (Claim : Tally → (first last : Accepted) → Type 0)
    (of_none : Claim no_rows none none) (of_run : (t : Tally) (i j : BandCall) → Run d t i j → Claim t (call i) (call j)) where
  later : (t : Tally) (i j : BandCall) → Run d t i j → (ks : List BandCall) → AllMet ks → Chained o (call j) ks
      → Claim (tally_of d t ks) (call i) (last_call (call j) ks)
  later t i j v [] met chain = of_run t i j v
  later t i j v (k ∷ ks) met chain =
      (elim (is_accepted k) as (λ a. is_accepted k ≡ a → Claim (tally_of d t (k ∷ ks)) (call i) (last_call (call j) (k ∷ ks))) [
        | true ↦ λ e.
            let c = rw e at chain in
            let f = c.0 in
            let next = run_more d t i k e met.0 (f.0 ∙ v.state) v.fits (λ image begins. rw (f.1, f.2, f.3, f.4) (v.kept image begins)) in
            rw e (later (counted d k t) i k next ks met.1 c.1)
        | false ↦ λ e. rw e (later t i j v ks met.1 (rw e at chain))
      ]) refl

  pub of_calls : (ks : List BandCall) → AllMet ks → Chained o none ks → Claim (tally_of d no_rows ks) (first_call ks) (last_call none ks)
  of_calls [] met chain = of_none
  of_calls (k ∷ ks) met chain =
      (elim (is_accepted k) as (λ a. is_accepted k ≡ a → Claim (tally_of d no_rows (k ∷ ks)) (first_call (k ∷ ks)) (last_call none (k ∷ ks))) [
        | true ↦ λ e.
            let c = rw e at chain in
            let first = run_more d no_rows k k e met.0 (c.0 ∙ fresh) (Fits-none d) (λ image _. Kept-none d image _ _ _ _) in
            rw e (later (counted d k no_rows) k k first ks met.1 c.1)
        | false ↦ λ e. rw e (of_calls ks met.1 (rw e at chain))
      ]) refl
