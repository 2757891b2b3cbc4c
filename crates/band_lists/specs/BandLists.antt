-- Demand 3: one claim about every list of band calls after a fresh opening. docs/RULES.md, 8.9, part by part.
-- Assumes nothing.
use Rattle.std.specs.Prelude.{ℕ, zero, suc, ◌+◌, ◌<◌, ◌≡◌, Bool, true, false, cond, List, [], ◌∷◌, ◌++◌, eqb, length, get_or, Ok}
use Rattle.yuv_error.specs.Rules.{first_numbers}
use Rattle.definitions.specs.declared.FrameDescription.{FrameDescription}
use Rattle.definitions.specs.Image.{row_bytes, chroma_size, finished_of}
use Rattle.definitions.specs.Plane.{written, RowsEqual}
use Rattle.sharp_rgba_to_yuv.specs.FrameCall.{FrameCall, FramePost}
use Rattle.band_calls.specs.declared.FrameState.{FrameState}
use Rattle.band_calls.specs.declared.FrameAnswer.{FrameAnswer}
use Rattle.band_calls.specs.BandCall.{state_of, OpenPost, BandCall, rules_of, BandPost, Untouched}

-- RULES 8.1: a fresh opening is one that was accepted; the first part is the very predicate of the `ensures` of `FrameState::open`
pub record Fresh (d : FrameDescription) (r : FrameAnswer) : Type 0 where
  pub met : OpenPost d r
  pub accepted : r.answer ≡ Ok tt

-- RULES 8.9 speaks of what calls leave, so the claim is about calls that kept their promise:
-- each call of the list kept the promise of `FrameState::band`, the very
-- predicate of its `ensures`
abbrev pub AllMet : List BandCall → Type 0
AllMet [] = Unit {0}
AllMet (k ∷ ks) = BandPost k × AllMet ks

-- RULES 8.2: none of the conditions that the call asks holds of what it is given, the state included; by its arguments alone
unfoldable pub is_accepted : BandCall → Bool
is_accepted k = eqb (first_numbers (rules_of k)).number 0

-- RULES 8.9: beside the code stands a plain tally, fed the calls' arguments only: a number n and a list of rows
pub record Tally : Type 0 where
  pub n : ℕ
  pub rows : List (List ℕ)

-- RULES 8.9: at the opening
abbrev pub no_rows : Tally
no_rows = record { n = 0; rows = [] }

-- RULES 8.9: f 0, f 1, .., f (m − 1)
abbrev pub tabulate : {A : Type 0} → (m : ℕ) → (ℕ → A) → List A
tabulate zero f = []
tabulate (suc m) f = tabulate m f ++ (f m ∷ [])

-- RULES 8.9: an accepted band of m rows adds m to n and puts the w × c bytes of the frame's pixels in each of its rows behind the list, first row first
abbrev pub counted : FrameDescription → BandCall → Tally → Tally
counted d k t = record { n = t.n + k.rows; rows = t.rows ++ tabulate k.rows (row_bytes d k.stride k.source) }

-- RULES 8.9: a refused call changes neither
abbrev pub tally_of : FrameDescription → Tally → List BandCall → Tally
tally_of d t [] = t
tally_of d t (k ∷ ks) = tally_of d (cond (is_accepted k) (counted d k t) t) ks

-- RULES 8.9: which accepted call came last, and which first: none, or that one
pub data Accepted : Type 0 where
  none : Accepted
  call : BandCall → Accepted

-- RULES 8.9
abbrev pub last_call : Accepted → List BandCall → Accepted
last_call p [] = p
last_call p (k ∷ ks) = last_call (cond (is_accepted k) (call k) p) ks

-- RULES 8.9
abbrev pub first_call : List BandCall → Accepted
first_call [] = none
first_call (k ∷ ks) = cond (is_accepted k) (call k) (first_call ks)

-- RULES 8.9: the first accepted call is given the opening's state, each later one the state, planes and carried row as the accepted call before left
-- them
abbrev pub Follows : FrameState → Accepted → BandCall → Type 0
Follows o none k = k.state ≡ o
Follows o (call j) k = (k.state ≡ j.result.state) × (k.y ≡ j.y') × (k.u ≡ j.u') × (k.v ≡ j.v') × (k.carried ≡ j.carried')

-- RULES 8.9
abbrev pub Either : Bool → Type 0 → Type 0 → Type 0
Either true a b = a
Either false a b = b

-- RULES 8.9: so for each accepted call of a list; a refused one may be given anything
abbrev pub Chained : FrameState → Accepted → List BandCall → Type 0
Chained o p [] = Unit {0}
Chained o p (k ∷ ks) = Either (is_accepted k) (Follows o p k × Chained o (call k) ks) (Chained o p ks)

-- RULES 8.9: an accepted frame call of the opening's size and settings whose first n rows are the tally's, whatever its window, later rows, strides
-- and buffers; the first part is the very predicate of the `ensures` of `rgbx_to_sharp_yuv`
pub record SameRows (d : FrameDescription) (t : Tally) (f : FrameCall) : Type 0 where
  pub met : FramePost f
  pub accepted : f.answer ≡ Ok tt
  pub width : f.frame.width ≡ d.width
  pub height : f.frame.height ≡ d.height
  pub settings : f.frame.settings ≡ d.settings
  pub rows : (r : ℕ) → r < t.n → row_bytes f.frame f.stride f.source (f.frame.window.top + r) ≡ get_or t.rows r []

-- RULES 8.9: every byte but the first n of the first `rows` rows
abbrev pub OthersEqual : (rows n stride : ℕ) → (plane plane' : List ℕ) → Type 0
OthersEqual rows n stride plane plane' = (length plane ≡ length plane') × ((p : ℕ) → written 0 rows stride n p ≡ false → get_or plane p 0 ≡ get_or plane' p 0)

-- RULES 8.9: the finished rows, w bytes of luma and cw of chroma, equal those that such a frame call leaves
pub record PlanesAgree (d : FrameDescription) (n : ℕ) (j : BandCall) (f : FrameCall) : Type 0 where
  pub y_rows : RowsEqual n d.width d.y_stride f.frame.y_stride j.y' f.y'
  pub u_rows : RowsEqual (finished_of d n) (chroma_size d) d.u_stride f.frame.u_stride j.u' f.u'
  pub v_rows : RowsEqual (finished_of d n) (chroma_size d) d.v_stride f.frame.v_stride j.v' f.v'

-- RULES 8.9: the state after the calls, the finished rows, and every other byte as the first accepted call found it; i was the first accepted call,
-- j the last
pub record Left (d : FrameDescription) (t : Tally) (i j : BandCall) : Type 0 where
  pub state : j.result.state ≡ state_of d t.n
  pub planes : (f : FrameCall) → SameRows d t f → PlanesAgree d t.n j f
  pub y_others : OthersEqual t.n d.width d.y_stride j.y' i.y
  pub u_others : OthersEqual (finished_of d t.n) (chroma_size d) d.u_stride j.u' i.u
  pub v_others : OthersEqual (finished_of d t.n) (chroma_size d) d.v_stride j.v' i.v

-- RULES 8.9: with no call accepted n is 0, as are the rows done in the opening's state
abbrev pub After : FrameDescription → FrameState → Tally → (first last : Accepted) → Type 0
After d o t none none = (t.n ≡ 0) × (o ≡ state_of d t.n)
After d o t none (call j) = ⊥
After d o t (call i) none = ⊥
After d o t (call i) (call j) = Left d t i j

-- RULES 7.2, 8.5: each refused call handed back the state that it was given, and wrote nothing
abbrev pub RefusedUntouched : List BandCall → Type 0
RefusedUntouched [] = Unit {0}
RefusedUntouched (k ∷ ks) = Either (is_accepted k) (Unit {0}) (Untouched k) × RefusedUntouched ks

-- RULES 8.9: a single claim about the list of calls, not one for each call
abbrev pub Demand3 : Type 0
Demand3 =
    (d : FrameDescription) (opening : FrameAnswer) (calls : List BandCall)
    → Fresh d opening → AllMet calls → Chained opening.state none calls
    → After d opening.state (tally_of d no_rows calls) (first_call calls) (last_call none calls) × RefusedUntouched calls
