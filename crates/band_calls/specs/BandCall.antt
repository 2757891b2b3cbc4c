-- An opening and a band call: what they are given, answer and leave. docs/RULES.md, 8.1 to 8.5, 8.7 and 8.8.
-- Assumes nothing.
use Rattle.std.specs.Prelude.{ℕ, ◌+◌, ◌*◌, ◌-◌, ◌/◌, ◌%◌, ◌≡◌, Bool, false, cond, not, ◌&&◌, ◌||◌, List, [], ◌∷◌, ◌++◌, eqb, ltb, length}
use Rattle.yuv_support.specs.declared.YuvChromaSubsampling.{YuvChromaSubsampling}
use Rattle.yuv_support.specs.declared.YuvChromaSubsampling.TheVariants.{Yuv420, Yuv422}
use Rattle.yuv_error.specs.declared.Lengths.{Lengths}
use Rattle.yuv_error.specs.Numbers.{numbers_of}
use Rattle.yuv_error.specs.Rules.{Rule, rule, first_numbers}
use Rattle.yuv_error.specs.Lent.{lengths_of, opening_rules, lent_rules, taken}
use Rattle.definitions.specs.Painted.{Painted}
use Rattle.definitions.specs.declared.FrameDescription.{FrameDescription}
use Rattle.definitions.specs.declared.Band.{Band}
use Rattle.definitions.specs.Bands.{own_rows, band_image, Sharpened}
use Rattle.band_calls.specs.declared.FrameState.{FrameState}
use Rattle.band_calls.specs.declared.FrameAnswer.{FrameAnswer}

-- RULES 8.1
abbrev pub state_of : FrameDescription → (done : ℕ) → FrameState
state_of d n = record { frame = d; done = n }

-- RULES 8.2: the band that a call is given
abbrev pub band_of : FrameState → (rows stride : ℕ) → Band
band_of s rows stride = record { frame = s.frame; done = s.done; rows = rows; stride = stride }

-- RULES 8.1: the state is this one where the opening is refused, too
pub record OpenPost (d : FrameDescription) (r : FrameAnswer) : Type 0 where
  pub answered : numbers_of r.answer ≡ first_numbers (opening_rules d)
  pub state : r.state ≡ state_of d 0

-- RULES 8.3: with rows done at or past h, h less the rows done is 0 here
abbrev pub row_rules : (h done rows : ℕ) → List Rule
row_rules h done rows = rule 5 (eqb rows 0 || ltb (h - done) rows) 0 0 ∷ []

-- RULES 8.4
abbrev pub carried_rules : (w carried : ℕ) → List Rule
carried_rules w carried = rule 13 (ltb carried (3 * w)) (3 * w) carried ∷ []

-- RULES 8.2: source rows are the band's, plane rows the frame's
abbrev pub band_rules : FrameState → (rows stride : ℕ) → Lengths → (carried : ℕ) → List Rule
band_rules s rows stride n carried =
    opening_rules s.frame ++ row_rules s.frame.height s.done rows ++ lent_rules s.frame rows stride n ++ carried_rules s.frame.width carried

-- RULES 8.8: with `end` rows done the band's last row is row end − 1
abbrev pub is_carried : YuvChromaSubsampling → (h end : ℕ) → Bool
is_carried Yuv420 h end = eqb ((end - 1) % 2) 0 && not (eqb end h)
is_carried Yuv422 h end = false

-- RULES 8.8: how many bytes of the carried row are written
abbrev pub carried_bytes : FrameDescription → (end : ℕ) → ℕ
carried_bytes d end = cond (is_carried d.settings.sampling d.height end) (3 * d.width) 0

-- RULES 8.2: what a band call was given, what it handed back, and what it was lent as it left it
pub record BandCall : Type 0 where
  pub state : FrameState
  pub rows : ℕ
  pub stride : ℕ
  pub source : List ℕ
  pub y : List ℕ
  pub u : List ℕ
  pub v : List ℕ
  pub carried : List ℕ
  pub result : FrameAnswer
  pub y' : List ℕ
  pub u' : List ℕ
  pub v' : List ℕ
  pub carried' : List ℕ

abbrev pub band_call : FrameState → (rows stride : ℕ) (source y u v carried : List ℕ) → FrameAnswer → (y' u' v' carried' : List ℕ) → BandCall
band_call s rows stride source y u v carried r y' u' v' carried' = record {
  state = s;
  rows = rows;
  stride = stride;
  source = source;
  y = y;
  u = u;
  v = v;
  carried = carried;
  result = r;
  y' = y';
  u' = u';
  v' = v';
  carried' = carried';
}

abbrev pub lent_to : BandCall → Lengths
lent_to k = lengths_of k.source k.y k.u k.v

-- RULES 8.2
abbrev pub rules_of : BandCall → List Rule
rules_of k = band_rules k.state k.rows k.stride (lent_to k) (length k.carried)

-- RULES 8.2: its band
abbrev pub band_given : BandCall → Band
band_given k = band_of k.state k.rows k.stride

-- RULES 8.5: the rows done once it finished its work
abbrev pub end_of : BandCall → ℕ
end_of k = k.state.done + k.rows

-- RULES 8.2, 8.5, 8.7, 8.8: everything of a call: what it handed back, and each byte of the planes and of the carried row
pub record BandPost (k : BandCall) : Type 0 where
  pub answered : numbers_of k.result.answer ≡ first_numbers (rules_of k)
  pub state : k.result.state ≡ state_of k.state.frame (k.state.done + taken k.result.answer k.rows)
  pub planes : Sharpened k.state.frame k.state.done (k.state.done + taken k.result.answer k.rows)
      (band_image (band_given k) k.source k.carried) k.y k.u k.v k.y' k.u' k.v'
  pub carry : Painted (taken k.result.answer (carried_bytes k.state.frame (end_of k)))
      (λ q. own_rows (band_given k) k.source (end_of k - 1) (q / 3) (q % 3)) k.carried k.carried'

-- RULES 7.2, 8.5: what a refused call hands back and leaves
abbrev pub Untouched : BandCall → Type 0
Untouched k = (k.result.state ≡ k.state) × (k.y' ≡ k.y) × (k.u' ≡ k.u) × (k.v' ≡ k.v) × (k.carried' ≡ k.carried)
