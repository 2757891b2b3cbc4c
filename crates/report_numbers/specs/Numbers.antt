-- The eighteen numbers of a report: docs/RULES.md, 10.7.
-- Assumes nothing.
use Rattle.std.specs.Prelude.{ℕ, List, [], ◌∷◌, Option, Some, None, Result, Ok, Err}
use Rattle.setting_codes.specs.Codes.{sampling_code}
use Rattle.record_difference.specs.declared.Difference.{Difference}
use Rattle.record_difference.specs.declared.Difference.TheVariants.{Sizes, At}
use Rattle.record_difference.specs.Record.{plane_number}
use Rattle.shift_pairs.specs.declared.DifferingPair.{DifferingPair}
use Rattle.shift_pairs.specs.declared.PairReport.{PairReport}
use Rattle.shift_pairs.specs.declared.BrokenFile.{BrokenFile}

-- RULES 10.7: a difference's kind, and the numbers that it names; the others are 0
pub record DifferenceNumbers : Type 0 where
  pub kind : ℕ
  pub our_width : ℕ
  pub our_height : ℕ
  pub their_width : ℕ
  pub their_height : ℕ
  pub plane : ℕ
  pub row : ℕ
  pub column : ℕ
  pub our_sampling : ℕ
  pub their_sampling : ℕ

-- RULES 10.7: sizes are kind 1, a place is kind 2
abbrev pub difference_numbers : Difference → DifferenceNumbers
difference_numbers (Sizes a b) = record {
  kind = 1;
  our_width = a.width;
  our_height = a.height;
  their_width = b.width;
  their_height = b.height;
  plane = 0;
  row = 0;
  column = 0;
  our_sampling = sampling_code a.sampling;
  their_sampling = sampling_code b.sampling;
}
difference_numbers (At p) = record {
  kind = 2;
  our_width = 0;
  our_height = 0;
  their_width = 0;
  their_height = 0;
  plane = plane_number p.plane;
  row = p.row;
  column = p.column;
  our_sampling = 0;
  their_sampling = 0;
}

-- RULES 10.7: the first difference's kind and pair, sizes, place, samplings, 0; no difference is kind 0
abbrev pub first_numbers : Option DifferingPair → List ℕ
first_numbers None = 0 ∷ 0 ∷ 0 ∷ 0 ∷ 0 ∷ 0 ∷ 0 ∷ 0 ∷ 0 ∷ 0 ∷ 0 ∷ 0 ∷ 0 ∷ 0 ∷ []
first_numbers (Some p) =
    let d = difference_numbers p.difference in
    d.kind ∷ p.crossing ∷ p.ours ∷ p.theirs
    ∷ d.our_width ∷ d.our_height ∷ d.their_width ∷ d.their_height
    ∷ d.plane ∷ d.row ∷ d.column ∷ d.our_sampling ∷ d.their_sampling ∷ 0 ∷ []

-- RULES 10.7: counts, then the first difference
unfoldable pub report_numbers : PairReport → List ℕ
report_numbers r = r.equal ∷ r.differing ∷ r.only_ours ∷ r.only_theirs ∷ first_numbers r.first

-- RULES 10.7: what the lent numbers are after a call
abbrev pub pairing_numbers : Result PairReport BrokenFile → (before : List ℕ) → List ℕ
pairing_numbers (Ok report) before = report_numbers report
pairing_numbers (Err broken) before = before
