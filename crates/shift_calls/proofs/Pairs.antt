-- What the exported pairing comes to: its number is that of the first rule that holds, and refused, it wrote no number of the report.
-- Assumes nothing.
use Prim.Native.Nat.{ℕ, ◌≤◌}
use mathlib.Core.Path.{◌≡◌, refl, subst, ◌∙◌}
use mathlib.Core.List.{List}
use native.Mathlib.Omega.{arith}
use Rattle.std.specs.Prelude.{Result, Ok, Err}
use Rattle.yuv_error.specs.Numbers.{numbers, numbers_of}
use Rattle.yuv_error.specs.Rules.{first_numbers}
use Rattle.yuv_error.proofs.Plain.{alone}
use Rattle.shift_pairs.specs.declared.PairReport.{PairReport}
use Rattle.shift_pairs.specs.declared.BrokenFile.{BrokenFile}
use Rattle.shift_pairs.specs.Pairing.{pairing_outcome}
use Rattle.report_numbers.specs.Numbers.{pairing_numbers}
use Rattle.shift_calls.specs.Pairs.{ExportedPairing, rules_of_pairing, PairingKept}

-- a refused pairing has no report
no_numbers : (r : Result PairReport BrokenFile) (before : List ℕ) → 1 ≤ (numbers_of (pairing_outcome r)).number → pairing_numbers r before ≡ before
no_numbers (Ok report) before l = absurd (omega arith)
no_numbers (Err broken) before l = refl

module _ {k : ExportedPairing} (p : PairingKept k) where
  pub pairing_first : numbers k.number 0 0 ≡ first_numbers (rules_of_pairing k)
  pairing_first = alone (rules_of_pairing k) (pairing_outcome p.pairing) (refl, (refl, tt)) p.number p.paired.answered

  pub pairing_writes_nothing : 1 ≤ k.number → k.report' ≡ k.report
  pairing_writes_nothing l = p.report ∙ no_numbers p.pairing k.report (subst (λ (n : ℕ). 1 ≤ n) p.number l)
