-- What the exported calls of the summary come to: the numbers that they told are those of the first rule that holds, and refused, they wrote nothing.
-- Assumes nothing.
use Prim.Native.Nat.{ℕ, ◌≤◌}
use mathlib.Core.Path.{◌≡◌, refl, subst}
use Rattle.yuv_error.specs.Numbers.{numbers}
use Rattle.yuv_error.specs.Rules.{first_numbers}
use Rattle.summary_calls.specs.Calls.{outcome}
use Rattle.shift_calls.specs.Summary.{ExportedBuild, rules_of_build, BuildKept, ExportedCheck, rules_of_check, CheckKept}
use Rattle.shift_calls.specs.Summary.{ExportedFind, rules_of_find, FindKept, ExportedUpdate, rules_of_update, UpdateKept}
use Rattle.yuv_error.proofs.Plain.{alone}
use Rattle.shift_calls.proofs.Shift.{unwritten}

module _ {k : ExportedBuild} (p : BuildKept k) where
  pub build_first : numbers k.number 0 0 ≡ first_numbers (rules_of_build k)
  build_first = alone (rules_of_build k) p.answer (refl, (refl, tt)) p.number p.built.answered

  pub build_writes_nothing : 1 ≤ k.number → k.summary' ≡ k.summary
  build_writes_nothing l = unwritten p.answer _ (subst (λ (n : ℕ). 1 ≤ n) p.number l) p.built.written

pub check_first : {k : ExportedCheck} → CheckKept k → numbers k.number 0 0 ≡ first_numbers (rules_of_check k)
check_first {k} p = alone (rules_of_check k) (outcome p.verdict) (refl, tt) p.number p.checked.answered

pub find_first : {k : ExportedFind} → FindKept k → numbers k.number 0 0 ≡ first_numbers (rules_of_find k)
find_first {k} p = alone (rules_of_find k) (outcome p.finding) (refl, (refl, tt)) p.number p.found.answered

module _ {k : ExportedUpdate} (p : UpdateKept k) where
  pub update_first : numbers k.number 0 0 ≡ first_numbers (rules_of_update k)
  update_first = alone (rules_of_update k) p.answer (refl, (refl, tt)) p.number p.wrote.answered

  pub update_writes_nothing : 1 ≤ k.number → k.summary' ≡ k.summary
  update_writes_nothing l = unwritten p.answer _ (subst (λ (n : ℕ). 1 ≤ n) p.number l) p.wrote.written
