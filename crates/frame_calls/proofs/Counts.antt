-- What an exported count of colours comes to: its numbers are those of the first rule that holds; refused, it wrote nothing; and finished, it kept
-- the promise of `colour_counts`.
-- Assumes nothing.
use Prim.Native.Nat.{ℕ, ◌≤◌}
use mathlib.Core.Path.{◌≡◌, sym, ap, subst, ◌∙◌}
use native.Mathlib.Omega.{arith}
use Rattle.std.specs.Prelude.{Result, Ok}
use Rattle.yuv_error.specs.declared.YuvError.{YuvError}
use Rattle.yuv_error.specs.Numbers.{numbers_of}
use Rattle.yuv_error.specs.Rules.{first_numbers, matrix_rules}
use Rattle.yuv_error.proofs.Numbers.{is_finished}
use Rattle.definitions.proofs.Painted.{painted_same}
use Rattle.call_numbers.specs.Codes.{is_malformed_range_and_matrix}
use Rattle.colour_counts.specs.Counts.{CountsPost}
use Rattle.frame_calls.specs.Lists.{numbers_told}
use Rattle.frame_calls.specs.Counts.{ExportedCounts, range_of_counts, matrix_of_counts, rules_of_counts, CountsKept}
use Rattle.frame_calls.proofs.Lists.{either_way, refused_1, passed_1, is_refused}

module _ {k : ExportedCounts} (p : CountsKept k) where
  counts_told : numbers_told k.number k.told ≡ numbers_of p.answer
  counts_told = rw (p.number, p.told)

  pub counts_first : numbers_told k.number k.told ≡ first_numbers (rules_of_counts k)
  counts_first =
      either_way (is_malformed_range_and_matrix k.numbers) p.answered
      (λ t q. refused_1 (matrix_rules (matrix_of_counts k)) t (counts_told ∙ ap numbers_of q.0))
      (λ t q. passed_1 (matrix_rules (matrix_of_counts k)) t (counts_told ∙ q.answered))

  pub counts_write_nothing : 1 ≤ k.number → k.counts' ≡ k.counts
  counts_write_nothing l =
      let is = (is_refused p.answer (subst (λ (n : ℕ). 1 ≤ n) p.number l)).1 in
      either_way (is_malformed_range_and_matrix k.numbers) p.answered (λ t q. q.1) (λ t q. painted_same (rw is at q.counts))

  pub counts_accepted : k.number ≡ 0 → CountsPost (range_of_counts k) (matrix_of_counts k) k.counts (Ok tt) k.counts'
  counts_accepted z =
      let is = is_finished p.answer (sym p.number ∙ z) in
      either_way (is_malformed_range_and_matrix k.numbers) p.answered
      (λ t q. absurd (let w : ◌≡◌ {A = ℕ} 0 1 = sym z ∙ p.number ∙ ap (λ (a : Result Unit YuvError). (numbers_of a).number) q.0 in omega arith))
      (λ t q. rw is at q)
