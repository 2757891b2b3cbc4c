-- The counts fill the first four places, and the numbers of the first difference the others. Assumes nothing.
use Rattle.std.proofs.Common.{rules, ◌≡◌, ℕ, ◌≤◌, length, List, ◌∷◌}
use mathlib.Core.List.{append-nil}
use lib.ListN.{drop_of_length-le}
use borrow.Rule.Slice.PartMut.{put_mid, post_of}
use Rattle.report_numbers.specs.Numbers.{report_numbers}
use Rattle.report_numbers.proofs.tell_report.Goals as goal

both_parts : (a b c d : ℕ) (rest first : List ℕ) → length rest ≤ 14 → put_mid 4 14 (a ∷ b ∷ c ∷ d ∷ rest) first ≡ a ∷ b ∷ c ∷ d ∷ first
both_parts a b c d rest first h = rw (drop_of_length-le rest {i = 14} h, append-nil)

pub returns : goal.returns
unfolding report_numbers
returns c =
    let counts = c.copy_from_slice.ensures.after in
    let first = c.copy_from_slice-2.ensures.after in
    rw (counts, first, c.first_numbers-first.ensures) (both_parts _ _ _ _ (post_of 0 4 c.args.numbers.now) _ (search rules))
