-- std's sum of the bytes is that of the rules, and a byte adds at most 255. Assumes nothing.
use Rattle.std.proofs.Common.{rules, arith, ◌∙◌, ◌≡◌, ℕ, suc, ◌+◌, ◌*◌, ◌≤◌, ◌<◌, List, [], ◌∷◌, length, get_or}
use Rattle.std.specs.Prelude.{sum as std_sum}
use Rattle.std.specs.List.{fold}
use Rattle.luma_mean.specs.Mean.{sum}
use Rattle.luma_mean.proofs.sum_bytes.Goals as goal

folded : (n : ℕ) (l : List ℕ) → fold ◌+◌ n l ≡ n + sum l
unfolding sum
folded n [] = omega arith
folded n (x ∷ l) = folded (n + x) l ∙ omega arith

as_std : (l : List ℕ) → std_sum l ≡ sum l
as_std l = folded 0 l ∙ omega arith

sum_most : (l : List ℕ) → ((i : ℕ) → get_or l i 0 < 256) → sum l ≤ 255 * length l
unfolding sum
sum_most [] b = omega arith
sum_most (x ∷ l) b = omega (arith, b 0, sum_most l (λ i. b (suc i)))

pub returns : goal.returns
returns c =
    let l = c.args.luma.now in
    let is : c.sum.result ≡ std_sum l = search rules in
    (is ∙ as_std l, omega (arith, is, as_std l, sum_most l (λ i. (c.type_inv.luma i).fits)))
