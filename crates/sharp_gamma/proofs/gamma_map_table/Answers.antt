-- Above the first index of 255 every entry is 255.
-- Assumes nothing.
use Rattle.std.proofs.Common.{◌≡◌, ℕ, get_or, subst, arith, rules}
use Rattle.std.proofs.lemmas.Grind.{common_steps}
use Rattle.sharp_gamma.specs.Entry.{gamma_entry}
use Rattle.sharp_gamma.proofs.Bounds.{gamma_entry-le}
use Rattle.sharp_gamma.proofs.Filled.{Filled, finish}
use Rattle.sharp_gamma.proofs.gamma_map_table.Goals as goal

pub returns : goal.returns
returns c =
    let entry = gamma_entry c.args.transfer c.args.rounding in
    let first = c.first_index_table-first.result in
    let all : c.loop-k.k ≡ 255 = omega arith in
    let filled = subst (λ (k : ℕ). Filled entry c.loop-k.table (get_or first k 0) k) all (c.loop-k.invariant entry c.first_index_table-first.ensures) in
    record {
      size = grind (arith, common_steps);
      at = finish {run = c.fill-2.new.self} filled (gamma_entry-le c.args.transfer c.args.rounding) (search rules) (omega arith) (search rules) _;
    }
