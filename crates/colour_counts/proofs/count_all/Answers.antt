use Rattle.std.proofs.Common.{◌≡◌, ℕ, ◌*◌, List, length, refl, ◌∙◌, arith, rules, replicate}
use Rattle.std.proofs.lemmas.Grind.{common_steps}
use Rattle.definitions.specs.Painted.{Painted}
use Rattle.definitions.proofs.Numbers.{next_row}
use Rattle.definitions.proofs.Painted.{painted, Painted-at, Painted-over}
use Rattle.colour_counts.specs.Counts.{count_below}
use Rattle.colour_counts.specs.Known.{luma_by}
use Rattle.colour_counts.proofs.Counting.{count_none}
use Rattle.colour_counts.proofs.count_all.Goals as goal

-- what a list holds, whatever it held before
holds : {n : ℕ} {f : ℕ → ℕ} {d e : List ℕ} → Painted n f d e → Painted n f e e
holds p = painted refl (Painted-at p) (λ k h. refl)

-- no colour is counted yet
none_yet : (f : ℕ → ℕ) (before : List ℕ) → length before ≡ 256 → Painted 256 (count_below f 0) before (replicate (length before) 0)
none_yet f before size = painted (grind (arith, common_steps)) (λ y l. grind (arith, common_steps, count_none f y)) (λ k h. grind (arith, common_steps))

pub loop-pair-init : goal.loop-pair-init
loop-pair-init c =
    let cleared : c.fill.new.self ≡ replicate (length c.args.counts.now) 0 = search rules in
    (omega arith, c.fill.ensures.len ∙ c.told-counts, rw cleared (none_yet (luma_by c.args.w) c.args.counts.now c.told-counts))

pub count_blues-requires-clause-painted : goal.count_blues-requires-clause-painted
count_blues-requires-clause-painted c = holds c.loop-pair.invariant.2

pub loop-pair-preserved : goal.loop-pair-preserved
loop-pair-preserved c = (
  omega arith,
  c.count_blues.ensures.size ∙ c.loop-pair.invariant.1,
  rw (next_row c.loop-pair.pair 256) (Painted-over c.loop-pair.invariant.2 c.count_blues.ensures),
)

pub returns : goal.returns
returns c =
    let all : 16777216 ≡ c.loop-pair.pair * 256 = omega arith in
    rw all c.loop-pair.invariant.2
