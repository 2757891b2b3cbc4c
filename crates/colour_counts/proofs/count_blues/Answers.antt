use Rattle.std.proofs.Common.{◌≡◌, ℕ, ◌+◌, ◌*◌, ◌/◌, ◌%◌, ◌<◌, ap, ◌∙◌, arith, length-set}
use Rattle.forward_transform.proofs.Sums.{byte_times}
use Rattle.definitions.proofs.Numbers.{next_row}
use Rattle.definitions.proofs.Painted.{Painted-at}
use Rattle.colour_counts.specs.declared.luma.LumaWeights.{LumaWeights}
use Rattle.colour_counts.specs.Known.{luma_by}
use Rattle.colour_counts.proofs.Counting.{count_le, counted}
use Rattle.colour_counts.proofs.count_blues.Goals as goal

-- from the sum so far comes the luma of the colour with this number
luma_here : (w : LumaWeights) (pair blue s : ℕ) → blue < 256 → s ≡ pair / 256 * w.r + pair % 256 * w.g + w.start
    → (s * 4294967296 + blue * w.b * 4294967296) / 4294967296 / 8192 ≡ luma_by w (pair * 256 + blue)
luma_here w pair blue s h is =
    let red : (pair * 256 + blue) / 65536 ≡ pair / 256 = omega arith in
    let green : (pair * 256 + blue) / 256 % 256 ≡ pair % 256 = omega arith in
    let last : (pair * 256 + blue) % 256 ≡ blue = omega arith in
    rw (red, green, last) (omega arith)

-- and it is a byte, as the sum is
byte_here : (sum s b blue : ℕ) → sum ≡ s * 4294967296 + blue * b * 4294967296 → s + 255 * b < 256 * 8192 → blue < 256 → sum / 4294967296 / 8192 < 256
byte_here sum s b blue is few h = omega (arith, byte_times blue b h)

pub overflow_add-counts : goal.overflow_add-counts
overflow_add-counts c =
    let y : ℕ = c.loop-blue.sum / 4294967296 / 8192 in
    let n = c.args.pair * 256 + c.loop-blue._blue in
    let small : y < 256 = byte_here _ _ _ _ c.loop-blue.invariant.2 c.sum_of-sum.ensures.1 (omega arith) in
    record { fits = omega (arith, Painted-at c.loop-blue.invariant.3 y small, count_le (luma_by c.args.w) n y) }

pub loop-blue-preserved : goal.loop-blue-preserved
loop-blue-preserved c =
    let w : LumaWeights = c.args.w in
    let pair : ℕ = c.args.pair in
    let blue : ℕ = c.loop-blue._blue in
    let y : ℕ = c.loop-blue.sum / 4294967296 / 8192 in
    let small : y < 256 = byte_here _ _ _ _ c.loop-blue.invariant.2 c.sum_of-sum.ensures.1 (omega arith) in
    let luma : y ≡ luma_by w (pair * 256 + blue) =
    ap (λ (n : ℕ). n / 4294967296 / 8192) c.loop-blue.invariant.2 ∙ luma_here w pair blue _ (omega arith) c.sum_of-sum.ensures.0 in
    let next : pair * 256 + (blue + 1) ≡ pair * 256 + blue + 1 = omega arith in (
      omega arith,
      simp length-set c.loop-blue.invariant.1,
      omega (arith, next_row blue w.b),
      rw (next, luma) (counted (luma_by w) (rw (← luma) small) (omega arith) c.loop-blue.invariant.3),
    )
