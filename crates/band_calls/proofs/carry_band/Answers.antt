-- `carry_band` meets its contract: the part that is lent is the band's last row.
-- Assumes nothing.
use Prim.Native.Nat.{ℕ, ◌+◌, ◌*◌, ◌-◌, ◌/◌, ◌%◌}
use mathlib.Core.Path.{◌≡◌, sym, ap, ◌∙◌}
use native.Mathlib.Omega.{arith}
use lib.ListN.{take, drop}
use Rattle.definitions.specs.Row.{Pixels, pixels_of}
use Rattle.definitions.specs.Image.{row_start}
use Rattle.definitions.proofs.Painted.{Painted-like}
use Rattle.definitions.proofs.Windows.{own_row}
use Rattle.band_calls.proofs.LastRow.{last_row}
use Rattle.band_calls.proofs.carry_band.Goals as goal

pub slice_bounds-carry_row-end : goal.slice_bounds-carry_row-end
slice_bounds-carry_row-end c =
    let size = ap (λ (m : ℕ). c.args.band.frame.width * m) c.get_channels_count-count.ensures in
    omega (arith, last_row c.args.band c.args.source.now c.requires.sized c.requires.given, c.row_start-at.ensures, size)

pub returns-then-is_carried : goal.returns-then-is_carried
returns-then-is_carried c =
    let width = c.args.band.frame.width in
    let count = c.get_channels_count-count.result in
    let end = c.args.band.done + c.args.band.rows in
    let place : c.args.band.rows - 1 ≡ end - 1 - c.args.band.done = omega arith in
    let row = ap (λ (m : ℕ). pixels_of m (take (c.row_start-at.result + width * count - c.row_start-at.result) (drop c.row_start-at.result c.args.source.now)))
    c.get_channels_count-count.ensures
    ∙ own_row c.args.band c.args.source.now (end - 1) c.row_start-at.result (width * count)
    (c.row_start-at.ensures ∙ ap (λ (m : ℕ). row_start c.args.band.frame c.args.band.stride m) place)
    (ap (λ (m : ℕ). width * m) c.get_channels_count-count.ensures) in
    rw (sym c.is_carried.ensures ∙ c.if-is_carried.true)
    (Painted-like (λ q _. ap (λ (p : Pixels). p (q / 3) (q % 3)) row) c.carry_row.ensures)
