-- Both loops: the planes are equal up to the place. A number or a byte that differs below the end stops the front below it. Assumes nothing.
use Rattle.std.proofs.Common.{arith, sym, ◌∙◌, ◌+◌, ◌*◌, ◌≤◌}
use borrow.Author.Tests.{le-leb}
use Rattle.plane_difference.specs.Difference.{equal_front}
use Rattle.plane_difference.proofs.Front.{front_more, front_number, word_differs, byte_differs}
use Rattle.plane_difference.proofs.is_row_equal.Goals as goal

pub returns-then-read_u64 : goal.returns-then-read_u64
returns-then-read_u64 c =
    word_differs 8 (c.args.from + 8 * c.loop-k.k) _ _ _ (omega (arith, c.loop-k-test.true))
    (λ e. c.if-read_u64.true (c.read_u64.ensures ∙ e ∙ sym c.read_u64-in-loop-k.ensures))

pub loop-k-preserved : goal.loop-k-preserved
loop-k-preserved c =
    let at = c.args.from + 8 * c.loop-k.k in
    let more : at + 8 ≤ equal_front c.args.ours.now c.args.theirs.now =
    front_number 8 at _ _ (λ k. (c.type_inv.ours k).fits) (λ k. (c.type_inv.theirs k).fits)
    (omega (arith, c.loop-k-test.true)) (omega (arith, c.loop-k-test.true))
    (sym c.read_u64.ensures ∙ c.if-read_u64.false ∙ c.read_u64-in-loop-k.ensures) c.loop-k.invariant in
    omega (arith, more)

pub loop-at-init : goal.loop-at-init
loop-at-init c = omega (arith, c.loop-k.invariant, c.loop-k-test.false, c.loop-k.auto.k-end)

pub returns-then-ours-at : goal.returns-then-ours-at
returns-then-ours-at c = byte_differs c.loop-at.at c.args.end _ _ (omega (arith, c.loop-at-test.true)) c.if-ours-at.true

pub loop-at-preserved : goal.loop-at-preserved
loop-at-preserved c = front_more _ _ c.loop-at.at (omega arith) (omega arith) c.if-ours-at.false c.loop-at.invariant

pub returns : goal.returns
returns c = sym (le-leb c.args.end (equal_front c.args.ours.now c.args.theirs.now)
    (omega (arith, c.loop-at.invariant, c.loop-at-test.false, c.loop-k-test.false, c.loop-k.auto.k-end)))
