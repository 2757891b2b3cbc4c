use native.Mathlib.Omega.{arith}
use Prim.Native.Nat.{◌+◌}
use mathlib.Core.Path.{◌≡◌, sym, ap, ◌∙◌}
use Rattle.std.specs.Prelude.{None}
use Rattle.shift_file.specs.Check.{size_standing}
use Rattle.shift_writer.specs.Records.{count_back}
use Rattle.shift_writer.proofs.Count.{Reached, Reached-zero, Reached-more, count_at_end, count_at_none, count_at_most}
use Rattle.shift_writer.proofs.count_records.Goals.{In_ok-at}
use Rattle.shift_writer.proofs.count_records.Goals as goal

more : (c : In_ok-at) → Reached c.args.form c.args.records.now (c.loop-count.at + c.in_ok-at.field-0) (c.loop-count.count + 1)
more c =
    Reached-more c.args.form c.args.records.now c.loop-count.at c.loop-count.count c.loop-count.invariant (omega arith) c.if-at-records.false c.in_ok-at.field-0
    (sym (c.size_standing.ensures ∙ ap (size_standing c.args.form) c.from_place.ensures) ∙ c.in_ok-at.was)

pub loop-count-init : goal.loop-count-init
loop-count-init c = Reached-zero _ _

pub returns-then-at-records : goal.returns-then-at-records
returns-then-at-records c = count_at_end _ _ _ _ c.loop-count.invariant (omega arith) c.if-at-records.true

pub returns-in_err-at : goal.returns-in_err-at
returns-in_err-at c =
    let e : None ≡ count_back c.args.form c.args.records.now =
    count_at_none c.args.form c.args.records.now c.loop-count.at c.loop-count.count c.loop-count.invariant (omega arith) c.if-at-records.false
    (sym (c.size_standing.ensures ∙ ap (size_standing c.args.form) c.from_place.ensures) ∙ c.in_err-at.was) in
    cc

pub overflow_add-at : goal.overflow_add-at
overflow_add-at c = omega (arith, (more (goal.at.overflow_add-at c).In_ok-at).inside)

pub loop-count-preserved : goal.loop-count-preserved
loop-count-preserved c = more (goal.at.loop-count-preserved c).In_ok-at

pub returns : goal.returns
returns c = count_at_most _ _ _ _ c.loop-count.invariant (omega arith)
