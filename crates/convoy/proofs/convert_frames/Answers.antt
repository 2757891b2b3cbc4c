use Rattle.std.proofs.Common.{rules, arith, ◌≡◌}
use Rattle.std.specs.Prelude.{Ok}
use Rattle.convoy.specs.Run.{Planes, planes_of}
use Rattle.convoy.proofs.Walked.{walked_none, next_inside, walked_then, walked_stop, walked_end}
use Rattle.convoy.proofs.convert_frames.Goals as goal

pub loop-done-init : goal.loop-done-init
loop-done-init c = walked_none c.args.source.now c.args.frames.now (planes_of c.args.y.now c.args.u.now c.args.v.now)

pub convert_frame-requires : goal.convert_frame-requires
convert_frame-requires c =
    next_inside c.args.source.now c.args.frames.now c.loop-done.done (planes_of c.args.y.now c.args.u.now c.args.v.now) (planes_of c.loop-done.y c.loop-done.u c.loop-done.v)
    c.loop-done.invariant c.loop-done-test.true c.requires

pub returns-in-Err : goal.returns-in-Err
returns-in-Err c =
    let left : Planes = planes_of c.convert_frame.new.y c.convert_frame.new.u c.convert_frame.new.v in
    walked_stop c.args.source.now c.args.frames.now c.loop-done.done (planes_of c.args.y.now c.args.u.now c.args.v.now) (planes_of c.loop-done.y c.loop-done.u c.loop-done.v)
    c.loop-done.invariant c.loop-done-test.true c.convert_frame.result left _ c.convert_frame.ensures c.in-Err.is (omega arith)

pub loop-done-preserved : goal.loop-done-preserved
loop-done-preserved c =
    let left : Planes = planes_of c.convert_frame.new.y c.convert_frame.new.u c.convert_frame.new.v in
    let finished : c.convert_frame.result ≡ Ok tt = search rules in
    walked_then c.args.source.now c.args.frames.now c.loop-done.done (planes_of c.args.y.now c.args.u.now c.args.v.now) (planes_of c.loop-done.y c.loop-done.u c.loop-done.v)
    c.loop-done.invariant c.loop-done-test.true c.requires c.convert_frame.result left c.convert_frame.ensures finished

pub returns : goal.returns
returns c =
    walked_end c.args.source.now c.args.frames.now c.loop-done.done (planes_of c.args.y.now c.args.u.now c.args.v.now) (planes_of c.loop-done.y c.loop-done.u c.loop-done.v)
    c.loop-done.invariant c.loop-done-test.false
