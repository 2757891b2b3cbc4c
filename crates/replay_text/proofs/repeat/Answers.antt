-- The bytes past the ninth come again.
use Rattle.std.proofs.Common.{rules, ◌-◌, ◌<◌, ◌≤◌, length, arith}
use Rattle.replay.specs.Stored.{Repeats}
use Rattle.replay_text.proofs.Again.{lengthened}
use Rattle.replay_text.proofs.repeat.Goals as goal

pub returns-clause-bytes : goal.returns-clause-bytes
returns-clause-bytes c =
    let more : 9 < c.args.given = omega (arith, c.if-given-le-HEADER.false) in
    let within : c.args.size ≤ length c.args.room.now = omega arith in
    let part : Repeats (c.args.given - 9) c.repeat.new.buffer = c.repeat.ensures.repeats in
    lengthened c.args.room.now c.repeat.new.buffer c.args.given c.args.size more c.if-size-given.false within (search rules) part c.repeat.ensures.front
