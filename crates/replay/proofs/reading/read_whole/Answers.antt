-- `read_whole` meets its contract: a part follows on what was read so far, and a read that a signal interrupted gives no byte.
use Rattle.std.proofs.Common.{◌≡◌, ◌+◌, ◌-◌, length, [], arith, rules}
use Rattle.std.proofs.KnownBytes.{Consumes-nil, Consumes-kept}
use borrow.Rule.Slice.PartMut.{put_mid}
use Rattle.replay.proofs.Sources.{part_more}
use Rattle.replay.proofs.reading.read_whole.Goals.{in-Ok, in-Err+else-ne}
use Rattle.replay.proofs.reading.read_whole.Goals as goal

pub loop-preserved : goal.loop-preserved
loop-preserved g c =
    let before = g.B.Read.remaining c.args.reader.now in
    let now = g.B.Read.remaining c.loop.reader in
    let after = g.B.Read.remaining c.read_part.new.reader in
    let buffer = c.loop.buffer in
    let part = c.read_part.new.buffer in
    let new = put_mid c.loop.size (length buffer - c.loop.size) buffer part in
    let within = c.loop.invariant.1 in
    let long : length part ≡ length buffer - c.loop.size = search rules in
    let as_long : length new ≡ length c.args.buffer.now = search rules in
    elim c.match-read_part.branch [
      | in-Ok w ↦
          let more = part_more before now after c.args.buffer.now buffer part c.loop.size w.in-Ok.n within c.loop.invariant.2 c.loop.invariant.3 long
          w.in-Ok.ensures.within w.in-Ok.ensures.bytes w.in-Ok.ensures.tail in
          rw w.size-is (as_long, omega (arith, as_long, c.loop.invariant.0, long, within, w.in-Ok.ensures.within), more.0, more.1)
      | in-Err+else-ne w ↦
          let more = part_more before now after c.args.buffer.now buffer part c.loop.size 0 within c.loop.invariant.2 c.loop.invariant.3 long
          (omega arith) (Consumes-kept now now after [] (Consumes-nil now) w.in-Err.ensures.kept) w.in-Err.ensures.still in
          let same : c.match-read_part.size ≡ c.loop.size + 0 = omega (arith, w.size-is) in
          rw same (as_long, omega (arith, as_long, c.loop.invariant.0, within, w.size-is), more.0, more.1)
    ]
