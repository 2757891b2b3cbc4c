-- `over_streams` meets its contract: `replay` made the calls, of the bytes that were read; nothing waited to be written at first, and nothing
-- was written after them.
use Rattle.std.proofs.Common.{rules}
use Rattle.std.proofs.KnownBytes.{Keeps-trans}
use Rattle.replay.proofs.Streams.{begun}
use Rattle.replay.proofs.slices.over_streams.Goals as goal

pub returns : goal.returns
returns g c =
    let wrote = c.in_ok-out.ensures in
    let p = c.in_ok-replay.ensures in (
      record { rest = c.as_slice.result; alloc = c.args.alloc },
      p.0,
      c.replay.new.list,
      p.1,
      c.in_ok-out.out,
      p.2,
      search rules,
      p.3,
      begun g.O.Write.contents c.in_ok-out.out _ wrote.inner wrote.empty,
      p.4,
      Keeps-trans _ _ _ p.5 c.in_ok-into_inner.ensures.ok,
    )
