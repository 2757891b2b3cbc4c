-- `over_streams_as_read` meets its contract: `replay_as_read` made the calls, of the list that the reader holds; nothing waited to be written at first,
-- and nothing was written after them.
use Rattle.std.proofs.KnownBytes.{Keeps-trans}
use Rattle.replay.proofs.Streams.{begun}
use Rattle.replay.proofs.list.over_streams_as_read.Goals as goal

pub returns : goal.returns
returns g c =
    let wrote = c.in_ok-out.ensures in
    let p = c.in_ok-replay_as_read.ensures in (
      c.in_ok-list.list,
      p.0,
      c.replay_as_read.new.list,
      p.1,
      c.in_ok-out.out,
      p.2,
      p.3,
      c.in_ok-list.ensures,
      p.4,
      p.5,
      begun g.O.Write.contents c.in_ok-out.out _ wrote.inner wrote.empty,
      p.6,
      p.7,
      Keeps-trans _ _ _ p.8 c.in_ok-into_inner.ensures.ok,
    )
