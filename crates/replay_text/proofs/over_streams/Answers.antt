-- `over_streams` meets its contract: `replay` made the requests, over buffers that were empty at first, and nothing was written after them.
use Rattle.std.proofs.KnownBytes.{Keeps-trans}
use Rattle.replay.proofs.Streams.{begun}
use Rattle.replay_text.proofs.Opened.{opened}
use Rattle.replay_text.proofs.over_streams.Goals as goal

pub returns : goal.returns
returns g c =
    let read = c.in_ok-text.ensures in
    let wrote = c.in_ok-out.ensures in
    let first = opened g.I.Read.remaining c.in_ok-text.text _ read.inner read.empty read.capacity in
    let p = c.in_ok-replay.ensures in (
      p.0,
      p.1,
      c.in_ok-out.out,
      p.2,
      p.3,
      rw first at p.4,
      begun g.O.Write.contents c.in_ok-out.out _ wrote.inner wrote.empty,
      p.5,
      p.6,
      Keeps-trans _ _ _ p.7 c.in_ok-into_inner.ensures.ok,
    )
