-- `read_part` meets its contract: a reader that shows nothing is at its end.
use Rattle.std.proofs.Common.{arith, subst, ◌≤◌, length}
use Rattle.std.specs.Io.BufRead.{FillKeeps}
use Rattle.std.proofs.BufReadLemmas.{Consumes_shown}
use Rattle.replay.proofs.reading.read_part.Goals as goal

pub returns-clause-end : goal.returns-clause-end
returns-clause-end g c =
    let shown = c.in_ok-shown.shown.now in
    let rested = c.fill_buf.follows.lender-at-none in
    let filled = subst (FillKeeps _ (g.B.Read.remaining rested) (g.B.BufRead.consumable_len rested)) c.in_ok-shown.was c.fill_buf.follows.holds-at-none in
    let within : c.min-size.result ≤ length shown = omega (arith, c.min-size.ensures) in
    let moved = Consumes_shown _ _ _ _ shown c.min-size.result within c.in_ok-shown.ensures.front c.in_ok-shown.ensures.end filled.0 filled.1 c.consume.ensures.bytes in
    λ none room. moved.1 (omega (arith, c.min-size.ensures, none, room))
