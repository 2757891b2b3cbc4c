-- `bytes` meets its contract: what was read stands before what may be left.
use Rattle.std.proofs.Common.{◌≡◌, length, None, false, refl, rules}
use Rattle.std.specs.declared.io.Error.{Error}
use Rattle.replay.proofs.Sources.{read_on}
use Rattle.replay.proofs.reading.StreamedByteSource.bytes.Goals as goal

pub returns-in-Ok : goal.returns-in-Ok
returns-in-Ok g c =
    let none : c.args.self.now.failure ≡ None = search rules in
    let open_yet : c.args.self.now.ended ≡ false = search rules in
    let long : length c.read_whole.new.buffer ≡ length c.args.buffer.now = search rules in
    let read = c.in-Ok.ensures in
    rw (none, open_yet) (read_on Error _ _ c.in-Ok.size c.args.buffer.now c.read_whole.new.buffer _ long read.within read.bytes read.tail read.end refl)
