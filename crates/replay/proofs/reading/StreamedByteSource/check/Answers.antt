-- `check` meets its contract: where no read failed there are bytes that may be left.
use Rattle.replay.proofs.Sources.{is_whole}
use Rattle.replay.proofs.reading.StreamedByteSource.check.Goals as goal

pub returns-in_default-clause-whole : goal.returns-in_default-clause-whole
returns-in_default-clause-whole g c = is_whole c.take.new.self c.args.self.now.ended _ c.take.ensures.after
