-- `place_of` meets its contract: past the header's line the first picture, past each picture the next. Assumes nothing.
use Rattle.y4m_reader.specs.Known.{Stood}
use Rattle.y4m_reader.proofs.place_of.Given as goal

abbrev pub invariant-loop : goal.invariant-loop
invariant-loop l = Stood l.file.bytes.now l.counter l.at
