-- A list over a slice, and what may be left of one over a reader.
use Rattle.std.specs.Prelude.{List, ℕ}
use Rattle.std.specs.declared.option.Option.{Option}
use Rattle.std.specs.Borrow.{Bor}
use Rattle.replay.specs.declared.list.List as declared
use Rattle.replay.specs.declared.reading.Streamed.{Streamed}
use Rattle.replay.specs.Sources.{left_of}

-- what is left to a list over a reader, by what the reader itself may have left
abbrev pub streamed_left : {B : Type 0} → (B → Option (List ℕ)) → Streamed B → List ℕ → Type 0
streamed_left remaining s = left_of s.failure s.ended (remaining s.reader)

abbrev pub SliceList : Type 0
SliceList = declared.List (Bor (List ℕ))
