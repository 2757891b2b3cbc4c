-- `frame` meets its contract: the description is behind the first four numbers, and the parts are those from number 2 on.
-- Assumes nothing.
use Rattle.std.proofs.lemmas.List.{take_rest}
use Rattle.call_numbers.specs.Codes.{settings_of}
use Rattle.desk_numbers.specs.Numbers.{frame_of}
use Rattle.desk_numbers.proofs.PlaceNumbers.frame.Goals as goal

pub returns : goal.returns
unfolding frame_of settings_of
returns c =
    let described = rw (take_rest c.args.self.numbers 4) at c.describe.ensures in
    rw (described, c.parts_at.ensures)
