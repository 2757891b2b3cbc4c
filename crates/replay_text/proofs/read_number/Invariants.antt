-- The digits so far were read.
use Rattle.std.proofs.Common.{◌≡◌, ◌%◌, fold, take}
use Rattle.replay_text.specs.Lines.{with_digit}
use Rattle.replay_text.proofs.read_number.Given as goal

abbrev pub invariant-loop-b : goal.invariant-loop-b
invariant-loop-b l = l.n ≡ fold with_digit 0 (take l.b-index l.text) % 1000000
