-- After so many turns their lines stand at the start of the output, 13 bytes at most for each.
-- Assumes nothing.
use Rattle.std.proofs.Common.{◌*◌, ◌≤◌, get_or}
use Rattle.counts_request.specs.Reply.{lines}
use Rattle.counts_request.specs.Puts.{PutsInto}
use Rattle.counts_request.proofs.put_lines.Given as goal

abbrev pub invariant-loop-luma : goal.invariant-loop-luma
invariant-loop-luma l = (l.text.at ≤ 13 * l.luma) × PutsInto (lines (λ y. get_or l.counts y 0) l.luma) l.initial.text l.text
