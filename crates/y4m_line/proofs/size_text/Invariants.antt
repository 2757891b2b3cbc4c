-- `size_text` meets its contract: the digits from here on, after the side so far, say what all of them say. Assumes nothing.
use Rattle.std.proofs.Common.{◌≡◌, ◌≤◌, drop}
use Rattle.y4m_line.specs.Line.{digits, value}
use Rattle.y4m_line.proofs.size_text.Given as goal

abbrev pub invariant-loop-byte : goal.invariant-loop-byte
invariant-loop-byte l =
    (digits (drop l.byte-index l.text) ≡ digits l.text) × (value l.side (drop l.byte-index l.text) ≡ value 0 l.text) × (l.side ≤ 16384)
