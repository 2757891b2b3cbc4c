-- The pictures left to put, put from here on, are all of them put from the start.
use Rattle.std.proofs.Common.{◌≡◌, ◌+◌, ◌≤◌, length}
use lib.Seq.{sets}
use Rattle.y4m_writer.specs.Known.{frames_in}
use Rattle.y4m_writer.proofs.Frames.{frames_left}
use Rattle.y4m_writer.proofs.planes.WholePictures.put.Given as goal

abbrev pub invariant-loop-picture : goal.invariant-loop-picture
invariant-loop-picture l =
    let left = frames_left l.planes l.picture-iterator.rest.now in
    (sets l.output l.to left ≡ sets l.initial.output 0 (frames_in l.self.header l.self.bytes.now))
    × (length l.output ≡ length l.initial.output) × (l.picture-iterator.size ≡ l.planes) × (l.to + length left ≤ length l.initial.output)
