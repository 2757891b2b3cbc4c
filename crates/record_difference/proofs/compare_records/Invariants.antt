-- The invariant: what the planes that are left say is the whole answer. Assumes nothing.
use Rattle.std.proofs.Common.{◌≡◌}
use Rattle.shift_reader.specs.Entry.{record_of}
use Rattle.record_difference.specs.Record.{record_difference}
use Rattle.record_difference.proofs.Compared.{from_plane}
use Rattle.record_difference.proofs.compare_records.Given as goal

abbrev pub invariant-loop-plane : goal.invariant-loop-plane
invariant-loop-plane l =
    let r = record_of l.ours.file.form l.ours.file.bytes.now l.ours.k in
    let s = record_of l.theirs.file.form l.theirs.file.bytes.now l.theirs.k in
    from_plane l.plane-index l.a.size r s ≡ record_difference l.ours.file.form r l.theirs.file.form s
