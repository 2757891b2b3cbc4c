-- The entry has the sides, the record's own bytes the sampling, and the file the planes. Assumes nothing.
use Rattle.std.proofs.Common.{◌∙◌, ap, length}
use Rattle.shift_file.specs.File.{ShiftRecord, Allowed}
use Rattle.shift_reader.specs.Entry.{record_of}
use Rattle.shift_reader.proofs.Files.{record_allowed}
use Rattle.record_difference.proofs.Compared.{header_whole, size_told, picked, plane_size}
use Rattle.record_difference.proofs.frame.Frame.of.Goals as goal

pub sampling_at-requires : goal.sampling_at-requires
sampling_at-requires c = header_whole _ _ (record_allowed c.args.file_record.now) _ c.bytes.ensures

pub invariant_of-result : goal.invariant_of-result
invariant_of-result c =
    let f = c.args.file_record.now.file in
    let r : ShiftRecord = record_of f.form f.bytes.now c.args.file_record.now.k in
    let a : Allowed f.form r = record_allowed c.args.file_record.now in
    let e = size_told f.form r a _ c.bytes.ensures _ _ _ c.entry-entry.ensures.width c.entry-entry.ensures.height c.sampling_at.ensures in
    record { fits = λ plane. ap length (picked plane r _ _ _ c.planes-planes.ensures.y c.planes-planes.ensures.u c.planes-planes.ensures.v) ∙ plane_size plane f.form r _ a e }

pub returns-clause-size : goal.returns-clause-size
returns-clause-size c =
    size_told _ _ (record_allowed c.args.file_record.now) _ c.bytes.ensures _ _ _ c.entry-entry.ensures.width c.entry-entry.ensures.height c.sampling_at.ensures
