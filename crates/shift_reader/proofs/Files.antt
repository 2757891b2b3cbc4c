-- A file that was opened, and its records: what is known of them. Assumes nothing.
use native.Mathlib.Omega.{arith}
use Rattle.shift_file.specs.File.{Allowed}
use Rattle.shift_file.specs.Read.{records_in}
use Rattle.shift_reader.specs.declared.file.ShiftFile.{ShiftFile}
use Rattle.shift_reader.specs.declared.file.FileRecord.{FileRecord}
use Rattle.shift_reader.specs.Entry.{record_of}
use Rattle.shift_reader.proofs.Places.{Known, known, allowed, There, there}

pub file_known : (f : ShiftFile) → Known f.form f.bytes.now
file_known f = known f.form f.bytes.now f.checked f.are_bytes

pub record_allowed : (r : FileRecord) → Allowed r.file.form (record_of r.file.form r.file.bytes.now r.k)
record_allowed r =
    let its = file_known r.file in
    allowed r.file.form r.file.bytes.now (records_in r.file.form r.file.bytes.now) r.k its.its (omega (arith, its.count, r.file.counted, r.below))

pub its_place : (r : FileRecord) → There r.file.form r.file.bytes.now r.k
its_place r = there r.file.form r.file.bytes.now r.k r.file.count r.file.checked r.file.are_bytes r.file.counted r.below
