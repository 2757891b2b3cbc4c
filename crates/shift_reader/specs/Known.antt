-- What is known of a file that the check let through, and of its entries. This serves the contracts between functions: no meaning stands here.
-- Assumes nothing.
use Rattle.std.specs.Prelude.{ℕ, ◌+◌, ◌≤◌, ◌<◌, ◌≡◌, List, length, take, drop}
use Rattle.shift_file.specs.declared.ShiftForm.{ShiftForm}
use Rattle.shift_file.specs.File.{ShiftRecord, IsFileOf, header_size, bytes_of}
use Rattle.shift_file.specs.Read.{records_in}
use Rattle.shift_reader.specs.declared.ShiftEntry.{ShiftEntry}
use Rattle.shift_reader.specs.declared.file.FileRecord.{FileRecord}
use Rattle.shift_reader.specs.Entry.{record_of, offset_of}

-- the file of its records, which are more than k
pub record HasRecord (form : ShiftForm) (file : List ℕ) (k : ℕ) : Type 0 where
  pub is_file_lem : IsFileOf form file (records_in form file)
  pub below : k < length (records_in form file)

-- what an entry tells, and that record and planes stand there
pub record EntryIs (form : ShiftForm) (file : List ℕ) (k : ℕ) (e : ShiftEntry) : Type 0 where
  pub crossing : e.crossing ≡ (record_of form file k).crossing
  pub width : e.width ≡ (record_of form file k).width
  pub height : e.height ≡ (record_of form file k).height
  pub offset : e.offset ≡ offset_of form (records_in form file) k
  pub size : e.length ≡ length (bytes_of (record_of form file k))
  pub y_offset : e.y_offset ≡ offset_of form (records_in form file) k + header_size form
  pub y_size : e.y_length ≡ length (record_of form file k).y
  pub u_offset : e.u_offset ≡ offset_of form (records_in form file) k + header_size form + length (record_of form file k).y
  pub u_size : e.chroma_length ≡ length (record_of form file k).u
  pub v_offset : e.v_offset ≡ offset_of form (records_in form file) k + header_size form + length (record_of form file k).y + length (record_of form file k).u
  pub v_size : e.chroma_length ≡ length (record_of form file k).v
  pub inside : e.offset + e.length ≤ length file
  pub planes : e.v_offset + e.chroma_length ≤ length file
  pub bytes : take e.length (drop e.offset file) ≡ bytes_of (record_of form file k)
  pub y : take e.y_length (drop e.y_offset file) ≡ (record_of form file k).y
  pub u : take e.chroma_length (drop e.u_offset file) ≡ (record_of form file k).u
  pub v : take e.chroma_length (drop e.v_offset file) ≡ (record_of form file k).v

-- what a record of a file is
abbrev pub record_in : FileRecord → ShiftRecord
record_in r = record_of r.file.form r.file.bytes.now r.k

-- where it stands
abbrev pub offset_in : FileRecord → ℕ
offset_in r = offset_of r.file.form (records_in r.file.form r.file.bytes.now) r.k
