-- The shift file for C and Rust: what the calls `segvartin_call_shift_records`, `_records_any`, `_write`, `_write_settings`, `_record`,
-- `_record_settings`, `_forward` and `_back` answer and leave, which is the promise of the call under each. docs/RULES.md, 10.5.
-- Assumes nothing.
use Rattle.std.specs.Prelude.{ℕ, ◌≡◌, List, [], ◌∷◌, length, Option, Some, None, Result}
use Rattle.yuv_error.specs.declared.YuvError.{YuvError}
use Rattle.yuv_error.specs.Numbers.{numbers_of}
use Rattle.yuv_error.specs.Rules.{Rule}
use Rattle.yuv_error.specs.Lent.{taken}
use Rattle.call_numbers.specs.Codes.{at}
use Rattle.shift_file.specs.declared.ShiftForm.{ShiftForm}
use Rattle.shift_file.specs.declared.ShiftForm.TheVariants.{WithoutSettings, WithSettings}
use Rattle.shift_file.specs.declared.SettingCodes.{SettingCodes}
use Rattle.shift_file.specs.Check.{form_in}
use Rattle.shift_reader.specs.declared.EntryKind.TheVariants.{Places, PlacesAndSettings}
use Rattle.shift_reader.specs.declared.ShiftReading.{ShiftReading}
use Rattle.shift_reader.specs.Reading.{read_outcome, reading_of, file_rules, ReadPost}
use Rattle.shift_writer.specs.declared.NotWritten.{NotWritten}
use Rattle.shift_writer.specs.Output.{outcome_of, size_of}
use Rattle.shift_writer.specs.Writing.{write_rules, WritePost}
use Rattle.shift_record.specs.declared.RecordFrame.{RecordFrame}
use Rattle.shift_record.specs.Record.{record_rules, RecordPost}
use Rattle.shift_move.specs.Moving.{move_rules, MovePost}

-- ---- `segvartin_call_shift_records`

-- RULES 10.5: what a call was given, the number that it returned, and what it was lent as it left it
pub record ExportedReading : Type 0 where
  pub file : List ℕ
  pub first : ℕ
  pub entries : List ℕ
  pub number : ℕ
  pub told : List ℕ
  pub entries' : List ℕ

-- RULES 10.5
abbrev pub exported_reading : (file : List ℕ) (first : ℕ) (entries : List ℕ) (number : ℕ) (told entries' : List ℕ) → ExportedReading
exported_reading file first entries number told entries' =
    record { file = file; first = first; entries = entries; number = number; told = told; entries' = entries' }

-- RULES 10.5: 15
abbrev pub rules_of_reading : ExportedReading → List Rule
rules_of_reading k = file_rules WithoutSettings k.file

-- RULES 10.5: the promise of `read_records`; told are the file's count and how many entries were written
pub record ReadingKept (k : ExportedReading) : Type 0 where
  pub reading : Result ShiftReading YuvError
  pub number : k.number ≡ (numbers_of (read_outcome reading)).number
  pub told : k.told ≡ (reading_of reading).count ∷ (reading_of reading).told ∷ []
  pub read : ReadPost Places WithoutSettings k.file k.first k.entries reading k.entries'

-- ---- `segvartin_call_shift_records_any`

-- RULES 10.5: 0 without settings, 1 with them
abbrev pub form_number : ShiftForm → ℕ
form_number WithoutSettings = 0
form_number WithSettings = 1

-- RULES 10.5: 15, where these bytes are no file of either form
abbrev pub rules_of_reading_any : ExportedReading → List Rule
rules_of_reading_any k = file_rules (form_in k.file) k.file

-- RULES 10.5: the promise of `read_records` in the form that the file has; told are the file's count, how many entries were written, and the form
pub record ReadingAnyKept (k : ExportedReading) : Type 0 where
  pub reading : Result ShiftReading YuvError
  pub number : k.number ≡ (numbers_of (read_outcome reading)).number
  pub told : k.told ≡ (reading_of reading).count ∷ (reading_of reading).told ∷ taken (read_outcome reading) (form_number (form_in k.file)) ∷ []
  pub read : ReadPost PlacesAndSettings (form_in k.file) k.file k.first k.entries reading k.entries'

-- ---- `segvartin_call_shift_write`, `segvartin_call_shift_write_settings`

-- RULES 10.5
pub record ExportedWriting : Type 0 where
  pub records : List ℕ
  pub file : List ℕ
  pub number : ℕ
  pub told : List ℕ
  pub file' : List ℕ

-- RULES 10.5
abbrev pub exported_writing : (records file : List ℕ) (number : ℕ) (told file' : List ℕ) → ExportedWriting
exported_writing records file number told file' = record { records = records; file = file; number = number; told = told; file' = file' }

-- RULES 10.5: 15, 16
abbrev pub rules_of_writing : ShiftForm → ExportedWriting → List Rule
rules_of_writing form k = write_rules form k.records (length k.file)

-- RULES 10.5: the promise of `write_file`; told is the file's size
pub record WritingKept (form : ShiftForm) (k : ExportedWriting) : Type 0 where
  pub written : Result ℕ NotWritten
  pub number : k.number ≡ (numbers_of (outcome_of written)).number
  pub told : k.told ≡ size_of written ∷ []
  pub wrote : WritePost form k.records k.file written k.file'

-- ---- `segvartin_call_shift_record`, `segvartin_call_shift_record_settings`

-- RULES 10.5
pub record ExportedRecord : Type 0 where
  pub numbers : List ℕ
  pub y : List ℕ
  pub u : List ℕ
  pub v : List ℕ
  pub output : List ℕ
  pub number : ℕ
  pub told : List ℕ
  pub output' : List ℕ

-- RULES 10.5
abbrev pub exported_record : (numbers y u v output : List ℕ) (number : ℕ) (told output' : List ℕ) → ExportedRecord
exported_record numbers y u v output number told output' =
    record { numbers = numbers; y = y; u = u; v = v; output = output; number = number; told = told; output' = output' }

-- RULES 10.5: the codes of sampling, range, matrix and transfer, behind the other numbers, in the form that has them
abbrev pub codes_of_record : ShiftForm → (numbers : List ℕ) → Option SettingCodes
codes_of_record WithoutSettings numbers = None
codes_of_record WithSettings numbers =
    Some (record { sampling = at numbers 6; range = at numbers 7; matrix = at numbers 8; transfer = at numbers 9 })

-- RULES 10.5: crossing, width, height, and the strides of Y, U and V, with these settings or none
abbrev pub frame_with : (numbers : List ℕ) → Option SettingCodes → RecordFrame
frame_with numbers settings = record {
  crossing = at numbers 0;
  width = at numbers 1;
  height = at numbers 2;
  settings = settings;
  y_stride = at numbers 3;
  u_stride = at numbers 4;
  v_stride = at numbers 5;
}

-- RULES 10.5: crossing, width, height, and the strides of Y, U and V, then the settings
abbrev pub frame_of_record : ShiftForm → (numbers : List ℕ) → RecordFrame
frame_of_record form numbers = frame_with numbers (codes_of_record form numbers)

-- RULES 10.5: 15, 8 to 12, 16
abbrev pub rules_of_record : ShiftForm → ExportedRecord → List Rule
rules_of_record form k = record_rules (frame_of_record form k.numbers) k.y k.u k.v (length k.output)

-- RULES 10.5: the promise of `write_record`; told are expected, received and the record's size
pub record RecordKept (form : ShiftForm) (k : ExportedRecord) : Type 0 where
  pub written : Result ℕ NotWritten
  pub number : k.number ≡ (numbers_of (outcome_of written)).number
  pub told : k.told ≡ (numbers_of (outcome_of written)).expected ∷ (numbers_of (outcome_of written)).received ∷ size_of written ∷ []
  pub wrote : RecordPost (frame_of_record form k.numbers) k.y k.u k.v k.output written k.output'

-- ---- `segvartin_call_shift_forward`, `segvartin_call_shift_back`

-- RULES 10.5
pub record ExportedMove : Type 0 where
  pub file : List ℕ
  pub output : List ℕ
  pub number : ℕ
  pub told : List ℕ
  pub output' : List ℕ

-- RULES 10.5
abbrev pub exported_move : (file output : List ℕ) (number : ℕ) (told output' : List ℕ) → ExportedMove
exported_move file output number told output' = record { file = file; output = output; number = number; told = told; output' = output' }

-- RULES 10.5: forward 15, 16; back 15, 20, 16
abbrev pub rules_of_move : (from : ShiftForm) → ExportedMove → List Rule
rules_of_move from k = move_rules from k.file (length k.output)

-- RULES 10.5: the promise of `move_file`; told is the moved file's size
pub record MoveKept (from : ShiftForm) (k : ExportedMove) : Type 0 where
  pub written : Result ℕ NotWritten
  pub number : k.number ≡ (numbers_of (outcome_of written)).number
  pub told : k.told ≡ size_of written ∷ []
  pub moved : MovePost from k.file k.output written k.output'
