-- Records that were counted, as a value: what is known of them, and of their file. Assumes nothing.
use Prim.Native.Nat.{◌+◌}
use mathlib.Core.Path.{◌≡◌}
use lib.ListN.{length}
use Rattle.shift_file.specs.File.{records_at}
use Rattle.shift_writer.specs.declared.list.RecordList.{RecordList}
use Rattle.shift_writer.specs.Records.{count_from, file_made}
use Rattle.shift_writer.specs.Known.{Counted}
use Rattle.shift_writer.proofs.Answers.{count_is, all_Counted, length_made}

module _ (l : RecordList) where
  pub list_count : count_from l.form l.bytes.now 0 4096 ≡ l.count
  list_count = count_is l.form l.bytes.now l.count l.counted

  pub list_Counted : Counted l.form l.bytes.now 0 l.count
  list_Counted = all_Counted l.form l.bytes.now l.count l.counted l.are_bytes

  pub list_length : length (file_made l.form l.bytes.now) ≡ records_at l.form l.count + length l.bytes.now
  list_length = length_made l.form l.bytes.now l.count l.counted list_Counted
