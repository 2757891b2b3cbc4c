-- Record k of a file that was checked; and the keys of a file in order: each names a record, and there are as many. Assumes nothing.
use Rattle.std.proofs.Common.{◌≡◌, arith, ℕ, ◌%◌, ◌≤◌, ◌<◌, length, get_or}
use Rattle.shift_file.specs.Read.{records_in}
use Rattle.shift_reader.specs.declared.file.ShiftFile.{ShiftFile}
use Rattle.shift_reader.proofs.Files.{file_known}
use Rattle.crossing_keys.specs.declared.key.Key.{Key}
use Rattle.crossing_keys.specs.declared.ordered.OrderedFile.{OrderedFile}
use Rattle.crossing_keys.proofs.Keyed.{place_below, as_many}

module _ (f : ShiftFile) where
  pub records_counted : length (records_in f.form f.bytes.now) ≡ f.count
  records_counted = omega (arith, (file_known f).count, f.counted)

  pub records_few : length (records_in f.form f.bytes.now) ≤ 4096
  records_few = omega (arith, records_counted, f.few)

  module _ (k : ℕ) (h : k < f.count) where
    pub record_below : k < length (records_in f.form f.bytes.now)
    record_below = omega (arith, records_counted, h)

module _ (o : OrderedFile) where
  pub keys_counted : length o.keys.now ≡ o.file.count
  keys_counted = omega (arith, as_many (records_in o.file.form o.file.bytes.now) o.keys.now (records_few o.file) o.in_order, records_counted o.file)

  pub record_named : (i : ℕ) (d : Key) → i < length o.keys.now → (get_or o.keys.now i d).0 % 4096 < o.file.count
  record_named i d h =
      omega (arith, place_below (records_in o.file.form o.file.bytes.now) o.keys.now (records_few o.file) o.in_order i d h, records_counted o.file)
