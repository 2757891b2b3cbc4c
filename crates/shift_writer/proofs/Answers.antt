-- What the writer answers, by the count. Assumes nothing.
use Prim.Native.Nat.{ℕ, ◌+◌, ◌≤◌}
use mathlib.Core.Path.{◌≡◌, ap, ◌∙◌}
use mathlib.Core.Bool.{true, false}
use mathlib.Core.List.{List, ◌++◌}
use native.Mathlib.Nat.{zero-add}
use native.Mathlib.Omega.{arith}
use lib.ListN.{length, drop}
use lib.Seq.{sets, sets-eq}
use borrow.Author.Tests.{leb-true}
use Rattle.std.specs.Prelude.{Some, None}
use Rattle.std.proofs.lemmas.Option.{cond_some}
use Rattle.little_endian.specs.Number.{Bytes}
use Rattle.shift_file.specs.declared.ShiftForm.{ShiftForm}
use Rattle.shift_file.specs.File.{records_at, file_of}
use Rattle.shift_file.specs.Read.{records_from}
use Rattle.shift_file.proofs.File.{length_file}
use Rattle.shift_writer.specs.Records.{count_from, are_records, count_back, file_made}
use Rattle.shift_writer.specs.Known.{Counted}
use Rattle.shift_writer.proofs.Count.{not_standing, length_from, counted}

pub no_records : (form : ShiftForm) (b : List ℕ) → count_back form b ≡ None → are_records form b ≡ false
no_records form b e = not_standing (are_records form b) (count_from form b 0 4096) e

module _ (form : ShiftForm) (b : List ℕ) (n : ℕ) (e : count_back form b ≡ Some n) where
  pub are_records_lem : are_records form b ≡ true
  are_records_lem = (cond_some (are_records form b) (count_from form b 0 4096) n e).0

  pub count_is : count_from form b 0 4096 ≡ n
  count_is = (cond_some (are_records form b) (count_from form b 0 4096) n e).1

  pub few : n ≤ 4096
  few = rw (← count_is) (leb-true (count_from form b 0 4096) 4096 are_records_lem)

  pub all_Counted : Bytes b → Counted form b 0 n
  all_Counted bytes = rw (← count_is) (counted form b 4096 0 bytes (omega arith) (leb-true (count_from form b 0 4096) 4096 are_records_lem))

  pub made : file_made form b ≡ file_of form (records_from form b 0 n)
  made = rw count_is

  pub length_made : Counted form b 0 n → length (file_made form b) ≡ records_at form n + length b
  length_made c = ap length made ∙ length_file form (records_from form b 0 n) ∙ rw (length_from form b 0 n, ← c.bytes)

-- a run of stores from the start, as a list
pub from_start : (bytes d e : List ℕ) → e ≡ sets d 0 bytes → length bytes ≤ length d → e ≡ bytes ++ drop (length bytes) d
from_start bytes d e is h = is ∙ sets-eq bytes d 0 (rw (zero-add (length bytes)) h) ∙ rw (zero-add (length bytes))
