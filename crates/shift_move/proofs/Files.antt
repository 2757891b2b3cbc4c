-- A moved file: it is the file of the moved records, these may move back, and moved back it is the same file. Assumes nothing.
use Prim.Native.Nat.{ℕ, ◌+◌, ◌*◌, ◌^◌, ◌≤◌, ◌<◌}
use mathlib.Core.Path.{◌≡◌, refl, ap, sym, ◌∙◌}
use mathlib.Core.Bool.{true, cond, not}
use mathlib.Core.List.{List, [], ◌∷◌, ◌++◌}
use native.Mathlib.Nat.{mul-zero, mul-suc}
use native.Mathlib.Omega.{arith}
use lib.Dec.{ltb}
use lib.ListN.{length, length-append, length-map}
use lib.Seq.{sets}
use Rattle.std.proofs.lemmas.Bool.{and_parts}
use Rattle.little_endian.specs.Number.{Bytes, low_bytes}
use Rattle.yuv_error.specs.Numbers.{numbers}
use Rattle.yuv_error.specs.Rules.{first_numbers}
use Rattle.shift_file.specs.declared.ShiftForm.{ShiftForm}
use Rattle.shift_file.specs.declared.ShiftForm.TheVariants.{WithoutSettings, WithSettings}
use Rattle.shift_file.specs.File.{ShiftRecord, Allowed, EachAllowed, HasFile, IsFileOf, mark, settings_size, header_size, pairs_at, records_at, bytes_of, pairs_of, record_bytes, file_of}
use Rattle.shift_file.specs.Read.{count_at, records_in}
use Rattle.shift_file.specs.Check.{is_file}
use Rattle.shift_file.proofs.Record.{length_bytes, size_most}
use Rattle.shift_reader.specs.declared.file.ShiftFile.{ShiftFile}
use Rattle.shift_reader.specs.declared.file.FileRecord.{FileRecord}
use Rattle.shift_reader.specs.Entry.{record_of}
use Rattle.shift_reader.proofs.Places.{Known, known}
use Rattle.shift_reader.proofs.Files.{record_allowed}
use Rattle.shift_file.proofs.File.{its_records, length_file, file_most}
use Rattle.shift_move.specs.Move.{other_form, is_plain, are_plain, may_move, moved_record, moved, moved_file}
use Rattle.shift_writer.proofs.Pairs.{parts_put}
use Rattle.shift_move.specs.Moving.{move_rules}
use Rattle.shift_move.specs.Means.{MovedIsFile, MayReturn, ThereAndBack}
use Rattle.shift_move.proofs.Moved.{Plain, length_moved, moved_Allowed, moved_again}

-- ---- a file that was checked

-- the file of its records, which are so many
pub record HasRecords (form : ShiftForm) (file : List ℕ) (n : ℕ) : Type 0 where
  pub is_file_lem : IsFileOf form file (records_in form file)
  pub count : n ≡ length (records_in form file)

pub has_records : (form : ShiftForm) (file : List ℕ) (n : ℕ) → is_file form file ≡ true → Bytes file → n ≡ count_at form file → HasRecords form file n
has_records form file n e bytes counted =
    let k : Known form file = known form file e bytes in record { is_file_lem = k.its; count = counted ∙ sym k.count }

pub file_records : (f : ShiftFile) → HasRecords f.form f.bytes.now f.count
file_records f = has_records f.form f.bytes.now f.count f.checked f.are_bytes f.counted

-- what is known of a record, and of it moved
pub record Moves (form : ShiftForm) (r : ShiftRecord) : Type 0 where
  pub settings : length r.settings ≡ settings_size form
  pub header : header_size form ≤ length (bytes_of r)
  pub most : length (bytes_of r) ≤ 2 ^ 30
  pub size : length (bytes_of (moved_record (other_form form) r)) + header_size form ≡ length (bytes_of r) + header_size (other_form form)

pub record_moves : (x : FileRecord) → Moves x.file.form (record_of x.file.form x.file.bytes.now x.k)
record_moves x =
    let form = x.file.form in
    let r = record_of form x.file.bytes.now x.k in
    let a : Allowed form r = record_allowed x in record {
      settings = a.settings;
      header = omega (arith, length_bytes form r a);
      most = size_most form r a;
      size = length_moved (other_form form) form r a.settings;
    }

-- ---- the records

first_plain : (from : ShiftForm) (r : ShiftRecord) (rs : List ShiftRecord) → may_move from (r ∷ rs) ≡ true → Plain from r × (may_move from rs ≡ true)
first_plain WithoutSettings r rs e = (tt, refl)
first_plain WithSettings r rs e = and_parts (is_plain r.settings) (are_plain rs) e

moved_each : (from to : ShiftForm) (rs : List ShiftRecord) → EachAllowed from rs → may_move from rs ≡ true → EachAllowed to (moved to rs)
moved_each from to [] a e = tt
moved_each from to (r ∷ rs) a e =
    let p = first_plain from r rs e in
    (moved_Allowed from r a.0 p.0 to, moved_each from to rs a.1 p.1)

all_again : (from to : ShiftForm) (rs : List ShiftRecord) → EachAllowed from rs → may_move from rs ≡ true → moved from (moved to rs) ≡ rs
all_again from to [] a e = refl
all_again from to (r ∷ rs) a e =
    let p = first_plain from r rs e in
    λ i. moved_again from r a.0 p.0 to i ∷ all_again from to rs a.1 p.1 i

moved_plain : (rs : List ShiftRecord) → are_plain (moved WithSettings rs) ≡ true
moved_plain [] = refl
moved_plain (r ∷ rs) = moved_plain rs

pub length_records : (from to : ShiftForm) (rs : List ShiftRecord) → EachAllowed from rs
    → length (record_bytes (moved to rs)) + settings_size from * length rs ≡ length (record_bytes rs) + settings_size to * length rs
unfolding record_bytes
length_records from to [] a = rw (mul-zero, mul-zero)
length_records from to (r ∷ rs) a =
    rw (length-append, length-append, mul-suc, mul-suc)
    (omega (arith, length_moved to from r a.0.settings, length_records from to rs a.1))

-- ---- the file

moved_has : (from to : ShiftForm) (rs : List ShiftRecord) → HasFile from rs → may_move from rs ≡ true → HasFile to (moved to rs)
moved_has from to rs h e = record { few = rw (length-map rs (moved_record to)) h.few; each = moved_each from to rs h.each e }

pub moved_is_file : MovedIsFile
unfolding moved_file
moved_is_file from file rs f e = record {
  has = moved_has from (other_form from) rs f.has e;
  same = rw (its_records from file rs f);
}

pub may_return : MayReturn
may_return WithoutSettings rs = moved_plain rs
may_return WithSettings rs = refl

twice : (from : ShiftForm) → other_form (other_form from) ≡ from
twice WithoutSettings = refl
twice WithSettings = refl

pub there_and_back : ThereAndBack
unfolding moved_file
there_and_back from file rs f e =
    rw (its_records (other_form from) _ _ (moved_is_file from file rs f e), twice from, all_again from (other_form from) rs f.has.each e) f.same

-- ---- its size

module _ (from : ShiftForm) (file : List ℕ) (rs : List ShiftRecord) (f : IsFileOf from file rs) where
  made : moved_file from file ≡ file_of (other_form from) (moved (other_form from) rs)
  unfolding moved_file
  made = rw (its_records from file rs f)

  pub length_of_moved : length (moved_file from file) ≡ records_at (other_form from) (length rs) + length (record_bytes (moved (other_form from) rs))
  length_of_moved =
      ap length made ∙ length_file (other_form from) (moved (other_form from) rs) ∙ rw (length-map rs (moved_record (other_form from)))

  length_of_file : length file ≡ records_at from (length rs) + length (record_bytes rs)
  length_of_file = sym (ap length f.same) ∙ length_file from rs

pub moved_most : (from : ShiftForm) (file : List ℕ) (rs : List ShiftRecord) → IsFileOf from file rs → may_move from rs ≡ true
    → length (moved_file from file) < 2 ^ 64
moved_most from file rs f e = let m = moved_is_file from file rs f e in rw (← m.same) (file_most _ _ m.has)

-- the mark, and four bytes a record
pub forward_size : (from : ShiftForm) (file : List ℕ) (n : ℕ) → from ≡ WithoutSettings → HasRecords from file n
    → length (moved_file from file) ≡ length file + (4 + 4 * n)
forward_size from file n e h =
    let k = rw e at h in
    let f = k.is_file_lem in
    rw e
    (omega (
      arith,
      k.count,
      length_of_moved WithoutSettings file (records_in WithoutSettings file) f,
      length_of_file WithoutSettings file (records_in WithoutSettings file) f,
      length_records WithoutSettings WithSettings (records_in WithoutSettings file) f.has.each,
    ))

pub back_size : (from : ShiftForm) (file : List ℕ) (n : ℕ) → from ≡ WithSettings → HasRecords from file n
    → length file ≡ length (moved_file from file) + (4 + 4 * n)
back_size from file n e h =
    let k = rw e at h in
    let f = k.is_file_lem in
    rw e
    (omega (
      arith,
      k.count,
      length_of_moved WithSettings file (records_in WithSettings file) f,
      length_of_file WithSettings file (records_in WithSettings file) f,
      length_records WithSettings WithoutSettings (records_in WithSettings file) f.has.each,
    ))

-- ---- mark and count, pairs and records put one after the other, from what each step tells

module _ (from : ShiftForm) (file : List ℕ) (n : ℕ) (h : HasRecords from file n) where
  abbrev to : ShiftForm
  to = other_form from

  abbrev ms : List ShiftRecord
  ms = moved (other_form from) (records_in from file)

  pub room : records_at (other_form from) n + length (record_bytes (moved (other_form from) (records_in from file))) ≡ length (moved_file from file)
  room = rw h.count (sym (length_of_moved from file (records_in from file) h.is_file_lem))

  pub file_steps : (d out₁ out₂ out₃ : List ℕ) (form : ShiftForm) (m : ℕ) → form ≡ to → out₁ ≡ sets d 0 (mark form ++ low_bytes 4 n) → m ≡ pairs_at to
      → out₂ ≡ sets out₁ m (pairs_of (m + 12 * n) ms) → out₃ ≡ sets out₂ (m + 12 * n) (record_bytes ms) → out₃ ≡ sets d 0 (moved_file from file)
  unfolding moved_file
  file_steps d out₁ out₂ out₃ form m ef e₁ em e₂ e₃ =
      rw (e₃, e₂, e₁, ef, em, h.count) (rw (length-map (records_in from file) (moved_record to)) at (parts_put to ms d))

-- ---- 15, then 20, then 16

pub asked_in_order : (from : ShiftForm) (file : List ℕ) (room : ℕ)
    → first_numbers (move_rules from file room)
    ≡ cond (not (is_file from file)) (numbers 15 0 0)
    (cond (not (may_move from (records_in from file))) (numbers 20 0 0) (cond (ltb room (length (moved_file from file))) (numbers 16 0 0) (numbers 0 0 0)))
asked_in_order WithoutSettings file most = refl
asked_in_order WithSettings file most = refl
