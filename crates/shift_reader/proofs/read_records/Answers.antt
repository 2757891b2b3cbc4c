-- `read_records` meets its contract: 15 by the check; then its count is that of the records, and the entries are those from the first on that fit.
-- Assumes nothing.
use native.Mathlib.Omega.{arith}
use Prim.Native.Nat.{ℕ, ◌-◌, ◌/◌, min}
use mathlib.Core.Path.{◌≡◌, refl, ap, ◌∙◌}
use mathlib.Core.Bool.{true}
use native.Mathlib.Nat.{mul-zero}
use lib.ListN.{length}
use Rattle.std.proofs.lemmas.Result.{err_from_is_err_and}
use Rattle.shift_file.specs.Read.{records_in}
use Rattle.shift_file.specs.Check.{is_file}
use Rattle.shift_reader.specs.Entry.{entry_size, entries_of}
use Rattle.shift_reader.proofs.Places.{Known, known}
use Rattle.shift_reader.proofs.Entries.{entries_fit, told_entries}
use Rattle.shift_reader.proofs.read_records.Goals as goal

pub returns-in_err-file : goal.returns-in_err-file
unfolding entries_of
returns-in_err-file c =
    let p = err_from_is_err_and c.from_residual.result c.from_residual.ensures.1 in
    let refused = c.in_err-file.ensures.refused in
    rw (p.1, p.2) (record { answered = rw (refused.0, refused.1); count = refl; told = refl; entries = rw mul-zero })

pub returns : goal.returns
returns c =
    let f = c.in_ok-file.file in
    let s = c.in_ok-file.ensures.same in
    let accepted : is_file c.args.form c.args.file.now ≡ true = rw (s.0, s.1) at f.checked in
    let k : Known c.args.form c.args.file.now = known c.args.form c.args.file.now accepted (rw s.1 at f.are_bytes) in
    let count = length (records_in c.args.form c.args.file.now) in
    let from : c.min-from.result ≡ min c.args.first count = c.min-from.ensures ∙ rw c.in_ok-file.ensures.counted in
    let left : count - min c.args.first count ≡ count - c.args.first = omega arith in
    let told : c.min-told.result ≡ min (count - c.args.first) (length c.args.entries.now / entry_size c.args.kind) =
    c.min-told.ensures
    ∙ rw (c.size.ensures.0, from, c.in_ok-file.ensures.counted) (ap (λ (n : ℕ). min n (length c.args.entries.now / entry_size c.args.kind)) left) in record {
      answered = rw accepted;
      count = c.in_ok-file.ensures.counted;
      told = told;
      entries =
          (rw (s.0, s.1) at c.tell_entries.ensures)
          ∙ told_entries c.args.kind c.args.form (records_in c.args.form c.args.file.now) c.args.entries.now c.args.first _ _ k.its.has.each
          from (omega (arith, told)) (entries_fit c.args.kind _ _ _ told);
    }
