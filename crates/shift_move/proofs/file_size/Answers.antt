-- `file_size` meets its contract: by the form.
-- Assumes nothing.
use native.Mathlib.Omega.{arith}
use Rattle.shift_move.proofs.Files.{file_records, forward_size, back_size}
use Rattle.shift_move.proofs.file_size.Goals as goal

pub overflow_add-result : goal.overflow_add-result
overflow_add-result c =
    let f = c.args.file.now in
    let h = file_records f in
    omega (arith, c.requires, forward_size f.form f.bytes.now f.count c.in-WithoutSettings.is h)

pub overflow_sub-result : goal.overflow_sub-result
overflow_sub-result c =
    let f = c.args.file.now in
    let h = file_records f in
    omega (arith, back_size f.form f.bytes.now f.count c.in-WithSettings.is h)

pub returns-in-WithoutSettings : goal.returns-in-WithoutSettings
returns-in-WithoutSettings c =
    let f = c.args.file.now in
    let h = file_records f in
    omega (arith, forward_size f.form f.bytes.now f.count c.in-WithoutSettings.is h)

pub returns-in-WithSettings : goal.returns-in-WithSettings
returns-in-WithSettings c =
    let f = c.args.file.now in
    let h = file_records f in
    omega (arith, back_size f.form f.bytes.now f.count c.in-WithSettings.is h)
