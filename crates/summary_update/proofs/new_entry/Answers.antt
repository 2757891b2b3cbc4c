-- The record tells its crossing and luma plane; it will stand 12 bytes past the file's end. Assumes nothing.
use Rattle.std.proofs.Common.{arith}
use Rattle.shift_file.specs.File.{Allowed}
use Rattle.shift_file.specs.Read.{record_at}
use Rattle.shift_file.proofs.Record.{Stands-true, record_Allowed}
use Rattle.summary_update.proofs.Grown.{may_grow_lem}
use Rattle.summary_update.proofs.Told.{luma_bounds, entry_told}
use Rattle.summary_update.proofs.new_entry.Goals as goal

pub invariant_of-record : goal.invariant_of-record
invariant_of-record c = record { has_header = (Stands-true _ _ (may_grow_lem _ _ _ c.requires).stands).header }

pub luma_of-luma-requires : goal.luma_of-luma-requires
luma_of-luma-requires c = (may_grow_lem _ _ _ c.requires).stands

pub mean_luma-requires : goal.mean_luma-requires
mean_luma-requires c =
    let allowed : Allowed c.args.file.now.form (record_at c.args.file.now.form c.args.added.now) =
    record_Allowed c.args.file.now.form c.args.added.now (λ i. omega (arith, c.type_inv.added i)) (Stands-true _ _ (may_grow_lem _ _ _ c.requires).stands) in
    luma_bounds c.args.file.now.form c.args.added.now (may_grow_lem _ _ _ c.requires).stands allowed _ c.luma_of-luma.ensures

pub returns : goal.returns
returns c =
    let allowed : Allowed c.args.file.now.form (record_at c.args.file.now.form c.args.added.now) =
    record_Allowed c.args.file.now.form c.args.added.now (λ i. omega (arith, c.type_inv.added i)) (Stands-true _ _ (may_grow_lem _ _ _ c.requires).stands) in
    entry_told c.args.file.now.form c.args.added.now (may_grow_lem _ _ _ c.requires).stands allowed _ c.luma_of-luma.ensures
    _ _ _ c.crossing.ensures c.mean_luma.ensures
