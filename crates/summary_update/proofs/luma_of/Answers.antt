-- The plane stands after the header, and ends within the record. Assumes nothing.
use Rattle.std.proofs.Common.{◌∙◌, arith}
use Rattle.summary_update.proofs.Told.{luma_inside, luma_there}
use Rattle.summary_update.proofs.luma_of.Goals as goal

pub part_of-requires : goal.part_of-requires
part_of-requires c =
    let r = c.args.«record».now in
    omega (arith, c.luma_size.ensures.value, c.header_size.ensures.0, luma_inside r.form r.bytes.now c.requires)

pub returns : goal.returns
returns c =
    let r = c.args.«record».now in
    c.part_of.ensures ∙ rw c.header_size.ensures.0 (luma_there r.form r.bytes.now c.requires _ c.luma_size.ensures.value)
