-- `serve_band` meets its contract: the band call where every part lies in its buffer, else 18.
-- Assumes nothing.
use Rattle.std.proofs.Common.{rules, ◌≡◌, true}
use Rattle.desk_bands.specs.Buffers.{Buffers, buffers_of, are_lent}
use Rattle.desk_bands.proofs.Parts.{all_inside}
use Rattle.desk_bands.proofs.serve_band.Goals as goal

pub band_in_parts-requires : goal.band_in_parts-requires
band_in_parts-requires c =
    let lent : Buffers = buffers_of c.args.source.now c.args.y.now c.args.u.now c.args.v.now c.args.carried.now in
    let inside : are_lent c.args.frame c.args.band lent ≡ true = search rules in
    all_inside c.args.frame c.args.band lent inside
