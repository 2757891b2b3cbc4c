-- `luma_pair` meets its contract: the sums of two pixels hold their lumas.
-- Assumes nothing.
use Rattle.definitions.specs.Row.{pixels_of}
use Rattle.pixel_pairs.proofs.Pairs.{light_ready, fits_ready, lumas_is}
use Rattle.pixel_pairs.proofs.frame_tables.LumaTables.luma_pair.Goals as goal

pub pair-s-requires-clause-light : goal.pair-s-requires-clause-light
pair-s-requires-clause-light g c =
    light_ready c.args.self.now.summed

pub put_luma-requires-clause-total_fits : goal.put_luma-requires-clause-total_fits
put_luma-requires-clause-total_fits g c =
    fits_ready c.args.self.now.summed (pixels_of g.row.N c.args.row.now) c.args.x c.args.next
    c.pair-s.ensures

pub returns-clause-y_after : goal.returns-clause-y_after
returns-clause-y_after g c =
    let l = lumas_is c.args.self.now.summed (pixels_of g.row.N c.args.row.now) c.args.x c.args.next c.pair-s.ensures in
    rw (l.0, l.1) at c.put_luma.ensures
