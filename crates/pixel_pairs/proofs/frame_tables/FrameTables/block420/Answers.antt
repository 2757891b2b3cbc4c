-- `block420` meets its contract: the sums of its pixels, in sixteenths, are the definition's input, whether there is a pixel to the right or not.
-- Assumes nothing.
use mathlib.Core.Path.{ap, ◌∙◌}
use Prim.Native.Nat.{◌*◌}
use Rattle.definitions.specs.Row.{Pixels, pixels_of, luma_row}
use Rattle.pixel_pairs.specs.Rows.{put_pair}
use Rattle.pixel_pairs.proofs.Pairs.{Over-ready, linears420_ready, colour420_is, luma420_more}
use Rattle.pixel_pairs.proofs.frame_tables.FrameTables.block420.Goals as goal

pub sixteenths-requires : goal.sixteenths-requires
sixteenths-requires g c =
    let upper : Pixels = pixels_of g.row.N c.args.this.now in
    let lower : Pixels = pixels_of g.row.N c.args.below.now in
    Over-ready c.args.self.now.luma.summed c.args.self.now.corrects c.args.block.j c.args.block.next c.requires.in_row.inside c.requires.in_row.next upper lower c.luma_pair-a.ensures.paired
    c.luma_pair-b.ensures.paired

pub mixed-requires : goal.mixed-requires
mixed-requires g c =
    let upper : Pixels = pixels_of g.row.N c.args.this.now in
    let lower : Pixels = pixels_of g.row.N c.args.below.now in
    linears420_ready c.args.self.now.luma.summed c.args.self.now.corrects c.args.block.j c.args.block.next c.requires.in_row.inside c.requires.in_row.next upper lower c.luma_pair-a.ensures.paired
    c.luma_pair-b.ensures.paired c.sixteenths.ensures

pub returns : goal.returns
returns g c =
    let upper : Pixels = pixels_of g.row.N c.args.this.now in
    let lower : Pixels = pixels_of g.row.N c.args.below.now in
    let f = luma_row c.args.self.now.luma.rows.frame lower in
    let put = put_pair c.args.self.now.luma.rows.frame.y_stride (2 * c.args.block.j) c.args.block.next f in
    let put_both = c.luma_pair-b.ensures.y_after ∙ ap put c.luma_pair-a.ensures.y_after in
    record {
      colour_at = colour420_is c.args.self.now.luma.summed c.args.self.now.corrects c.args.block.j c.args.block.next c.requires.in_row.inside c.requires.in_row.next upper lower
          c.luma_pair-a.ensures.paired c.luma_pair-b.ensures.paired c.sixteenths.ensures c.mixed.ensures;
      luma_more = luma420_more c.args.self.now.luma.rows.frame g.row.N c.requires.in_row c.requires.rows420 put_both;
      y_after = put_both;
    }
