use Prim.Native.Nat.{◌*◌}
use native.Mathlib.Omega.{arith}
use Rattle.definitions.specs.Row.{pixels_of}
use Rattle.pixel_pairs.proofs.Pairs.{light_ready, pair_inside, Over-ready, linears420_ready, colour420_is}
use Rattle.sharpen_row.proofs.chroma_row420.Goals as goal

pub pair-a-requires : goal.pair-a-requires
pair-a-requires g c =
    record {
      in_row = pair_inside c.requires.upper_row (2 * c.loop-j.j) c.right_of-next.result (omega arith) (omega (arith, c.right_of-next.ensures));
      light = light_ready c.args.tables.now.luma.summed;
    }

pub pair-b-requires : goal.pair-b-requires
pair-b-requires g c =
    record {
      in_row = pair_inside c.requires.lower_row (2 * c.loop-j.j) c.right_of-next.result (omega arith) (omega (arith, c.right_of-next.ensures));
      light = light_ready c.args.tables.now.luma.summed;
    }

pub sixteenths-requires : goal.sixteenths-requires
sixteenths-requires g c =
    Over-ready c.args.tables.now.luma.summed c.args.tables.now.corrects c.loop-j.j c.right_of-next.result (omega arith) c.right_of-next.ensures (pixels_of g.row.C c.args.this.now) (pixels_of g.row.N c.args.below.now) c.pair-a.ensures
    c.pair-b.ensures

pub mixed-c-requires : goal.mixed-c-requires
mixed-c-requires g c =
    linears420_ready c.args.tables.now.luma.summed c.args.tables.now.corrects c.loop-j.j c.right_of-next.result (omega arith) c.right_of-next.ensures (pixels_of g.row.C c.args.this.now) (pixels_of g.row.N c.args.below.now)
    c.pair-a.ensures c.pair-b.ensures c.sixteenths.ensures

pub loop-j-preserved : goal.loop-j-preserved
loop-j-preserved g c =
    let e = colour420_is c.args.tables.now.luma.summed c.args.tables.now.corrects c.loop-j.j c.right_of-next.result (omega arith) c.right_of-next.ensures (pixels_of g.row.C c.args.this.now) (pixels_of g.row.N c.args.below.now)
    c.pair-a.ensures c.pair-b.ensures c.sixteenths.ensures c.mixed-c.ensures in
    c.put_chroma.ensures.chroma_more.further _ e _ _ c.loop-j.invariant
