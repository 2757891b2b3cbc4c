use native.Mathlib.Omega.{arith}
use Rattle.pixel_pairs.specs.Rows.{LumasPainted, inputs420}
use Rattle.pixel_pairs.proofs.Pairs.{begun_to, begun_more}
use Rattle.sharpen_row.proofs.fours420.Goals as goal

pub loop-k-preserved : goal.loop-k-preserved
loop-k-preserved g c =
    let L = LumasPainted c.args.tables.now.luma.rows.frame g.row.N c.args.this.now c.args.below.now in
    let input = inputs420 c.args.tables.now.luma.rows.frame g.row.N c.args.this.now c.args.below.now in
    begun_to L c.args.tables.now.luma.rows.frame input (omega arith) (begun_more L c.args.tables.now.luma.rows.frame input c.four420-c.ensures.luma_more c.put_chromas.ensures.chroma_more c.four420-c.ensures.colours_at
    c.loop-k.invariant)
