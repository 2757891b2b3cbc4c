use mathlib.Core.Path.{◌≡◌}
use native.Mathlib.Omega.{arith}
use Rattle.definitions.specs.Image.{chroma_size}
use Rattle.pixel_pairs.specs.Rows.{Lumas422, inputs422}
use Rattle.pixel_pairs.proofs.Pairs.{Stepped-more}
use Rattle.sharpen_row.proofs.rest422.Goals as goal

pub loop-j-preserved : goal.loop-j-preserved
loop-j-preserved g c =
    Stepped-more (Lumas422 c.args.tables.now.luma.rows.frame g.row.N c.args.this.now) c.args.tables.now.luma.rows.frame (inputs422 c.args.tables.now.luma.rows.frame g.row.N c.args.this.now) c.block422-b.ensures.luma_more c.put_chroma.ensures.chroma_more
    c.block422-b.ensures.colour_at c.loop-j.invariant

pub returns : goal.returns
returns g c = let end : c.loop-j.j ≡ chroma_size c.args.tables.now.luma.rows.frame = omega arith in rw end at c.loop-j.invariant
