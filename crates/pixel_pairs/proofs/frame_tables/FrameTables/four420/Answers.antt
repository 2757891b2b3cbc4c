-- `four420` meets its contract: a block, and the next one.
-- Assumes nothing.
use Prim.Native.Nat.{◌+◌}
use mathlib.Core.Path.{ap, ◌∙◌}
use Rattle.pixel_pairs.specs.Rows.{LumasPainted, put_block420, block_at}
use Rattle.pixel_pairs.proofs.Pairs.{four_InRow, rows_room, luma_both}
use Rattle.pixel_pairs.proofs.frame_tables.FrameTables.four420.Goals as goal

pub block420-first-requires : goal.block420-first-requires
block420-first-requires g c =
    record {
      rows420 = c.requires.rows420;
      in_row = (four_InRow _ c.args.j c.requires.inside).0;
    }

pub block420-second-requires : goal.block420-second-requires
block420-second-requires g c =
    record {
      rows420 = rows_room c.args.y.now c.block420-first.ensures.luma_more.size c.requires.rows420;
      in_row = (four_InRow _ c.args.j c.requires.inside).1;
    }

pub returns : goal.returns
returns g c =
    record {
      colours_at = (c.block420-first.ensures.colour_at, c.block420-second.ensures.colour_at);
      luma_more = luma_both (LumasPainted c.args.self.now.luma.rows.frame g.row.N c.args.this.now c.args.below.now)
          c.args.self.now.luma.rows.frame c.args.j c.block420-first.ensures.luma_more c.block420-second.ensures.luma_more;
      y_after = c.block420-second.ensures.y_after ∙ ap (put_block420 c.args.self.now.luma.rows.frame g.row.N c.args.this.now c.args.below.now (block_at (c.args.j + 1)))
          c.block420-first.ensures.y_after;
    }
