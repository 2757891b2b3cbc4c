-- `four422` meets its contract: both pairs, then their colours, then their lumas.
-- Assumes nothing.
use mathlib.Core.Path.{refl, ap, ◌∙◌}
use Prim.Native.Nat.{◌+◌, ◌*◌, ◌<◌}
use native.Mathlib.Omega.{arith}
use Rattle.definitions.specs.Row.{Pixels, pixels_of}
use Rattle.pixel_pairs.specs.Rows.{Lumas422, InRow, put_block422, block_at}
use Rattle.pixel_pairs.proofs.Pairs.{light_ready, pair_inside, fits_ready, lumas_is, linears422_ready, colour422_is, four_InRow, row_room, luma422_more, luma_both}
use Rattle.pixel_pairs.proofs.Pairs.{block_put}
use Rattle.pixel_pairs.proofs.frame_tables.FrameTables.four422.Goals as goal

pub pair-a-requires : goal.pair-a-requires
pair-a-requires g c =
    let here : InRow c.args.self.now.luma.rows.frame (record { j = c.args.j; next = 2 * c.args.j + 1 }) = (four_InRow _ _ c.requires.inside).0 in
    let right : 2 * c.args.j + 1 < c.args.self.now.luma.rows.frame.width = omega (arith, c.requires.inside) in
    record { in_row = pair_inside c.requires.row422.row _ _ here.inside right; light = light_ready c.args.self.now.luma.summed }

pub pair-b-requires : goal.pair-b-requires
pair-b-requires g c =
    let there : InRow c.args.self.now.luma.rows.frame (record { j = c.args.j + 1; next = 2 * (c.args.j + 1) + 1 }) =
    (four_InRow _ _ c.requires.inside).1 in
    let last : 2 * (c.args.j + 1) + 1 < c.args.self.now.luma.rows.frame.width = omega (arith, c.requires.inside) in
    record { in_row = pair_inside c.requires.row422.row _ _ there.inside last; light = light_ready c.args.self.now.luma.summed }

pub mixed-first-requires : goal.mixed-first-requires
mixed-first-requires g c =
    let row : Pixels = pixels_of g.row.N c.args.this.now in
    let here : InRow c.args.self.now.luma.rows.frame (record { j = c.args.j; next = 2 * c.args.j + 1 }) = (four_InRow _ _ c.requires.inside).0 in
    linears422_ready c.args.self.now.luma.summed c.args.self.now.corrects c.args.j _ here.inside here.next row c.pair-a.ensures refl c.quarters.ensures

pub mixed-second-requires : goal.mixed-second-requires
mixed-second-requires g c =
    let row : Pixels = pixels_of g.row.N c.args.this.now in
    let there : InRow c.args.self.now.luma.rows.frame (record { j = c.args.j + 1; next = 2 * (c.args.j + 1) + 1 }) =
    (four_InRow _ _ c.requires.inside).1 in
    linears422_ready c.args.self.now.luma.summed c.args.self.now.corrects (c.args.j + 1) _ there.inside there.next row c.pair-b.ensures refl c.quarters-2.ensures

pub put_luma-requires-clause-total_fits : goal.put_luma-requires-clause-total_fits
put_luma-requires-clause-total_fits g c =
    fits_ready c.args.self.now.luma.summed (pixels_of g.row.N c.args.this.now) _ _ c.pair-a.ensures

pub put_luma-requires-2-clause-total_fits : goal.put_luma-requires-2-clause-total_fits
put_luma-requires-2-clause-total_fits g c =
    fits_ready c.args.self.now.luma.summed (pixels_of g.row.N c.args.this.now) _ _ c.pair-b.ensures

pub returns : goal.returns
returns g c =
    let row : Pixels = pixels_of g.row.N c.args.this.now in
    let here : InRow c.args.self.now.luma.rows.frame (record { j = c.args.j; next = 2 * c.args.j + 1 }) = (four_InRow _ _ c.requires.inside).0 in
    let there : InRow c.args.self.now.luma.rows.frame (record { j = c.args.j + 1; next = 2 * (c.args.j + 1) + 1 }) =
    (four_InRow _ _ c.requires.inside).1 in
    let l₁ = lumas_is c.args.self.now.luma.summed row _ _ c.pair-a.ensures in
    let l₂ = lumas_is c.args.self.now.luma.summed row _ _ c.pair-b.ensures in
    let more = luma422_more c.args.self.now.luma.rows.frame g.row.N here c.requires.row422 l₁.0 l₁.1 c.put_luma.ensures in
    let room₂ = row_room c.args.y.now more.size c.requires.row422 in
    record {
      colours_at = (
        colour422_is c.args.self.now.luma.summed c.args.self.now.corrects c.args.j _ here.inside here.next row c.pair-a.ensures refl c.quarters.ensures c.mixed-first.ensures,
        colour422_is c.args.self.now.luma.summed c.args.self.now.corrects (c.args.j + 1) _ there.inside there.next row c.pair-b.ensures refl c.quarters-2.ensures
            c.mixed-second.ensures,
      );
      luma_more = luma_both (Lumas422 c.args.self.now.luma.rows.frame g.row.N c.args.this.now) c.args.self.now.luma.rows.frame c.args.j more
          (luma422_more c.args.self.now.luma.rows.frame g.row.N there room₂ l₂.0 l₂.1 c.put_luma-2.ensures);
      y_after = block_put c.args.self.now.luma.rows.frame g.row.N (c.args.j + 1) room₂ l₂.0 l₂.1 c.put_luma-2.ensures
          ∙ ap (put_block422 c.args.self.now.luma.rows.frame g.row.N c.args.this.now (block_at (c.args.j + 1))) (block_put c.args.self.now.luma.rows.frame g.row.N c.args.j c.requires.row422 l₁.0 l₁.1 c.put_luma.ensures);
    }
