-- `block422` meets its contract: the sums of its pixels, in quarters, are the definition's input; where pixel 2j has no neighbour, its own bytes are.
-- Assumes nothing.
use mathlib.Core.Path.{◌≡◌, refl, ◌∙◌}
use Prim.Native.Nat.{◌+◌, ◌*◌, ◌≤◌}
use native.Mathlib.Omega.{arith}
use Rattle.definitions.specs.Row.{Pixels, pixels_of}
use Rattle.pixel_pairs.proofs.Weights.{three_same}
use Rattle.definitions.proofs.Inputs.{input422_last}
use Rattle.pixel_pairs.proofs.Pairs.{linears422_ready, colour422_is, luma422_more}
use Rattle.pixel_pairs.proofs.frame_tables.FrameTables.block422.Goals as goal

pub mixed-requires : goal.mixed-requires
mixed-requires g c =
    let row : Pixels = pixels_of g.row.N c.args.this.now in
    let right : c.args.block.next ≡ 2 * c.args.block.j + 1 =
    omega (arith, c.if-next-x.false, c.requires.in_row.inside, c.requires.in_row.next) in
    linears422_ready c.args.self.now.luma.summed c.args.self.now.corrects c.args.block.j c.args.block.next c.requires.in_row.inside c.requires.in_row.next row c.luma_pair-a.ensures.paired right
    c.quarters.ensures

pub returns-then-next-x-clause-colour_at : goal.returns-then-next-x-clause-colour_at
returns-then-next-x-clause-colour_at g c =
    let row : Pixels = pixels_of g.row.N c.args.this.now in
    let last : c.args.self.now.luma.rows.frame.width ≤ 2 * c.args.block.j + 1 = omega (arith, c.if-next-x.true, c.requires.in_row.inside, c.requires.in_row.next) in
    c.at.ensures ∙ three_same (λ k _. input422_last c.args.self.now.luma.rows.frame row c.args.block.j k last)

pub returns-else-next-x : goal.returns-else-next-x
returns-else-next-x g c =
    let row : Pixels = pixels_of g.row.N c.args.this.now in
    let right : c.args.block.next ≡ 2 * c.args.block.j + 1 =
    omega (arith, c.if-next-x.false, c.requires.in_row.inside, c.requires.in_row.next) in
    record {
      colour_at = colour422_is c.args.self.now.luma.summed c.args.self.now.corrects c.args.block.j c.args.block.next c.requires.in_row.inside c.requires.in_row.next row c.luma_pair-a.ensures.paired right
          c.quarters.ensures c.mixed.ensures;
      luma_more = luma422_more c.args.self.now.luma.rows.frame g.row.N c.requires.in_row c.requires.row422 refl refl c.luma_pair-a.ensures.y_after;
      y_after = c.luma_pair-a.ensures.y_after;
    }
