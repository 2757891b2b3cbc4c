-- `put_header` meets its contract: the pieces, one after the other, are the line. Assumes nothing.
use native.Mathlib.Omega.{arith}
use Prim.Native.Nat.{◌+◌, ◌-◌}
use mathlib.Core.Path.{◌≡◌, ap, ◌∙◌}
use mathlib.Core.List.{◌++◌}
use lib.ListN.{length, length-append}
use lib.Seq.{sets}
use borrow.Rule.Slice.PartMut.{put_mid}
use Rattle.y4m_writer.specs.Known.{code_line}
use Rattle.y4m_writer.proofs.Puts.{first, second, second_most, two_runs, behind, pieces, line_most}
use Rattle.y4m_writer.proofs.put_header.Goals.{After-put_side}
use Rattle.y4m_writer.proofs.put_header.Goals as goal

-- both sides are put
sides : (c : After-put_side) → let w = first c.args.header.width in let h = second c.args.header.height in
    (put_mid c.put_side-width.result (64 - c.put_side-width.result) c.put_side-width.new.output c.put_side.new.output ≡ sets c.args.output.now 0 (w ++ h))
    × (c.put_side-width.result + c.put_side.result ≡ length (w ++ h))
sides c =
    let w = first c.args.header.width in
    let h = second c.args.header.height in (
      behind c.args.output.now c.put_side-width.new.output _ w h _ _ c.put_side-width.ensures.output_after c.put_side-width.ensures.value
          (omega (arith, c.put_side-width.ensures.upper_bound)) (omega (arith, c.put_side-width.ensures.upper_bound, second_most c.args.header.height))
          c.put_side.ensures.output_after,
      omega (arith, c.put_side-width.ensures.value, c.put_side.ensures.value, length-append w h),
    )

pub returns-clause-output_after : goal.returns-clause-output_after
returns-clause-output_after c =
    let l = c.args.header in
    let s = sides (goal.at.returns-clause-output_after c).After-put_side in
    c.put.ensures
    ∙ rw (s.0, s.1, c.code_line-code.ensures.0) (two_runs c.args.output.now (first l.width ++ second l.height) (code_line l.sampling))
    ∙ ap (λ t. sets c.args.output.now 0 t) (pieces l.sampling l.width l.height)

pub returns-clause-value : goal.returns-clause-value
returns-clause-value c =
    let l = c.args.header in
    let s = sides (goal.at.returns-clause-value c).After-put_side in
    let pieces_long = length-append (first l.width ++ second l.height) (code_line l.sampling) in
    let all = ap length (pieces l.sampling l.width l.height) in
    let code = ap length c.code_line-code.ensures.0 in
    (omega (arith, s.1, code, pieces_long, all), omega (arith, s.1, code, pieces_long, all, line_most l.sampling l.width l.height))
