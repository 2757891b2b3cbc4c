-- `picture_parts` meets its contract: the planes stand past the picture's line, one after the other. Assumes nothing.
use native.Mathlib.Omega.{arith}
use mathlib.Core.Path.{◌∙◌}
use Rattle.y4m_reader.proofs.Files.{Here, picture_here}
use Rattle.y4m_reader.proofs.picture_parts.Goals.{After-past_line-y}
use Rattle.y4m_reader.proofs.picture_parts.Goals as goal

here : (c : After-past_line-y) → Here c.args.file.now.bytes.now c.plane_sizes-sizes.result c.args.k c.past_line-y.result
here c = picture_here c.args.file.now _ c.plane_sizes-sizes.ensures c.args.k c.place_of.result _ c.requires c.place_of.ensures c.past_line-y.ensures.place

pub part_of-requires : goal.part_of-requires
part_of-requires c = omega (arith, (here (goal.at.part_of-requires c).After-past_line-y).inside)

pub part_of-requires-2 : goal.part_of-requires-2
part_of-requires-2 c = omega (arith, (here (goal.at.part_of-requires-2 c).After-past_line-y).inside)

pub part_of-requires-3 : goal.part_of-requires-3
part_of-requires-3 c = omega (arith, (here (goal.at.part_of-requires-3 c).After-past_line-y).inside)

pub returns-clause-y : goal.returns-clause-y
returns-clause-y c = c.part_of.ensures ∙ (here (goal.at.returns-clause-y c).After-past_line-y).y_is

pub returns-clause-u : goal.returns-clause-u
returns-clause-u c = c.part_of-2.ensures ∙ (here (goal.at.returns-clause-u c).After-past_line-y).u_is

pub returns-clause-v : goal.returns-clause-v
returns-clause-v c = c.part_of-3.ensures ∙ (here (goal.at.returns-clause-v c).After-past_line-y).v_is
