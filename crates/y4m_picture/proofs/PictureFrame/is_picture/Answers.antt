-- `is_picture` meets its contract: the shape, then the planes. Assumes nothing.
use Rattle.std.proofs.Common.{sym, ◌∙◌}
use Rattle.y4m_picture.proofs.Made.{is_frame}
use Rattle.y4m_picture.proofs.PictureFrame.is_picture.Goals as goal

pub are_planes-requires : goal.are_planes-requires
are_planes-requires c = is_frame c.args.self (sym c.is_shape.ensures ∙ c.if-is_shape.true)
