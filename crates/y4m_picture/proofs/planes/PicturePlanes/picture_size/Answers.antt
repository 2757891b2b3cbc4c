-- Assumes nothing.
use Rattle.y4m_picture.proofs.Made.{planes_frame}
use Rattle.y4m_picture.proofs.planes.PicturePlanes.picture_size.Goals as goal

pub plane_bytes-requires : goal.plane_bytes-requires
plane_bytes-requires c = let f = planes_frame c.args.self.now in (f.width_most, f.height_most)
