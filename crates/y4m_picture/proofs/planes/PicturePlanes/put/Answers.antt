-- `put` meets its contract: the line, then the planes. Assumes nothing.
use Rattle.y4m_line.specs.Line.{line_of, text_of, tag_bytes}
use Rattle.y4m_picture.proofs.Made.{picture_put}
use Rattle.y4m_picture.proofs.planes.PicturePlanes.put.Goals as goal

pub returns : goal.returns
unfolding line_of text_of tag_bytes
returns c =
    let p = c.args.self.now in
    rw (c.put-2.ensures, c.put.ensures, c.into.ensures) (picture_put p.frame p.y.now p.u.now p.v.now c.args.output.now)
