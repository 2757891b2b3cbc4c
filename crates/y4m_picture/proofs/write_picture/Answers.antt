-- `write_picture` meets its contract: the picture is put where the output has room for it.
-- Assumes nothing.
use native.Mathlib.Omega.{arith}
use mathlib.Core.Path.{◌≡◌, refl, ◌∙◌}
use lib.ListN.{length}
use borrow.Author.Tests.{le-ltb}
use Rattle.std.proofs.lemmas.Result.{err_from_is_err_and}
use Rattle.shift_writer.proofs.Answers.{from_start}
use Rattle.y4m_file.specs.File.{picture_bytes}
use Rattle.y4m_picture.specs.Picture.{picture_made}
use Rattle.y4m_picture.proofs.write_picture.Goals as goal

pub returns-in_err-planes : goal.returns-in_err-planes
returns-in_err-planes c =
    let p = err_from_is_err_and c.from_residual.result c.from_residual.ensures.1 in
    let refused = c.in_err-planes.ensures.refused in
    rw (p.1, p.2) (record { answered = rw (refused.0, refused.1); size = rw refused.0; written = refl })

pub returns : goal.returns
returns c =
    let k = c.args in
    let s = c.in_ok-planes.ensures.same in
    let bytes = picture_bytes (picture_made k.frame k.y.now k.u.now k.v.now) in
    let size : c.picture_size-size.result ≡ length bytes = c.picture_size-size.ensures ∙ rw (s.0, s.1, s.2, s.3) in
    record {
      answered = rw (c.in_ok-planes.ensures.accepted, le-ltb (length k.output.now) (length bytes) (omega arith));
      size = size;
      written = from_start bytes k.output.now _ (rw (s.0, s.1, s.2, s.3) at c.put.ensures) (omega arith);
    }
