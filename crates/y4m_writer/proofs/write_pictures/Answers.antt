-- `write_pictures` meets its contract: the line is put, and the pictures behind it. Assumes nothing.
use native.Mathlib.Omega.{arith}
use mathlib.Core.Path.{◌≡◌, refl, sym, ap, ◌∙◌}
use lib.ListN.{length, take}
use borrow.Author.Tests.{le-ltb}
use Rattle.std.proofs.lemmas.Result.{err_from_is_err_and}
use Rattle.shift_writer.proofs.Answers.{from_start}
use Rattle.y4m_writer.specs.Pictures.{file_made}
use Rattle.y4m_writer.specs.Known.{header_line, frames_in, file_in}
use Rattle.y4m_writer.proofs.Sizes.{fits}
use Rattle.y4m_writer.proofs.Puts.{behind, front_is}
use Rattle.y4m_writer.proofs.Whole.{planes_known, planes_parts, planes_file}
use Rattle.y4m_writer.proofs.write_pictures.Goals.{After-put_header-header}
use Rattle.y4m_writer.proofs.write_pictures.Goals as goal

-- the line that was made
line : (c : After-put_header-header) → take c.put_header-header.result c.put_header-header.new.output ≡ header_line c.in_ok-pictures.pictures.header
line c = front_is _ _ _ _ c.put_header-header.ensures.output_after c.put_header-header.ensures.value.0 (omega (arith, c.put_header-header.ensures.value))

pub put_header-header-requires : goal.put_header-header-requires
put_header-header-requires c = let k = planes_known c.in_ok-pictures.pictures in (k.wide.1, k.high.1)

pub put-requires : goal.put-requires
put-requires c =
    let p = c.in_ok-pictures.pictures in
    let long = ap length (line (goal.at.put-requires c).After-put_header-header) in
    let fits = rw c.in_ok-size.ensures.ok_part at c.file_size.ensures.fits in
    omega (arith, long, planes_parts p, fits)

pub returns-in_err-pictures : goal.returns-in_err-pictures
returns-in_err-pictures c =
    let p = err_from_is_err_and c.from_residual.result c.from_residual.ensures.1 in
    let refused = c.in_err-pictures.ensures.refused in
    rw (p.1, p.2) (record { answered = rw (refused.0, refused.1); size = rw refused.0; written = refl })

pub returns : goal.returns
returns c =
    let p = c.in_ok-pictures.pictures in
    let s = c.in_ok-pictures.ensures.same in
    let l = line (goal.at.returns c).After-put_header-header in
    let file = file_made c.args.code c.args.width c.args.height c.args.pictures.now in
    let same : file_in p.header p.bytes.now ≡ file = rw (s.0, s.1, s.2, s.3) in
    let in_file = rw c.in_ok-size.ensures.ok_part at c.file_size.ensures.fits in
    let size : c.in_ok-size.size ≡ length file = in_file ∙ ap length same in
    let put =
    behind c.args.output.now c.put.new.output _ (header_line p.header) (frames_in p.header p.bytes.now) _ _ (c.put.ensures ∙ rw l) c.put_header-header.ensures.value.0
    (omega (arith, c.put_header-header.ensures.value, planes_parts p, in_file, c.put.auto.output))
    (omega (arith, c.put_header-header.ensures.value, planes_parts p, in_file, c.put.auto.output)) c.put-2.ensures in
    record {
      answered = rw (c.in_ok-pictures.ensures.accepted, le-ltb (length c.args.output.now) (length file) (omega (arith, size)));
      size = size ∙ sym (fits (length file) (omega (arith, size)));
      written = from_start file c.args.output.now _ (put ∙ rw (planes_file p, same)) (omega (arith, size));
    }
