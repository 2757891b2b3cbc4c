-- `put_record` meets its contract: the header, then the planes. Assumes nothing.
use native.Mathlib.Omega.{arith}
use mathlib.Core.Path.{◌≡◌, ap, ◌∙◌}
use Rattle.shift_file.specs.File.{header_size}
use Rattle.shift_record.specs.Record.{record_form}
use Rattle.shift_record.proofs.Made.{length_parts, record_put}
use Rattle.shift_record.proofs.planes.FramePlanes.put_record.Goals.{After-header_size}
use Rattle.shift_record.proofs.planes.FramePlanes.put_record.Goals as goal

-- where the planes start
starts : (c : After-header_size) → c.header_size.result ≡ header_size (record_form c.args.self.now.frame)
starts c = c.header_size.ensures.0 ∙ ap header_size c.form.ensures

pub put-requires : goal.put-requires
put-requires c =
    let p = c.args.self.now in
    rw c.into.ensures
    (omega (arith, starts (goal.at.put-requires c).After-header_size, length_parts p.frame p.y.now p.u.now p.v.now p.fit, c.requires, c.put_header.auto.output))

pub returns : goal.returns
returns c =
    let p = c.args.self.now in
    rw (c.put.ensures, c.into.ensures, c.put_header.ensures)
    (record_put p.frame p.y.now p.u.now p.v.now c.args.output.now c.header_size.result (starts (goal.at.returns c).After-header_size))
