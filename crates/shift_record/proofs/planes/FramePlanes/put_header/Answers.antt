-- `put_header` meets its contract: three numbers and the settings, one after the other.
-- Assumes nothing.
use mathlib.Core.Path.{◌∙◌}
use Rattle.shift_record.proofs.Made.{header_put}
use Rattle.shift_record.proofs.planes.FramePlanes.put_header.Goals as goal

pub returns : goal.returns
returns c =
    c.put_settings.ensures
    ∙ rw (c.write_number-3.ensures, c.write_number-2.ensures, c.write_number.ensures, c.into-3.ensures, c.into-2.ensures, c.into.ensures)
    (header_put c.args.self.now.frame c.args.output.now)
