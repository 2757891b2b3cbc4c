-- The record's bytes tell its settings.
-- Assumes nothing.
use mathlib.Core.Path.{ap, ◌∙◌}
use Rattle.shift_file.specs.File.{settings_told}
use Rattle.shift_file.specs.Read.{settings_at}
use Rattle.shift_reader.proofs.Files.{its_place}
use Rattle.shift_reader.proofs.file.FileRecord.settings.Goals as goal

pub invariant_of-part : goal.invariant_of-part
invariant_of-part c = record { has_header = rw c.bytes.ensures (its_place c.args.self.now).short_header }

pub returns : goal.returns
returns c =
    let r = c.args.self.now in
    c.settings.ensures ∙ ap (settings_told r.file.form) (ap (settings_at r.file.form) c.bytes.ensures ∙ (its_place r).settings)
