-- `may_move` meets its contract: by the form.
-- Assumes nothing.
use mathlib.Core.Path.{sym, ◌∙◌}
use Rattle.shift_move.proofs.Steps.{may_with, may_without}
use Rattle.shift_move.proofs.may_move.Goals as goal

pub returns-in-WithoutSettings : goal.returns-in-WithoutSettings
returns-in-WithoutSettings c = sym (may_without _ c.in-WithoutSettings.is _)

pub returns-in-WithSettings : goal.returns-in-WithSettings
returns-in-WithSettings c = c.are_plain.ensures ∙ sym (may_with _ c.in-WithSettings.is _)
