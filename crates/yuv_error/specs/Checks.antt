-- What a refusal of a lent buffer carries. This serves the contracts of the smaller checks; the meaning stands in Rules.
-- Assumes nothing.
use Rattle.std.specs.Prelude.{◌*◌}
use Rattle.yuv_error.specs.declared.MismatchedSize.{MismatchedSize}
use Rattle.yuv_error.specs.declared.LentBuffer.{LentBuffer}
use Rattle.yuv_error.specs.Rules.{least_of, whole_of}

-- RULES 7.5, 7.6: of a buffer too short for its rows
abbrev pub least_mismatch : LentBuffer → MismatchedSize
least_mismatch b = record { expected = least_of b; received = b.len }

-- RULES 7.6: of a plane whose stride is below its row
abbrev pub stride_mismatch : LentBuffer → MismatchedSize
stride_mismatch b = record { expected = b.row * b.rows; received = whole_of b }
