-- The table of src/lib.rt, in its order, for the contracts of the two private functions that read it. No meaning of a weight stands here.
-- Assumes nothing.
use Rattle.std.specs.Prelude.{List, [], ◌∷◌, ℕ, ◌+◌, pos, get_or, ℤ}
use Rattle.yuv_support.specs.declared.YuvRange.{YuvRange}
use Rattle.forward_transform.specs.declared.CbCrForwardTransform.{CbCrForwardTransform}
use Rattle.built_coefficients.specs.Built.{set, pick, bt601_limited, bt601_full, bt709_limited, bt709_full, bt2020_limited, bt2020_full}
use Rattle.built_coefficients.specs.Built.{smpte240_limited, smpte240_full, bt470_limited, bt470_full}

abbrev pub table : List (CbCrForwardTransform ℤ)
table =
    bt601_limited ∷ bt601_full ∷ bt709_limited ∷ bt709_full ∷ bt2020_limited ∷ bt2020_full
    ∷ smpte240_limited ∷ smpte240_full ∷ bt470_limited ∷ bt470_full ∷ []

-- past the table, where none is asked for, zeros
abbrev pub stored_set : ℕ → CbCrForwardTransform ℤ
stored_set index = get_or table index (set (pos 0) (pos 0) (pos 0) (pos 0) (pos 0) (pos 0) (pos 0) (pos 0) (pos 0))

abbrev pub stored_pair : ℕ → YuvRange → CbCrForwardTransform ℤ
stored_pair first range = pick range (stored_set first) (stored_set (first + 1))
