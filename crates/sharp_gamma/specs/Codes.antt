-- What each code of the transfers and roundings means: docs/RULES.md, 1.2.
-- Assumes nothing.
use Rattle.std.specs.Prelude.{ℕ, List, [], ◌∷◌}
use Rattle.sharp_gamma.specs.declared.SharpYuvGammaTransfer.{SharpYuvGammaTransfer}
use Rattle.sharp_gamma.specs.declared.SharpYuvGammaTransfer.TheVariants.{Srgb, Rec709, Gamma2p2, Gamma2p8}
use Rattle.sharp_gamma.specs.declared.TableRounding.{TableRounding}
use Rattle.sharp_gamma.specs.declared.TableRounding.TheVariants.{Truncated, Nearest}

-- RULES 1.2: the value of each code, at its place
abbrev pub transfer_codes : List SharpYuvGammaTransfer
transfer_codes = Srgb ∷ Rec709 ∷ Gamma2p2 ∷ Gamma2p8 ∷ []

-- RULES 1.2
abbrev pub rounding_codes : List TableRounding
rounding_codes = Truncated ∷ Nearest ∷ []

-- ---- the other way round

-- RULES 1.2
abbrev pub transfer_code : SharpYuvGammaTransfer → ℕ
transfer_code Srgb = 0
transfer_code Rec709 = 1
transfer_code Gamma2p2 = 2
transfer_code Gamma2p8 = 3

-- RULES 1.2
abbrev pub rounding_code : TableRounding → ℕ
rounding_code Truncated = 0
rounding_code Nearest = 1
