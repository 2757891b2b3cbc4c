-- Each arm returns a constant table. Its `tt` is the one computed test of all 256 first indices.
-- Assumes nothing.
use mathlib.Core.Path.{refl}
use Rattle.sharp_gamma.specs.Curve.{under_inverse}
use Rattle.sharp_gamma.proofs.Table.{first_indices}
use Rattle.sharp_gamma.proofs.first_index_table.Goals as goal

pub returns-in-Srgb : goal.returns-in-Srgb
unfolding under_inverse
returns-in-Srgb c = first_indices c.in-Srgb.is c.in-Truncated.is refl tt

pub returns-in-Rec709 : goal.returns-in-Rec709
unfolding under_inverse
returns-in-Rec709 c = first_indices c.in-Rec709.is c.in-Truncated.is refl tt

pub returns-in-Gamma2p2 : goal.returns-in-Gamma2p2
unfolding under_inverse
returns-in-Gamma2p2 c = first_indices c.in-Gamma2p2.is c.in-Truncated.is refl tt

pub returns-in-Gamma2p8 : goal.returns-in-Gamma2p8
unfolding under_inverse
returns-in-Gamma2p8 c = first_indices c.in-Gamma2p8.is c.in-Truncated.is refl tt

pub returns-in-Srgb-transfer : goal.returns-in-Srgb-transfer
unfolding under_inverse
returns-in-Srgb-transfer c = first_indices c.in-Srgb-transfer.is c.in-Nearest.is refl tt

pub returns-in-Rec709-transfer : goal.returns-in-Rec709-transfer
unfolding under_inverse
returns-in-Rec709-transfer c = first_indices c.in-Rec709-transfer.is c.in-Nearest.is refl tt

pub returns-in-Gamma2p2-transfer : goal.returns-in-Gamma2p2-transfer
unfolding under_inverse
returns-in-Gamma2p2-transfer c = first_indices c.in-Gamma2p2-transfer.is c.in-Nearest.is refl tt

pub returns-in-Gamma2p8-transfer : goal.returns-in-Gamma2p8-transfer
unfolding under_inverse
returns-in-Gamma2p8-transfer c = first_indices c.in-Gamma2p8-transfer.is c.in-Nearest.is refl tt
