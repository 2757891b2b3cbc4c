-- What callers need of the entries: a linear entry fits 16 bits, a gamma entry 8.
-- Assumes nothing.
use Prim.Native.Nat.{ℕ, ◌≤◌}
use Rattle.sharp_gamma.specs.declared.SharpYuvGammaTransfer.{SharpYuvGammaTransfer}
use Rattle.sharp_gamma.specs.declared.TableRounding.{TableRounding}
use Rattle.sharp_gamma.specs.Entry.{linear_entry, gamma_entry}
use Rattle.sharp_gamma.proofs.Largest.{largest-le}

pub linear_entry-le : (t : SharpYuvGammaTransfer) (r : TableRounding) (v : ℕ) → linear_entry t r v ≤ 65535
unfolding linear_entry
linear_entry-le t r v = largest-le _ 65535

pub gamma_entry-le : (t : SharpYuvGammaTransfer) (r : TableRounding) (i : ℕ) → gamma_entry t r i ≤ 255
unfolding gamma_entry
gamma_entry-le t r i = largest-le _ 255
