-- Where the entries of a table stand: from 0 on, and rising, whatever is taken off.
-- Assumes nothing.
use mathlib.Core.Path.{◌≡◌, refl}
use Prim.Native.Nat.{ℕ, ◌≤◌}
use native.Mathlib.Omega.{arith}
use Rattle.sharp_gamma.specs.declared.TableRounding.{TableRounding}
use Rattle.sharp_gamma.specs.declared.TableRounding.TheVariants.{Truncated, Nearest}
use Rattle.sharp_gamma.specs.Entry.{place}

pub place_starts : (r : TableRounding) (last : ℕ) → (place r last 0).num ≡ 0
place_starts Truncated last = refl
place_starts Nearest last = refl

pub place_rises : (r : TableRounding) (last : ℕ) {m n : ℕ} → m ≤ n → (place r last m).num ≤ (place r last n).num
place_rises Truncated last h = omega arith
place_rises Nearest last h = omega arith
