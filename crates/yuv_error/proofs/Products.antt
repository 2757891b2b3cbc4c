-- A product of two numbers of 32 bits fits 64 bits, and with a row more it does too: the sizes of a lent buffer. Assumes nothing.
use Prim.Native.Nat.{ℕ, ◌+◌, ◌-◌, ◌*◌, ◌^◌, ◌<◌, ◌≤◌}
use native.Mathlib.Nat.{mul-le-mul}
use native.Mathlib.Omega.{arith}
use lib.Pow.{le_ones}

below : {size rows : ℕ} → size < 2 ^ 32 → rows < 2 ^ 32 → size * rows ≤ (2 ^ 32 - 1) * (2 ^ 32 - 1)
below s r = mul-le-mul (le_ones 32 s) (le_ones 32 r)

pub product_fits : {size rows : ℕ} → size < 2 ^ 32 → rows < 2 ^ 32 → size * rows < 2 ^ 64
product_fits s r = omega (arith, below s r)

pub sum_fits : {size rows row : ℕ} → size < 2 ^ 32 → rows < 2 ^ 32 → row < 2 ^ 32 → size * rows + row < 2 ^ 64
sum_fits s r b = omega (arith, below s r)
