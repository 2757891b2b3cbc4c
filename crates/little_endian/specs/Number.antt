-- Numbers in bytes, low byte first, of any width: docs/RULES.md, 11.1.
-- Assumes nothing.
use Rattle.std.specs.Prelude.{ℕ, zero, suc, ◌+◌, ◌*◌, ◌/◌, ◌%◌, ◌<◌, List, [], ◌∷◌, get_or, drop}

-- RULES 11.1: every element is a byte; past the end 0 stands
abbrev pub Bytes : List ℕ → Type 0
Bytes l = (i : ℕ) → get_or l i 0 < 256

-- RULES 11.1: the n low bytes of v
unfoldable pub low_bytes : (n v : ℕ) → List ℕ
low_bytes zero v = []
low_bytes (suc n) v = v % 256 ∷ low_bytes n (v / 256)

-- RULES 11.1: the number in the first n bytes
unfoldable pub number_in : (n : ℕ) → List ℕ → ℕ
number_in zero l = 0
number_in (suc n) l = get_or l 0 0 + 256 * number_in n (drop 1 l)
