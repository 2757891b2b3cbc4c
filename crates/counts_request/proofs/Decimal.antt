-- The decimal digits of a number of 32 bits are those that std prints.
-- Assumes nothing.
use Prim.Native.Nat.{ℕ, suc, ◌+◌, ◌/◌, ◌%◌, ◌^◌, ◌≤◌, ◌<◌}
use mathlib.Core.Path.{◌≡◌, sym, ap, ◌∙◌}
use mathlib.Core.List.{[], ◌∷◌, ◌++◌}
use native.Mathlib.Omega.{arith}
use borrow.Author.Tests.{lt-ltb, le-ltb}
use lib.Dec.{lit≤}
use lib.ListN.{length}
use Rattle.std.specs.Prelude.{decimal as printed}
use Rattle.std.proofs.lemmas.Fmt.{decimal_from_appends, length-decimal-le}
use Rattle.frame_request.specs.Reply.{decimal as two_digits}
use Rattle.frame_request.proofs.Reply.{digits_are}
use Rattle.counts_request.specs.Reply.{digits, decimal}

digits_last : (k n : ℕ) → n < 10 → digits (suc k) n ≡ (48 + n) ∷ []
unfolding digits
digits_last k n l = rw (lt-ltb n 10 l)

digits_more : (k n : ℕ) → 10 ≤ n → digits (suc k) n ≡ digits k (n / 10) ++ ((48 + n % 10) ∷ [])
unfolding digits
digits_more k n l = rw (le-ltb n 10 l)

pub decimal_printed : (n : ℕ) → n < 2 ^ 32 → printed n ≡ decimal n
unfolding decimal
decimal_printed n l =
    sym (decimal_from_appends digits (record { one = digits_last; more = digits_more }) 10 n (omega arith)
    (length-decimal-le 10 n (lit≤ tt) (omega arith) (omega arith)))

-- 3 digits hold a number below 1,000, and 8 one below 100,000,000
pub decimal_3 : (n : ℕ) → n < 1000 → length (decimal n) ≤ 3
decimal_3 n l = omega (arith, ap length (decimal_printed n (omega arith)), length-decimal-le 3 n (lit≤ tt) l (omega arith))

pub decimal_8 : (n : ℕ) → n < 100000000 → length (decimal n) ≤ 8
decimal_8 n l = omega (arith, ap length (decimal_printed n (omega arith)), length-decimal-le 8 n (lit≤ tt) l (omega arith))

-- the digits of a refusal's number, which is below 100, are these too
pub two_digits-decimal : (n : ℕ) → n < 100 → two_digits n ≡ decimal n
two_digits-decimal n l = sym (digits_are n l) ∙ decimal_printed n (omega arith)
