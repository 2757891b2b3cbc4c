-- The decimals that are written: digits alone, worth the number, without leading zero.
-- Assumes nothing.
use Prim.Native.Nat.{ℕ, zero, suc, ◌+◌, ◌*◌, ◌/◌, ◌%◌, ◌≤◌, ◌<◌}
use mathlib.Core.Path.{◌≡◌, refl, sym, ◌∙◌}
use mathlib.Core.Bool.{Bool, true, false, cond}
use mathlib.Core.List.{List, [], ◌∷◌, ◌++◌}
use native.Mathlib.Omega.{arith}
use lib.Dec.{leb, ltb, lit≤}
use lib.ListN.{length, get_or, get_or-append, length-append}
use borrow.Author.Tests.{lt-ltb, le-ltb, le-leb}
use Rattle.std.specs.Prelude.{decimal as printed}
use Rattle.std.proofs.lemmas.Bool.{and_parts}
use Rattle.std.proofs.lemmas.Fmt.{decimal_from_appends, decimal_by_steps, length-decimal-le}
use Rattle.y4m_line.specs.Line.{Without, digit, digits, value}
use Rattle.y4m_line.proofs.Decimal.{digit_is}
use Rattle.y4m_line.proofs.Text.{Without-append}
use Rattle.y4m_writer.specs.Text.{decimal}

pub digit_of : (d : ℕ) → d < 10 → digit (48 + d) ≡ d
digit_of d h = digit_is (48 + d) (omega arith) (omega arith) ∙ omega arith

value-append : (v d : ℕ) (a : List ℕ) → value v (a ++ (d ∷ [])) ≡ value v a * 10 + digit d
unfolding value
value-append v d [] = refl
value-append v d (x ∷ a) = value-append (v * 10 + digit x) d a

digits_append : (d : ℕ) (a : List ℕ) → digits a ≡ true → digit d ≤ 9 → digits (a ++ (d ∷ [])) ≡ true
unfolding digits
digits_append d [] h k = rw (le-leb (digit d) 9 k)
digits_append d (x ∷ a) h k = let q = and_parts (leb (digit x) 9) (digits a) h in rw q.0 (digits_append d a q.1 k)

-- t is the decimal of v
pub record Decimal (v : ℕ) (t : List ℕ) : Type 0 where
  pub worth : value 0 t ≡ v
  pub all : digits t ≡ true
  pub some : 0 < length t
  pub lead : 1 ≤ v → get_or t 0 48 ≡ 48 → ⊥
  pub bytes : (x : ℕ) → x < 48 → Without x t

one_digit : (v : ℕ) → v < 10 → Decimal v ((48 + v) ∷ [])
unfolding value digits
one_digit v h = record {
  worth = omega (arith, digit_of v h);
  all = rw (digit_of v h, le-leb v 9 (omega arith));
  some = omega arith;
  lead = λ k e. omega arith;
  bytes = λ x k. ((λ e. omega arith), tt);
}

more_digit : (v : ℕ) (t : List ℕ) → 10 ≤ v → Decimal (v / 10) t → Decimal v (t ++ ((48 + v % 10) ∷ []))
more_digit v t h d =
    let e : digit (48 + v % 10) ≡ v % 10 = digit_of (v % 10) (omega arith) in
    record {
      worth = value-append 0 (48 + v % 10) t ∙ rw (d.worth, e) (omega arith);
      all = digits_append (48 + v % 10) t d.all (rw e (omega arith));
      some = rw length-append (omega (arith, d.some));
      lead = λ k z. d.lead (omega arith) (sym (get_or-append t ((48 + v % 10) ∷ []) 48 0 d.some) ∙ z);
      bytes = λ x k. Without-append x t _ (d.bytes x k) ((λ z. omega arith), tt);
    }

-- ---- a side's five digits are those that std prints

decimal_last : (f v : ℕ) → v < 10 → decimal (suc f) v ≡ (48 + v) ∷ []
unfolding decimal
decimal_last f v h = rw (lt-ltb v 10 h)

decimal_more : (f v : ℕ) → 10 ≤ v → decimal (suc f) v ≡ decimal f (v / 10) ++ ((48 + v % 10) ∷ [])
unfolding decimal
decimal_more f v h = rw (le-ltb v 10 h)

pub decimal_printed : (v : ℕ) → v < 100000 → printed v ≡ decimal 5 v
decimal_printed v h =
    sym (decimal_from_appends decimal (record { one = decimal_last; more = decimal_more }) 5 v (omega arith)
    (length-decimal-le 5 v (lit≤ tt) h (omega arith)))

pub decimal_5 : (v : ℕ) → v < 100000 → Decimal v (decimal 5 v)
decimal_5 v h = rw (← decimal_printed v h) (decimal_by_steps Decimal one_digit (λ n ds k d. more_digit n ds k d) v (omega arith))

length_case : (f v : ℕ) (t : Bool) → length (decimal f (v / 10)) ≤ f
    → length (cond t ((48 + v) ∷ []) (decimal f (v / 10) ++ ((48 + v % 10) ∷ []))) ≤ suc f
length_case f v true h = omega arith
length_case f v false h = rw length-append (omega arith)

pub decimal-length : (f v : ℕ) → length (decimal f v) ≤ f
unfolding decimal
decimal-length zero v = omega arith
decimal-length (suc f) v = length_case f v (ltb v 10) (decimal-length f (v / 10))
