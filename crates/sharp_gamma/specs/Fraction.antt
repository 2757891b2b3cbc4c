-- Exact fractions of whole numbers: a numerator over a denominator, never reduced, compared by multiplying crosswise. RULES 3.4, 3.5 compare such;
-- none is rounded.
-- Assumes nothing.
use Rattle.std.specs.Prelude.{ℕ, ◌+◌, ◌-◌, ◌*◌, ◌^◌, Bool, leb, ltb}

-- RULES 3.4, 3.5
pub record Fraction : Type 0 where
  pub num : ℕ
  pub den : ℕ

infixl 70 ◌over◌
abbrev pub ◌over◌ : ℕ → ℕ → Fraction
n over d = record { num = n; den = d }

abbrev pub whole : ℕ → Fraction
whole n = n over 1

-- RULES 3.1: a decimal by its digits and how many of them stand after the point, so 12.92 is `decimal 12_92 2`
abbrev pub decimal : ℕ → ℕ → Fraction
decimal digits places = digits over (10 ^ places)

infixl 55 ◌plus◌
abbrev pub ◌plus◌ : Fraction → Fraction → Fraction
x plus y = (x.num * y.den + y.num * x.den) over (x.den * y.den)

-- 0 where y is above x
infixl 55 ◌less◌
abbrev pub ◌less◌ : Fraction → Fraction → Fraction
x less y = (x.num * y.den - y.num * x.den) over (x.den * y.den)

infixl 60 ◌times◌
abbrev pub ◌times◌ : Fraction → Fraction → Fraction
x times y = (x.num * y.num) over (x.den * y.den)

infixl 60 ◌divided_by◌
abbrev pub ◌divided_by◌ : Fraction → Fraction → Fraction
x divided_by y = (x.num * y.den) over (x.den * y.num)

abbrev pub power : Fraction → ℕ → Fraction
power x k = (x.num ^ k) over (x.den ^ k)

infix 50 ◌not_above◌
abbrev pub ◌not_above◌ : Fraction → Fraction → Bool
x not_above y = leb (x.num * y.den) (y.num * x.den)

infix 50 ◌below◌
abbrev pub ◌below◌ : Fraction → Fraction → Bool
x below y = ltb (x.num * y.den) (y.num * x.den)
