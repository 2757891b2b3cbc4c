-- What a convoy that came as numbers answers and leaves: docs/RULES.md, 10.9.
-- Assumes nothing.
use Rattle.std.specs.Prelude.{ℕ, ◌≡◌, List, [], ◌∷◌, Float}
use Rattle.yuv_error.specs.Numbers.{numbers_of}
use Rattle.convoy.specs.declared.ConvoyAnswer.{ConvoyAnswer}
use Rattle.convoy.specs.Run.{Planes, ConvoyCall, convoy_call, ConvoyPost}
use Rattle.convoy_calls.specs.Numbers.{convoy_of}

-- RULES 10.9: what a call was given, the number that it returned, and what it was lent as it left it
pub record ExportedConvoy : Type 0 where
  pub count : ℕ
  pub numbers : List ℕ
  pub customs : List Float
  pub parts : List ℕ
  pub source : List ℕ
  pub before : Planes
  pub number : ℕ
  pub told : List ℕ
  pub after : Planes

-- RULES 10.9
abbrev pub exported_convoy : (count : ℕ) (numbers : List ℕ) (customs : List Float) (parts source : List ℕ) (before : Planes) (number : ℕ)
    (told : List ℕ)
    (after : Planes) → ExportedConvoy
exported_convoy count numbers customs parts source before number told after = record {
  count = count;
  numbers = numbers;
  customs = customs;
  parts = parts;
  source = source;
  before = before;
  number = number;
  told = told;
  after = after;
}

-- RULES 10.9: the call of a convoy that the numbers describe, with an answer
abbrev pub convoy_with : ExportedConvoy → ConvoyAnswer → ConvoyCall
convoy_with k answer = convoy_call (convoy_of k.count k.numbers k.customs k.parts) k.source k.before answer k.after

-- RULES 10.9: everything of a call: the promise of a convoy; the number that it returns, and what it tells, are those of its answer
pub record ConvoyKept (k : ExportedConvoy) : Type 0 where
  pub result : ConvoyAnswer
  pub number : k.number ≡ (numbers_of result.answer).number
  pub told : k.told ≡ (numbers_of result.answer).expected ∷ (numbers_of result.answer).received ∷ result.done ∷ []
  pub answered : ConvoyPost (convoy_with k result)
