-- What one check after another answers: the first rule that holds in the rules of both, in a row. Assumes nothing.
use Rattle.std.specs.Prelude.{Result, Ok, Err}
use mathlib.Core.Bool.{Bool, true, false, cond, not, ◌&&◌, and-eq-true_iff}
use mathlib.Core.List.{List, [], ◌∷◌, ◌++◌}
use mathlib.Core.Path.{◌≡◌, refl, sym, ap, ◌∙◌}
use lib.Dec.{eqb}
use borrow.Author.Tests.{not-true, eqb-true, eqb-false}
use Rattle.yuv_error.specs.Numbers.{Numbers, numbers_of}
use Rattle.yuv_error.specs.Rules.{Rule, first_numbers}
use Rattle.yuv_error.specs.declared.YuvError.{YuvError}
use Rattle.yuv_error.proofs.Numbers.{refused_number}

-- no rule has number 0, which is finished work's
abbrev pub numbered : List Rule → Bool
numbered [] = true
numbered (r ∷ rs) = not (eqb r.says.number 0) && numbered rs

numbered-cons : (r : Rule) (rs : List Rule) → numbered (r ∷ rs) ≡ true → (not (eqb r.says.number 0) ≡ true) × (numbered rs ≡ true)
numbered-cons r rs n = (and-eq-true_iff (not (eqb r.says.number 0)) (numbered rs)).0 n

append_step : (b : Bool) (x y z w : Numbers) → eqb x.number 0 ≡ false → z ≡ cond (eqb y.number 0) w y
    → cond b x z ≡ cond (eqb (cond b x y).number 0) w (cond b x y)
append_step true x y z w n e = rw n
append_step false x y z w n e = e

-- the later rules are asked where the first answer 0
pub first_append : (xs ys : List Rule) → numbered xs ≡ true → first_numbers (xs ++ ys) ≡ cond (eqb (first_numbers xs).number 0) (first_numbers ys) (first_numbers xs)
first_append [] ys n = refl
first_append (r ∷ xs) ys n =
    append_step r.holds r.says (first_numbers xs) (first_numbers (xs ++ ys)) (first_numbers ys) (not-true _ (numbered-cons r xs n).0)
    (first_append xs ys (numbered-cons r xs n).1)

-- no rule of either part holds
pub append_finished : (xs ys : List Rule) → numbered xs ≡ true → (first_numbers (xs ++ ys)).number ≡ 0 → ((first_numbers xs).number ≡ 0) × ((first_numbers ys).number ≡ 0)
append_finished xs ys n e = go (eqb (first_numbers xs).number 0) refl
  where
    go : (b : Bool) → eqb (first_numbers xs).number 0 ≡ b → ((first_numbers xs).number ≡ 0) × ((first_numbers ys).number ≡ 0)
    go true t = (eqb-true _ _ t, sym (ap (λ (x : Numbers). x.number) (first_append xs ys n ∙ ap (λ (b : Bool). cond b (first_numbers ys) (first_numbers xs)) t)) ∙ e)
    go false t = absurd (eqb-false _ _ t (sym (ap (λ (x : Numbers). x.number)
        (first_append xs ys n ∙ ap (λ (b : Bool). cond b (first_numbers ys) (first_numbers xs)) t)) ∙ e))

-- after a check that refused, for a caller that returns its answer
pub after_refused : {a : Result Unit YuvError} {e : YuvError} (xs ys : List Rule) → numbered xs ≡ true → a ≡ Err e → numbers_of a ≡ first_numbers xs
    → numbers_of a ≡ first_numbers (xs ++ ys)
after_refused {a} {e} xs ys n t p = rw t (sym (rw (← p, t, refused_number e) at (first_append xs ys n)))

-- after a check that did not, for a caller that goes on
pub after_finished : {a : Result Unit YuvError} (xs ys : List Rule) → numbered xs ≡ true → a ≡ Ok tt → numbers_of a ≡ first_numbers xs → first_numbers (xs ++ ys) ≡ first_numbers ys
after_finished xs ys n t p = rw (← p, t) at (first_append xs ys n)

pub finished_number : {a : Result Unit YuvError} (xs : List Rule) → a ≡ Ok tt → numbers_of a ≡ first_numbers xs → (first_numbers xs).number ≡ 0
finished_number xs t p = rw (← p, t)
