-- Rules that say no size: the number alone tells their answer.
-- Assumes nothing.
use Prim.Native.Nat.{ℕ}
use mathlib.Core.Path.{◌≡◌, refl, sym, ap, ◌∙◌}
use mathlib.Core.Bool.{Bool, true, false, cond}
use mathlib.Core.List.{List, [], ◌∷◌}
use Rattle.std.specs.Prelude.{Result}
use Rattle.yuv_error.specs.declared.YuvError.{YuvError}
use Rattle.yuv_error.specs.Numbers.{Numbers, numbers, numbers_of}
use Rattle.yuv_error.specs.Rules.{Rule, first_numbers}

abbrev pub Plain : List Rule → Type 0
Plain [] = Unit {0}
Plain (r ∷ rs) = (r.says ≡ numbers r.says.number 0 0) × Plain rs

plain_step : (b : Bool) (x y : Numbers) → x ≡ numbers x.number 0 0 → y ≡ numbers y.number 0 0 → cond b x y ≡ numbers (cond b x y).number 0 0
plain_step true x y p q = p
plain_step false x y p q = q

Plain-first : (rs : List Rule) → Plain rs → first_numbers rs ≡ numbers (first_numbers rs).number 0 0
Plain-first [] p = refl
Plain-first (r ∷ rs) p = plain_step r.holds r.says (first_numbers rs) p.0 (Plain-first rs p.1)

pub alone : (rs : List Rule) {n : ℕ} (a : Result Unit YuvError) → Plain rs → n ≡ (numbers_of a).number → numbers_of a ≡ first_numbers rs → numbers n 0 0 ≡ first_numbers rs
alone rs a plain is e = ap (λ (n : ℕ). numbers n 0 0) (is ∙ ap (λ (x : Numbers). x.number) e) ∙ sym (Plain-first rs plain)
