-- An array that a function of the place makes has that function's value at each place.
-- Assumes nothing.
use Prim.Native.Nat.{ℕ, zero, suc, ◌+◌, ◌<◌}
use mathlib.Core.Path.{◌≡◌, subst, ◌∙◌}
use mathlib.Core.List.{List, map}
use native.Mathlib.Omega.{arith}
use denote.Param.Members.{Mut, Called}
use lib.ListN.{get_or}
use Rattle.std.specs.List.{range_with_len}
use Rattle.std.specs.Array.{IsFromFnResultFrom, IsFromFnResult}
use Rattle.std.proofs.lemmas.List.FromFn.{fill_by_all}

module _ {F B : Type 0} (g : Mut F (ℕ × Unit {0}) B) (f : F) (h : ℕ → B)
    (each : (i : ℕ) (y : B) (q : F) → Called g f (i, tt) y q → (q ≡ f) × (y ≡ h i)) (d : B) (ys : List B) where
  made_at : (i n j : ℕ) → IsFromFnResultFrom g f ys i n → j < n → get_or ys (i + j) d ≡ h (i + j)
  made_at i zero j r l = absurd (omega arith)
  made_at i (suc n) zero (q, y, at, called, rest) l =
      subst (λ (k : ℕ). get_or ys k d ≡ h k) (let e : i ≡ i + 0 = omega arith in e) (at.1 d ∙ (each i y q called).1)
  made_at i (suc n) (suc j) (q, y, at, called, rest) l =
      subst (λ (k : ℕ). get_or ys k d ≡ h k) (let e : i + 1 + j ≡ i + suc j = omega arith in e)
      (made_at (i + 1) n j (subst (λ (x : F). IsFromFnResultFrom g x ys (i + 1) n) (each i y q called).0 rest) (omega arith))

  pub made_map : (n : ℕ) → IsFromFnResult g f ys n → ys ≡ map h (range_with_len 0 n)
  made_map n r = fill_by_all h ys n d r.long (λ k l.
      subst (λ (m : ℕ). get_or ys m d ≡ h m) (let e : 0 + k ≡ k = omega arith in e) (made_at 0 n k r.each l))
