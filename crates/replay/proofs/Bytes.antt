-- Numbers that were read one after the other are the next ones, and each took four bytes.
use Rattle.std.proofs.Common.{◌≡◌, ◌+◌, ◌*◌, ℕ, List, [], ◌∷◌, length, drop, refl, ap, ◌∙◌, sym, arith, Float}
use Rattle.std.proofs.lemmas.List.{drop-drop}
use Rattle.std.specs.List.{FoldsTo}
use Rattle.replay.specs.Stored.{next_numbers, next_floats, IsNumber, IsFloat}

pub are_numbers : (left : List ℕ) (xs : List ℕ) (new : List ℕ) → FoldsTo (λ old n new. IsNumber old new n) left xs new
    → (xs ≡ next_numbers (length xs) left) × (new ≡ drop (4 * length xs) left)
unfolding next_numbers
are_numbers left [] new e = (refl, sym e)
are_numbers left (x ∷ xs) new (j, r, rest) =
    let more = are_numbers j xs new rest in
    let long : 4 + 4 * length xs ≡ 4 * length (x ∷ xs) = omega arith in (
      (λ i. r.0 i ∷ (more.0 ∙ ap (next_numbers (length xs)) r.1) i),
      more.1 ∙ ap (drop (4 * length xs)) r.1 ∙ drop-drop (4 * length xs) 4 left ∙ ap (λ k. drop k left) long,
    )

pub are_floats : (left : List ℕ) (xs : List Float) (new : List ℕ) → FoldsTo (λ old x new. IsFloat old new x) left xs new
    → (xs ≡ next_floats (length xs) left) × (new ≡ drop (4 * length xs) left)
unfolding next_floats
are_floats left [] new e = (refl, sym e)
are_floats left (x ∷ xs) new (j, r, rest) =
    let more = are_floats j xs new rest in
    let long : 4 + 4 * length xs ≡ 4 * length (x ∷ xs) = omega arith in (
      (λ i. r.0 i ∷ (more.0 ∙ ap (next_floats (length xs)) r.1) i),
      more.1 ∙ ap (drop (4 * length xs)) r.1 ∙ drop-drop (4 * length xs) 4 left ∙ ap (λ k. drop k left) long,
    )
