-- Where the first `*` stands in what was cut there.
use Rattle.std.proofs.Common.{◌≡◌, ◌≢◌, ℕ, suc, ◌+◌, List, ◌∷◌, ◌++◌, [], All, cond, not, eqb, false, length, take, drop, refl, sym, ap, ◌∙◌, arith, inl, inr}
use Rattle.std.proofs.lemmas.Bool.{ne_eqb}
use Rattle.std.proofs.lemmas.List.{take_at, drop_at, take_all, drop_all}
use Rattle.replay_text.specs.Lines.{IsCut, number_of, star_in}

star_at : (front rest : List ℕ) → All (λ b. b ≢ 42) front → star_in (front ++ 42 ∷ rest) ≡ length front
star_at [] rest none = refl
star_at (b ∷ front) rest none =
    let differs : eqb b 42 ≡ false = ne_eqb _ _ (none 0 0 (omega arith)) in
    let more : star_in (front ++ 42 ∷ rest) ≡ length front = star_at front rest (λ k d l. none (suc k) d (omega (arith, l))) in
    (λ i. cond (not (differs i)) (1 + more i) 0) ∙ omega arith

no_star : (front : List ℕ) → All (λ b. b ≢ 42) front → star_in front ≡ length front
no_star [] none = refl
no_star (b ∷ front) none =
    let differs : eqb b 42 ≡ false = ne_eqb _ _ (none 0 0 (omega arith)) in
    let more : star_in front ≡ length front = no_star front (λ k d l. none (suc k) d (omega (arith, l))) in
    (λ i. cond (not (differs i)) (1 + more i) 0) ∙ omega arith

module _ {words front rest : List ℕ} where
  -- the bytes stand before the star
  pub before_star : IsCut 42 words front rest → front ≡ take (star_in words) words
  before_star (none, inl whole) =
      sym ((λ i. take (star_in (whole i)) (whole i)) ∙ ap (λ n. take n (front ++ 42 ∷ rest)) (star_at front rest none) ∙ take_at front (42 ∷ rest) _ refl)
  before_star (none, inr (whole, nothing)) =
      sym ((λ i. take (star_in (whole i)) (whole i)) ∙ take_all _ front (omega (arith, no_star front none)))

  -- the number stands behind the star, which changes nothing of it
  pub behind_star : IsCut 42 words front rest → number_of rest ≡ number_of (drop (star_in words) words)
  behind_star (none, inl whole) =
      sym ((λ i. number_of (drop (star_in (whole i)) (whole i))) ∙ ap (λ n. number_of (drop n (front ++ 42 ∷ rest))) (star_at front rest none)
      ∙ ap number_of (drop_at front (42 ∷ rest) _ refl))
  behind_star (none, inr (whole, nothing)) =
      sym ((λ i. number_of (drop (star_in (whole i)) (whole i))) ∙ ap number_of (drop_all _ front (omega (arith, no_star front none)) ∙ sym nothing))
