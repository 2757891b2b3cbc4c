-- `round_half_away` meets its contract: below 0 it negates what the opposite number rounds to.
-- Assumes nothing.
use Rattle.std.proofs.Common.{◌≡◌, ℕ, ◌*◌, ◌^◌, ◌<◌, true, false, not, T, ltb, ℤ, pos, ◌-ℤ◌, neg_ℤ, sym, refl, ap, ◌∙◌, subst, lt_of_lt_of_le, arith, lit≤, ltb→lt, w32, SFits, to_z}
use lib.IntN.{+ℤ_idl}
use lib.Dec.{not_T}
use lib.Ieee.{Float, nan, inf, fin, up, down, lt, neg, of_bits}
use mir.ValLaws.{to_z_pos, to_z-of_z}
use Rattle.forward_transform.specs.Rounding.{round_half_away}
use Rattle.forward_transform.specs.Small.{small, zero}
use Rattle.forward_transform.proofs.Signed.{fits_i32, size_neg}
use Rattle.forward_transform.proofs.round_half_away.Goals as goal

-- a number that is not negative is not below 0
not_below : (m c : ℕ) → T (ltb (m * 1) (0 * c)) → ⊥
not_below m c t = omega (arith, ltb→lt (m * 1) (0 * c) t)

-- below 0, the opposite number is not, is as small, and rounds to the opposite
opposite : (x : Float) → T (small x) → lt x zero ≡ true
    → T (small (neg x)) × T (not (lt (neg x) zero)) × (neg_ℤ (round_half_away (neg x)) ≡ round_half_away x)
unfolding lt neg round_half_away
opposite nan h e = absurd h
opposite (inf s) h e = absurd h
opposite (fin true m e) h is = (h, not_T (ltb (m * up e * 1) (0 * down e)) (not_below (m * up e) (down e)), refl)
opposite (fin false m e) h is = absurd (not_below (m * up e) (down e) (subst T (sym is) tt))

-- a u16 negated in i32
negated : (n : ℕ) → n < 2 ^ 16 → pos 0 -ℤ to_z w32 n ≡ neg_ℤ (pos n)
negated n h = ap (λ (z : ℤ). pos 0 -ℤ z) (to_z_pos w32 n (lt_of_lt_of_le h (lit≤ tt))) ∙ +ℤ_idl (neg_ℤ (pos n))

negated_fits : (n : ℕ) → n < 2 ^ 16 → SFits w32 (pos 0 -ℤ to_z w32 n)
negated_fits n h = subst (λ (z : ℤ). SFits w32 z) (sym (negated n h)) (fits_i32 (neg_ℤ (pos n)) (omega (arith, size_neg n)))

pub nearest_whole-requires-clause-small : goal.nearest_whole-requires-clause-small
unfolding of_bits
nearest_whole-requires-clause-small c =
    (opposite c.args.x c.requires c.if-x.true).0

pub nearest_whole-requires-clause-not_negative : goal.nearest_whole-requires-clause-not_negative
unfolding of_bits
nearest_whole-requires-clause-not_negative c =
    (opposite c.args.x c.requires c.if-x.true).1

pub returns-then-x : goal.returns-then-x
unfolding of_bits
returns-then-x c =
    to_z-of_z w32 (pos 0 -ℤ to_z w32 c.nearest_whole.result) (negated_fits c.nearest_whole.result (omega arith))
    ∙ negated c.nearest_whole.result (omega arith)
    ∙ ap neg_ℤ c.nearest_whole.ensures
    ∙ (opposite c.args.x c.requires c.if-x.true).2
