-- What an entry means, whatever the number: n, less what the rounding takes off, is not above the curve at v/255 exactly where n is at most the linear
-- entry v; so k and the inverse at i/65,535 for the gamma entry i. The bounds in the definitions cut nothing off: a computed test at each bound.
-- Assumes nothing.
use mathlib.Core.Path.{◌≡◌, subst}
use mathlib.Core.Bool.{Bool, not, ◌&&◌}
use mathlib.Core.Logic.{◌↔◌}
use Prim.Native.Nat.{ℕ, ◌≤◌, ◌<◌, zero-le}
use native.Mathlib.Omega.{arith}
use native.Mathlib.Decide.{dec_le}
use lib.Dec.{T, T_not, le→leb}
use lib.ListN.{replicate}
use mir.Facts.{and_yes}
use Rattle.sharp_gamma.specs.declared.SharpYuvGammaTransfer.{SharpYuvGammaTransfer}
use Rattle.sharp_gamma.specs.declared.SharpYuvGammaTransfer.TheVariants.{Srgb, Rec709, Gamma2p2, Gamma2p8}
use Rattle.sharp_gamma.specs.declared.TableRounding.{TableRounding}
use Rattle.sharp_gamma.specs.declared.TableRounding.TheVariants.{Truncated, Nearest}
use Rattle.sharp_gamma.specs.Fraction.{◌over◌}
use Rattle.sharp_gamma.specs.Curve.{Curve, curve_of, under_curve, under_inverse}
use Rattle.sharp_gamma.specs.Entry.{largest, place, linear_entry, gamma_entry}
use Rattle.sharp_gamma.proofs.Computed.{three, every, every_at}
use Rattle.sharp_gamma.proofs.Largest.{largest_means}
use Rattle.sharp_gamma.proofs.Place.{place_starts, place_rises}
use Rattle.sharp_gamma.proofs.Order.{curve_down, inverse_down}
use Rattle.sharp_gamma.proofs.Rise.{crosses, steady, rises_to, inverse_rises}

module _ (c : Curve) (r : TableRounding) where
  abbrev pub linear_under : ℕ → ℕ → Bool
  linear_under v n = under_curve c (place r 65535 n) (v over 255)

  abbrev pub gamma_under : ℕ → ℕ → Bool
  gamma_under i k = under_inverse c (place r 255 k) (i over 65535)

  -- at each v the entries start at 0 and end by 65,535
  abbrev linear_bounds : Bool
  linear_bounds = every (λ v _. linear_under v 0 && not (linear_under v 65536)) (replicate 256 0)

  pub linear_means_on : T linear_bounds → (v n : ℕ) → v < 256 → T (linear_under v n) ↔ n ≤ largest (linear_under v) 65535
  linear_means_on t v n h =
      let b = and_yes (linear_under v 0) (not (linear_under v 65536)) (every_at (λ v _. linear_under v 0 && not (linear_under v 65536)) (replicate 256 0) t v h) in
      largest_means (linear_under v) (λ m n h. curve_down c _ (place_rises r 65535 h) (v over 255)) b.0 65535 (T_not (linear_under v 65536) b.1) n

  -- at each i the entries start at 0 and end by 255: as the inverse rises, two indices are enough, the last and, as 1 is its own branch, the one before
  abbrev gamma_bounds : Bool
  gamma_bounds = steady c (place r 255 0) && crosses c (place r 255 256) && (not (gamma_under 65534 256) && not (gamma_under 65535 256))

  module _ (test : T gamma_bounds) where
    parts : T (steady c (place r 255 0)) × T (crosses c (place r 255 256)) × T (not (gamma_under 65534 256) && not (gamma_under 65535 256))
    parts = three (steady c (place r 255 0)) (crosses c (place r 255 256)) (not (gamma_under 65534 256) && not (gamma_under 65535 256)) test

    start : (i : ℕ) → T (gamma_under i 0)
    unfolding under_inverse
    start i = inverse_rises c (place r 255 0) parts.0 0 i zero-le (omega (arith, le→leb, place_starts r 255))

    end : (i : ℕ) → i < 65536 → T (gamma_under i 256) → ⊥
    end i h u = go (and_yes (not (gamma_under 65534 256)) (not (gamma_under 65535 256)) parts.2) (dec_le i 65534)
      where
        go : T (not (gamma_under 65534 256)) × T (not (gamma_under 65535 256)) → Dec (i ≤ 65534) → ⊥
        go f (yes g) = T_not (gamma_under 65534 256) f.0 (rises_to c (place r 255 256) parts.1 i 65534 g (λ one. absurd one) u)
        go f (no g) = T_not (gamma_under 65535 256) f.1 (subst (λ (i : ℕ). T (gamma_under i 256)) (let e : i ≡ 65535 = omega arith in e) u)

    pub gamma_means_on : (i k : ℕ) → i < 65536 → T (gamma_under i k) ↔ k ≤ largest (gamma_under i) 255
    gamma_means_on i k h = largest_means (gamma_under i) (λ m n h. inverse_down c _ (place_rises r 255 h) (i over 65535)) (start i) 255 (end i h) k

linear_bounds_lem : (t : SharpYuvGammaTransfer) (r : TableRounding) → T (linear_bounds (curve_of t) r)
unfolding under_curve
linear_bounds_lem Srgb Truncated = tt
linear_bounds_lem Srgb Nearest = tt
linear_bounds_lem Rec709 Truncated = tt
linear_bounds_lem Rec709 Nearest = tt
linear_bounds_lem Gamma2p2 Truncated = tt
linear_bounds_lem Gamma2p2 Nearest = tt
linear_bounds_lem Gamma2p8 Truncated = tt
linear_bounds_lem Gamma2p8 Nearest = tt

gamma_bounds_lem : (t : SharpYuvGammaTransfer) (r : TableRounding) → T (gamma_bounds (curve_of t) r)
unfolding under_inverse
gamma_bounds_lem Srgb Truncated = tt
gamma_bounds_lem Srgb Nearest = tt
gamma_bounds_lem Rec709 Truncated = tt
gamma_bounds_lem Rec709 Nearest = tt
gamma_bounds_lem Gamma2p2 Truncated = tt
gamma_bounds_lem Gamma2p2 Nearest = tt
gamma_bounds_lem Gamma2p8 Truncated = tt
gamma_bounds_lem Gamma2p8 Nearest = tt

module _ (t : SharpYuvGammaTransfer) (r : TableRounding) where
  pub linear_means : (v n : ℕ) → v < 256 → T (under_curve (curve_of t) (place r 65535 n) (v over 255)) ↔ n ≤ linear_entry t r v
  unfolding linear_entry
  linear_means = linear_means_on (curve_of t) r (linear_bounds_lem t r)

  pub gamma_means : (i k : ℕ) → i < 65536 → T (under_inverse (curve_of t) (place r 255 k) (i over 65535)) ↔ k ≤ gamma_entry t r i
  unfolding gamma_entry
  gamma_means = gamma_means_on (curve_of t) r (gamma_bounds_lem t r)
