-- One computed test of a whole table gives the rule of each entry. Of a linear table: the entry passes and the next number does not. Of a table of first
-- indices: the number passes there and not at the index before, which is enough since the inverse rises.
-- Assumes nothing.
use mathlib.Core.Path.{◌≡◌, sym}
use mathlib.Core.Bool.{Bool, true, not, ◌&&◌}
use mathlib.Core.List.{List}
use mathlib.Core.Logic.{◌↔◌}
use Prim.Native.Nat.{ℕ, zero, suc, ◌≤◌, ◌<◌}
use native.Mathlib.Nat.{le_of_suc-le-suc, not-suc-le-zero}
use native.Mathlib.Omega.{arith}
use native.Mathlib.Decide.{dec_lt}
use lib.Dec.{T, T_not}
use lib.ListN.{get_or, length}
use mir.Facts.{and_yes}
use Rattle.sharp_gamma.specs.declared.SharpYuvGammaTransfer.{SharpYuvGammaTransfer}
use Rattle.sharp_gamma.specs.declared.TableRounding.{TableRounding}
use Rattle.sharp_gamma.specs.Curve.{Curve, curve_of}
use Rattle.sharp_gamma.specs.Entry.{place, linear_entry, gamma_entry, TableOf}
use Rattle.sharp_gamma.specs.FirstIndices.{FirstIndices}
use Rattle.sharp_gamma.proofs.Computed.{three, every, every_at}
use Rattle.sharp_gamma.proofs.Rise.{steady, inverse_rises}
use Rattle.sharp_gamma.proofs.Meaning.{linear_under, gamma_under, linear_means, gamma_means}

-- n passes, and the next number does not
abbrev pub is_last : (ℕ → Bool) → ℕ → Bool
is_last p n = p n && not (p (suc n))

last_is : (p : ℕ → Bool) (e : ℕ) → ((n : ℕ) → T (p n) ↔ n ≤ e) → (n : ℕ) → T (is_last p n) → e ≡ n
last_is p e means n t = go (and_yes (p n) (not (p (suc n))) t) (dec_lt n e)
  where
    go : T (p n) × T (not (p (suc n))) → Dec (n < e) → e ≡ n
    go l (yes h) = absurd (T_not (p (suc n)) l.1 ((means (suc n)).1 h))
    go l (no h) = omega (arith, (means n).0 l.0)

-- the number before s, if there is one, does not pass
abbrev fails_before : (ℕ → Bool) → ℕ → Bool
fails_before p zero = true
fails_before p (suc s) = not (p s)

fails_before_lem : (p : ℕ → Bool) → ((i j : ℕ) → i ≤ j → T (p i) → T (p j)) → (s i : ℕ) → T (fails_before p s) → i < s → T (p i) → ⊥
fails_before_lem p up zero i t h u = not-suc-le-zero h
fails_before_lem p up (suc s) i t h u = T_not (p s) t (up i s (le_of_suc-le-suc h) u)

module _ (t : SharpYuvGammaTransfer) (r : TableRounding) where
  abbrev pub is_linear : ℕ → ℕ → Bool
  is_linear v = is_last (linear_under (curve_of t) r v)

  abbrev pub is_gamma : ℕ → ℕ → Bool
  is_gamma i = is_last (gamma_under (curve_of t) r i)

  pub linear_is : (v n : ℕ) → v < 256 → T (is_linear v n) → linear_entry t r v ≡ n
  linear_is v n h = last_is (linear_under (curve_of t) r v) (linear_entry t r v) (λ n. linear_means t r v n h) n

  pub gamma_is : (i k : ℕ) → i < 65536 → T (is_gamma i k) → gamma_entry t r i ≡ k
  gamma_is i k h = last_is (gamma_under (curve_of t) r i) (gamma_entry t r i) (λ k. gamma_means t r i k h) k

module _ (c : Curve) (r : TableRounding) where
  -- the fraction of k is not above the inverse at s, and is above it before; and it is one that the inverse does not fall below again
  abbrev pub is_first : ℕ → ℕ → Bool
  is_first k s = steady c (place r 255 k) && gamma_under c r s k && fails_before (λ i. gamma_under c r i k) s

  FirstIndices-of :
      (entry : ℕ → ℕ) → ((i k : ℕ) → i < 65536 → T (gamma_under c r i k) ↔ k ≤ entry i) →
      (l : List ℕ) → length l ≡ 256 → T (every is_first l) → FirstIndices entry l
  FirstIndices-of entry means l size test = record {
    from = λ k i h b g. (means i k b).0 (up k h (get_or l k 0) i g (parts k h).1);
    before = λ k i h b g. go k i b (fails_before_lem (λ i. gamma_under c r i k) (up k h) (get_or l k 0) i (parts k h).2 g) (dec_lt (entry i) k);
  }
    where
      parts : (k : ℕ) → k < 256 → T (steady c (place r 255 k)) × T (gamma_under c r (get_or l k 0) k) × T (fails_before (λ i. gamma_under c r i k) (get_or l k 0))
      parts k h =
          three (steady c (place r 255 k)) (gamma_under c r (get_or l k 0) k) (fails_before (λ i. gamma_under c r i k) (get_or l k 0))
          (every_at is_first l test k (omega arith))

      up : (k : ℕ) → k < 256 → (i j : ℕ) → i ≤ j → T (gamma_under c r i k) → T (gamma_under c r j k)
      up k h = inverse_rises c (place r 255 k) (parts k h).0

      go : (k i : ℕ) → i < 65536 → (T (gamma_under c r i k) → ⊥) → Dec (entry i < k) → entry i < k
      go k i b f (yes h) = h
      go k i b f (no h) = absurd (f ((means i k b).1 (omega arith)))

module _ {u t : SharpYuvGammaTransfer} (e : u ≡ t) {q r : TableRounding} (d : q ≡ r) {l : List ℕ} (size : length l ≡ 256) where
  pub linear_table : T (every (is_linear t r) l) → TableOf 256 (linear_entry u q) l
  linear_table test = rw (e, d) (record { size = size; at = λ v h. sym (linear_is t r v (get_or l v 0) h (every_at (is_linear t r) l test v (omega arith))) })

  pub first_indices : T (every (is_first (curve_of t) r) l) → FirstIndices (gamma_entry u q) l
  first_indices test = rw (e, d) (FirstIndices-of (curve_of t) r (gamma_entry t r) (gamma_means t r) l size test)
