-- The tally of one pair more: a count grows by one, and the first pair that differs is the first of the pairs before it, or this one.
-- Assumes nothing.
use Prim.Native.Nat.{ℕ, ◌+◌}
use mathlib.Core.Path.{◌≡◌, refl, sym, ◌∙◌, ap}
use mathlib.Core.Bool.{Bool, true, false, cond, not}
use mathlib.Core.List.{List, [], ◌∷◌, ◌++◌}
use native.Mathlib.Omega.{arith}
use borrow.Author.Tests.{eq-eqb, ne_eqb}
use lib.Dec.{eqb}
use Rattle.std.proofs.Common.{Option}
use Rattle.merge_sort.specs.Order.{one, count}
use Rattle.merge_sort.proofs.Permuted.{count-append}
use Rattle.shift_pairs.specs.declared.DifferingPair.{DifferingPair}
use Rattle.shift_pairs.specs.declared.Tally.{Tally}
use Rattle.shift_pairs.specs.Pairs.{Files, Pair}
use Rattle.shift_pairs.specs.Report.{is_equal, told, first_differing, equal_pairs, differing_pairs}
use Rattle.shift_pairs.specs.Known.{tally_of, OneMore}

module _ (f : Files) where
  -- the first of two runs of pairs that has one
  first_append : (a b : List Pair) → first_differing f (a ++ b) ≡ cond (eqb (differing_pairs f a) 0) (first_differing f b) (first_differing f a)
  unfolding first_differing count
  first_append [] b = refl
  first_append (p ∷ a) b = at (first_append a b) (is_equal f p)
    where
      at : first_differing f (a ++ b) ≡ cond (eqb (differing_pairs f a) 0) (first_differing f b) (first_differing f a) → (t : Bool)
          → cond t (first_differing f (a ++ b)) (told f p)
          ≡ cond (eqb (one (not t) + differing_pairs f a) 0) (first_differing f b) (cond t (first_differing f a) (told f p))
      at later true = let none : 0 + differing_pairs f a ≡ differing_pairs f a = omega arith in rw none later
      at later false = rw (ne_eqb (1 + differing_pairs f a) 0 (λ e. omega arith))

  module _ (p : Pair) where
    counted : (q : Pair → Bool) (done : List Pair) → count q (done ++ p ∷ []) ≡ count q done + one (q p)
    unfolding count
    counted q done = count-append q done (p ∷ []) ∙ omega arith

    -- an equal pair changes nothing; one that differs is the first where there was none
    first_equal : is_equal f p ≡ true → (done : List Pair) → first_differing f (done ++ p ∷ []) ≡ first_differing f done
    unfolding first_differing
    first_equal e [] = rw e
    first_equal e (q ∷ done) = ap (λ (d : Option DifferingPair). cond (is_equal f q) d (told f q)) (first_equal e done)

    first_kept : (done : List Pair) → (differing_pairs f done ≡ 0 → ⊥) → first_differing f (done ++ p ∷ []) ≡ first_differing f done
    first_kept done h = rw (first_append done (p ∷ []), ne_eqb (differing_pairs f done) 0 h)

    first_new : is_equal f p ≡ false → (done : List Pair) → differing_pairs f done ≡ 0 → first_differing f (done ++ p ∷ []) ≡ told f p
    unfolding first_differing
    first_new e done h = rw (first_append done (p ∷ []), eq-eqb (differing_pairs f done) 0 h, e)

    module _ (t : Tally) where
      -- the three ways to go on
      tally_path : (done : List Pair) (n m : ℕ) (d : Option DifferingPair) → n ≡ equal_pairs f (done ++ p ∷ []) → m ≡ differing_pairs f (done ++ p ∷ [])
          → d ≡ first_differing f (done ++ p ∷ []) → ◌≡◌ {A = Tally} (record { equal = n; differing = m; first = d }) (tally_of f (done ++ p ∷ []))
      unfolding tally_of
      tally_path done n m d en em ed = λ i. record { equal = en i; differing = em i; first = ed i }

      module _ (done : List Pair) (e : t ≡ tally_of f done) where
        equal_is : t.equal ≡ equal_pairs f done
        unfolding tally_of
        equal_is = ap (λ (x : Tally). x.equal) e

        differing_is : t.differing ≡ differing_pairs f done
        unfolding tally_of
        differing_is = ap (λ (x : Tally). x.differing) e

        first_is : t.first ≡ first_differing f done
        unfolding tally_of
        first_is = ap (λ (x : Tally). x.first) e

        equal_more : (b : Bool) → is_equal f p ≡ b → t.equal + one b ≡ equal_pairs f (done ++ p ∷ [])
        equal_more b s = omega (arith, equal_is, counted (is_equal f) done, ap one s)

        differing_more : (b : Bool) → is_equal f p ≡ b → t.differing + one (not b) ≡ differing_pairs f (done ++ p ∷ [])
        differing_more b s = omega (arith, differing_is, counted (λ q. not (is_equal f q)) done, ap (λ (x : Bool). one (not x)) s)

      pub more_equal : is_equal f p ≡ true → OneMore f p t (record { equal = t.equal + 1; differing = t.differing; first = t.first })
      more_equal s = record {
        tallied = λ done e.
            tally_path done _ _ _ (equal_more done e true s) (sym (omega arith) ∙ differing_more done e true s) (first_is done e ∙ sym (first_equal s done));
      }

      pub more_differing : is_equal f p ≡ false → (t.differing ≡ 0 → ⊥)
          → OneMore f p t (record { equal = t.equal; differing = t.differing + 1; first = t.first })
      more_differing s h = record {
        tallied = λ done e.
            tally_path done _ _ _ (sym (omega arith) ∙ equal_more done e false s) (differing_more done e false s)
            (first_is done e ∙ sym (first_kept done (λ z. h (differing_is done e ∙ z))));
      }

      pub first_differing_lem : is_equal f p ≡ false → t.differing ≡ 0 → (d : Option DifferingPair) → d ≡ told f p
          → OneMore f p t (record { equal = t.equal; differing = t.differing + 1; first = d })
      first_differing_lem s h d is = record {
        tallied = λ done e.
            tally_path done _ _ _ (sym (omega arith) ∙ equal_more done e false s) (differing_more done e false s)
            (is ∙ sym (first_new s done (sym (differing_is done e) ∙ h)));
      }
