-- The pair that is told is the first that differs: by the pairs, one after the other. Assumes nothing.
use Prim.Native.Nat.{◌≤◌}
use mathlib.Core.Path.{◌≡◌, refl, sym, ◌∙◌, ap}
use mathlib.Core.Bool.{Bool, true, false, not, true≢false}
use mathlib.Core.List.{List, [], ◌∷◌, ◌++◌}
use native.Mathlib.Omega.{arith}
use Rattle.merge_sort.specs.Order.{one, count, All}
use Rattle.std.proofs.Common.{Option, Some, None}
use Rattle.std.specs.Option.{is_none}
use Rattle.record_difference.specs.declared.Difference.{Difference}
use Rattle.shift_pairs.specs.declared.DifferingPair.{DifferingPair}
use Rattle.shift_pairs.specs.Pairs.{Files, Pair, all_pairs}
use Rattle.shift_pairs.specs.Report.{difference_of, is_equal, with_difference, told, first_differing, differing_pairs, report_of}
use Rattle.shift_pairs.specs.Means.{FirstPair, FirstOrNone}

-- no difference, by its test
is_none_lem : (d : Option Difference) → is_none d ≡ true → d ≡ None
is_none_lem None e = refl
is_none_lem (Some d) e = let z : false ≡ true = e in cc

-- a pair that differs is told
some_told : (f : Files) (p : Pair) (d : Option Difference) → (d ≡ None → ⊥) → (x : DifferingPair) × (with_difference f p d ≡ Some x)
some_told f p None h = absurd (h refl)
some_told f p (Some d) h = (_, refl)

module _ (f : Files) where
  -- the first of these pairs that differs, and the pairs before it
  record First (ps : List Pair) : Type 0 where
    before : List Pair
    pair : Pair
    after : List Pair
    in_order : before ++ pair ∷ after ≡ ps
    equal : All (λ p. difference_of f p ≡ None) before
    differs : difference_of f pair ≡ None → ⊥
    is_told : first_differing f ps ≡ told f pair

  -- an equal pair leaves it to the later ones
  from_later : (p : Pair) (ps : List Pair) → is_equal f p ≡ true → first_differing f (p ∷ ps) ≡ first_differing f ps
  unfolding first_differing
  from_later p ps e = rw e

  from_here : (p : Pair) (ps : List Pair) → is_equal f p ≡ false → first_differing f (p ∷ ps) ≡ told f p
  unfolding first_differing
  from_here p ps e = rw e

  First-of : (ps : List Pair) → 1 ≤ differing_pairs f ps → First ps
  unfolding count All
  First-of [] h = absurd (omega arith)
  First-of (p ∷ ps) h = at (λ l. First-of ps l) (is_equal f p) refl
    where
      at : (1 ≤ differing_pairs f ps → First ps) → (t : Bool) → is_equal f p ≡ t → First (p ∷ ps)
      at later true e =
          let rest = later (omega (arith, ap (λ (b : Bool). one (not b)) e)) in
          record {
            before = p ∷ rest.before;
            pair = rest.pair;
            after = rest.after;
            in_order = ap (λ (l : List Pair). p ∷ l) rest.in_order;
            equal = (is_none_lem (difference_of f p) e, rest.equal);
            differs = rest.differs;
            is_told = from_later p ps e ∙ rest.is_told;
          }
      at later false e = record {
        before = [];
        pair = p;
        after = ps;
        in_order = refl;
        equal = tt;
        differs = λ same. true≢false (sym (ap is_none same) ∙ e);
        is_told = from_here p ps e;
      }

  none_of : (ps : List Pair) → differing_pairs f ps ≡ 0 → All (λ p. difference_of f p ≡ None) ps × (first_differing f ps ≡ None)
  unfolding count All first_differing
  none_of [] h = (tt, refl)
  none_of (p ∷ ps) h = at (λ l. none_of ps l) (is_equal f p) refl
    where
      at : (differing_pairs f ps ≡ 0 → All (λ q. difference_of f q ≡ None) ps × (first_differing f ps ≡ None)) → (t : Bool) → is_equal f p ≡ t
          → ((difference_of f p ≡ None) × All (λ q. difference_of f q ≡ None) ps) × (first_differing f (p ∷ ps) ≡ None)
      at later true e =
          let rest = later (omega (arith, ap (λ (b : Bool). one (not b)) e)) in
          ((is_none_lem (difference_of f p) e, rest.0), from_later p ps e ∙ rest.1)
      at later false e = absurd (omega (arith, ap (λ (b : Bool). one (not b)) e))

  pair_told : First (all_pairs f) → (d : Option DifferingPair) → d ≡ first_differing f (all_pairs f) → (x : DifferingPair) × (d ≡ Some x) × FirstPair f x
  pair_told x d e =
      let some = some_told f x.pair (difference_of f x.pair) x.differs in (
        some.0,
        e ∙ x.is_told ∙ some.1,
        record {
          before = x.before;
          pair = x.pair;
          after = x.after;
          in_order = x.in_order;
          equal = x.equal;
          differs = x.differs;
          is_told = sym some.1;
        },
      )

pub first_or_none : FirstOrNone
unfolding report_of
first_or_none f = record {
  first = λ h. pair_told f (First-of f (all_pairs f) h) _ refl;
  none = λ h. none_of f (all_pairs f) h;
}
