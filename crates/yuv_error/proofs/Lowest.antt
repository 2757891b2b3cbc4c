-- The first rule that holds has the lowest number whose condition holds, where the rules stand in order: no number before a list's first has
-- a condition in the list, so what follows the first rule that holds has none before it. Assumes nothing.
use Prim.Native.Nat.{ℕ, suc, ◌≤◌, ◌<◌}
use mathlib.Core.Bool.{Bool, true, false, cond, ◌&&◌, and-eq-true_iff, and-false, false≢true}
use mathlib.Core.List.{List, [], ◌∷◌}
use mathlib.Core.Logic.{◌⊎◌, inl, inr}
use mathlib.Core.Path.{◌≡◌, refl, sym, ap, ◌∙◌}
use native.Mathlib.Nat.{lt_of_lt_of_le}
use native.Mathlib.Omega.{arith}
use lib.Dec.{leb, ltb, eqb}
use lib.ListN.{length}
use borrow.Author.Tests.{leb-true, ltb-true, eq-eqb, ne_eqb, eqb-true}
use Rattle.yuv_error.specs.Numbers.{Numbers}
use Rattle.yuv_error.specs.Rules.{Rule, first_numbers}
use Rattle.yuv_error.specs.Order.{order, place_in, rank}
use Rattle.yuv_error.specs.Lowest.{condition_holds, of_number, in_order, IsLowest, NoneHolds, Lowest, FirstIsLowest}

-- two numbers of one place are equal
one_place : (ms : List ℕ) (m n : ℕ) → place_in ms m ≡ place_in ms n → place_in ms m < length ms → m ≡ n
one_place [] m n e l = absurd (omega arith)
one_place (a ∷ ms) m n e l = go (eqb a m) (eqb a n) refl refl (one_place ms m n) e l
  where
    go : (b c : Bool) → eqb a m ≡ b → eqb a n ≡ c → (place_in ms m ≡ place_in ms n → place_in ms m < length ms → m ≡ n)
        → cond b 0 (suc (place_in ms m)) ≡ cond c 0 (suc (place_in ms n))
        → cond b 0 (suc (place_in ms m)) < suc (length ms) → m ≡ n
    go true true p q later e l = sym (eqb-true a m p) ∙ eqb-true a n q
    go true false p q later e l = absurd (omega arith)
    go false true p q later e l = absurd (omega arith)
    go false false p q later e l = later (omega arith) (omega arith)

-- the first rule's place is k or later, it is a place, and the others follow from it
in_order-cons : (k : ℕ) (r : Rule) (rs : List Rule) → in_order k (r ∷ rs) ≡ true
    → (k ≤ rank r.says.number) × (rank r.says.number < length order) × (in_order (rank r.says.number) rs ≡ true)
in_order-cons k r rs up =
    let place = rank r.says.number in
    let t = (and-eq-true_iff (leb k place) (ltb place (length order) && in_order place rs)).0 up in
    let z = (and-eq-true_iff (ltb place (length order)) (in_order place rs)).0 t.1 in
    (leb-true k place t.0, ltb-true place (length order) z.0, z.1)

-- a number is not one that stands elsewhere
elsewhere : (m n : ℕ) → rank m < rank n → eqb n m ≡ false
elsewhere m n l = ne_eqb n m λ e. less (rank m) (rank n) l (ap rank e)
  where
    less : (p q : ℕ) → p < q → q ≡ p → ⊥
    less p q l e = omega arith

below : (k : ℕ) (rs : List Rule) → in_order k rs ≡ true → (m : ℕ) → rank m < k → condition_holds rs m ≡ false
below k [] up m l = refl
below k (r ∷ rs) up m l =
    let t = in_order-cons k r rs up in
    let later : rank m < rank r.says.number = lt_of_lt_of_le l t.0 in
    rw (elsewhere m r.says.number later) (below (rank r.says.number) rs t.2 m later)

-- a rule that does not hold changes no condition
passed : (r : Rule) (rs : List Rule) → r.holds ≡ false → (n : ℕ) → condition_holds (r ∷ rs) n ≡ condition_holds rs n
passed r rs h n = rw (h, and-false)

-- either x has the lowest number, which is a refusal's, or no condition holds
abbrev Cases : List Rule → Numbers → Type 0
Cases rs x = ((rank x.number < length order) × IsLowest rs x.number) ⊎ ((x.number ≡ 0) × NoneHolds rs)

cases_step : (k : ℕ) (b : Bool) (r : Rule) (rs : List Rule) → r.holds ≡ b → in_order k (r ∷ rs) ≡ true → Cases rs (first_numbers rs)
    → Cases (r ∷ rs) (cond b r.says (first_numbers rs))
cases_step k true r rs h up old =
    let t = in_order-cons k r rs up in
    let n = r.says.number in
    inl (t.1, (rw (h, eq-eqb n n refl), λ m l. rw (elsewhere m n l) (below (rank n) rs t.2 m l)))
cases_step k false r rs h up (inl old) =
    inl (old.0, (passed r rs h (first_numbers rs).number ∙ old.1.0, λ m l. passed r rs h m ∙ old.1.1 m l))
cases_step k false r rs h up (inr old) = inr (old.0, λ n. passed r rs h n ∙ old.1 n)

cases : (k : ℕ) (rs : List Rule) → in_order k rs ≡ true → Cases rs (first_numbers rs)
cases k [] up = inr (refl, λ n. refl)
cases k (r ∷ rs) up = cases_step k r.holds r rs refl up (cases (rank r.says.number) rs (in_order-cons k r rs up).2)

skipped : (b : Bool) (r : Rule) (rs : List Rule) → r.holds ≡ false → first_numbers rs ≡ first_numbers (cond b (r ∷ rs) rs)
skipped true r rs h = rw h
skipped false r rs h = refl

sizes_step : (b : Bool) (r : Rule) (rs : List Rule) → r.holds ≡ b → first_numbers rs ≡ first_numbers (of_number (first_numbers rs).number rs)
    → cond b r.says (first_numbers rs) ≡ first_numbers (of_number (cond b r.says (first_numbers rs)).number (r ∷ rs))
sizes_step true r rs h old = rw (eq-eqb r.says.number r.says.number refl, h)
sizes_step false r rs h old = old ∙ skipped (eqb r.says.number (first_numbers rs).number) r (of_number (first_numbers rs).number rs) h

-- whatever the order of the rules
sizes : (rs : List Rule) → first_numbers rs ≡ first_numbers (of_number (first_numbers rs).number rs)
sizes [] = refl
sizes (r ∷ rs) = sizes_step r.holds r rs refl (sizes rs)

-- there is one lowest number at most, and none where no condition holds
not_below : (rs : List Rule) (m n : ℕ) → IsLowest rs m → IsLowest rs n → rank m < rank n → ⊥
not_below rs m n a b l = false≢true (sym (b.1 m l) ∙ a.0)

one : (rs : List Rule) (m n : ℕ) → rank m < length order → IsLowest rs m → IsLowest rs n → m ≡ n
one rs m n place a b = one_place order m n (equal (rank m) (rank n) (not_below rs m n a b) (not_below rs n m b a)) place
  where
    equal : (p q : ℕ) → (p < q → ⊥) → (q < p → ⊥) → p ≡ q
    equal p q f g = omega arith

never : (rs : List Rule) (n : ℕ) → IsLowest rs n → NoneHolds rs → ⊥
never rs n a none = false≢true (sym (none n) ∙ a.0)

-- finished work's number is no refusal's
no_rank : (n : ℕ) → rank n < length order → n ≡ 0 → ⊥
no_rank n l e = let z : rank 0 < length order = rw e at l in omega arith

lowest : (rs : List Rule) → Cases rs (first_numbers rs) → Lowest rs (first_numbers rs)
lowest rs (inl c) = record {
  refused = λ n some. (λ e. rw e at c.1, λ l. one rs (first_numbers rs).number n c.0 c.1 l);
  finished = (λ e. absurd (no_rank (first_numbers rs).number c.0 e), λ none. absurd (never rs (first_numbers rs).number c.1 none));
  sizes = sizes rs;
}
lowest rs (inr c) = record {
  refused = λ n some. (λ e. absurd (omega arith), λ l. absurd (never rs n l c.1));
  finished = (λ e. c.1, λ none. c.0);
  sizes = sizes rs;
}

-- a number of the order is not 0
some_number : (n : ℕ) → rank n < length order → 1 ≤ n
some_number n l = let z : n ≡ 0 → ⊥ = no_rank n l in omega arith

same_number : (rs : List Rule) (x : Numbers) → Cases rs (first_numbers rs) → Lowest rs x → x.number ≡ (first_numbers rs).number
same_number rs x (inl c) l = (l.refused (first_numbers rs).number (some_number _ c.0)).1 c.1
same_number rs x (inr c) l = l.finished.1 c.1 ∙ sym c.0

only : (rs : List Rule) (x : Numbers) → Cases rs (first_numbers rs) → Lowest rs x → x ≡ first_numbers rs
only rs x c l = l.sizes ∙ ap (λ (n : ℕ). first_numbers (of_number n rs)) (same_number rs x c l) ∙ sym (sizes rs)

pub first_is_lowest : FirstIsLowest
first_is_lowest rs x up = (λ e. rw e (lowest rs (cases 0 rs up)), only rs x (cases 0 rs up))
