-- Rows that were painted where they stand in a plane, one or two in a part: the plane with them written.
-- Assumes nothing.
use Prim.Native.Nat.{ℕ, ◌+◌, ◌*◌, ◌-◌, ◌/◌, ◌%◌, ◌≤◌, ◌<◌}
use mathlib.Core.Path.{◌≡◌, ap, sym, ◌∙◌, subst}
use mathlib.Core.Bool.{Bool, true, false}
use mathlib.Core.List.{List}
use native.Mathlib.Nat.{add-mul, one-mul, div-add-mod'}
use native.Mathlib.Omega.{arith}
use borrow.Rule.Slice.PartMut.{put_mid, same_len_mid}
use lib.ListN.{length, get_or, take, drop, length-drop}
use lib.Seq.{length-take-le}
use Rattle.definitions.specs.Painted.{Painted}
use Rattle.definitions.specs.Plane.{written, PlaneIs}
use Rattle.definitions.proofs.Parts.{part_before, part_in, part_after, part_was}
use Rattle.definitions.proofs.Planes.{Inside, inside?, below?, byte_of, row_of, row_written}
use Rattle.pixel_pairs.specs.Rows.{TwoPainted}
use Rattle.band_steps.specs.Steps.{PlaneAt}

-- painted rows, by equal functions
pub Painted-as : {n : ℕ} {f g : ℕ → ℕ} {d e : List ℕ} → f ≡ g → Painted n f d e → Painted n g d e
Painted-as {n} {d = d} {e = e} h p = subst (λ (f : ℕ → ℕ). Painted n f d e) h p

pub two_as : {upper lower n : ℕ} {f f' g g' : ℕ → ℕ} {d e : List ℕ} → f ≡ f' → g ≡ g' → TwoPainted upper lower n f g d e → TwoPainted upper lower n f' g' d e
two_as {upper} {lower} {n} {f} {f'} {g} {g'} {d} {e} h k p = subst (λ (g : ℕ → ℕ). TwoPainted upper lower n f' g d e) k
    (subst (λ (f : ℕ → ℕ). TwoPainted upper lower n f g d e) h p)

-- two rows that were painted while they were lent in one part, which starts at `at`
pub two_part : (at k lower n : ℕ) {f g : ℕ → ℕ} {e part : List ℕ} → at + k ≤ length e → lower + n ≤ k → n ≤ lower
    → TwoPainted 0 lower n f g (take k (drop at e)) part
    → TwoPainted at (at + lower) n f g e (put_mid at k e part)
two_part at k lower n {f} {g} {e} {part} inside fits apart rows = record {
  size = same_len_mid at k e part rows.size;
  in_upper = in_upper;
  in_lower = in_lower;
  other = other;
}
  where
    size : length part ≡ k
    size = rows.size ∙ length-take-le k (drop at e) (simp length-drop (omega arith))

    in_upper : (j : ℕ) → j < n → get_or (put_mid at k e part) (at + j) 0 ≡ f j
    in_upper j h =
        let here : 0 + j ≡ j = omega arith in
        part_in at k e part inside size j (omega arith) ∙ subst (λ (p : ℕ). get_or part p 0 ≡ f j) here (rows.in_upper j h)

    in_lower : (j : ℕ) → j < n → get_or (put_mid at k e part) (at + lower + j) 0 ≡ g j
    in_lower j h =
        let there : at + (lower + j) ≡ at + lower + j = omega arith in
        subst (λ (p : ℕ). get_or (put_mid at k e part) p 0 ≡ g j) there (part_in at k e part inside size (lower + j) (omega arith) ∙ rows.in_lower j h)

    -- byte q of the part, as it was
    was : (q : ℕ) → q < k → (at ≤ at + q → at + q < at + n → ⊥) → (at + lower ≤ at + q → at + q < at + lower + n → ⊥)
        → get_or (put_mid at k e part) (at + q) 0 ≡ get_or e (at + q) 0
    was q h a b =
        part_in at k e part inside size q h ∙ rows.other q (λ x y. a (omega arith) (omega arith)) (λ x y. b (omega arith) (omega arith))
        ∙ part_was at k e q h

    other : (p : ℕ) → (at ≤ p → p < at + n → ⊥) → (at + lower ≤ p → p < at + lower + n → ⊥) → get_or (put_mid at k e part) p 0 ≡ get_or e p 0
    other p a b =
        below? p at (part_before at k e part inside size p)
        (λ l. below? p (at + k)
        (λ m. let there : at + (p - at) ≡ p = omega arith in
        subst (λ (p : ℕ). get_or (put_mid at k e part) p 0 ≡ get_or e p 0) there
        (was (p - at) (omega arith) (λ x y. a (omega arith) (omega arith)) (λ x y. b (omega arith) (omega arith))))
        (λ m. let there : at + (k + (p - (at + k))) ≡ p = omega arith in
        subst (λ (p : ℕ). get_or (put_mid at k e part) p 0 ≡ get_or e p 0) there (part_after at k e part inside size (p - (at + k)))))

-- two rows that were painted where they stand: the plane with both written
pub rows_written : (i stride n upper lower : ℕ) (f : ℕ → ℕ → ℕ) (e e' : List ℕ) → upper ≡ i * stride → lower ≡ upper + stride → n ≤ stride
    → TwoPainted upper lower n (f i) (f (i + 1)) e e' → PlaneIs i (i + 2) stride n f e e'
rows_written i stride n upper lower f e e' first second wide rows = record { size = rows.size; byte = λ p. inside? i (i + 2) stride n p (new p) (old p) }
  where
    third : lower ≡ (i + 1) * stride
    third = omega (arith, add-mul i 1 stride, one-mul stride)

    -- byte p of row r, where the row starts at `at`
    byte : (r at p : ℕ) → at ≡ r * stride → p / stride ≡ r → get_or e' (at + p % stride) 0 ≡ f r (p % stride) → get_or e' p 0 ≡ f (p / stride) (p % stride)
    byte r at p place is h =
        let there : at + p % stride ≡ p = ap (λ (x : ℕ). x + p % stride) (place ∙ ap (λ (x : ℕ). x * stride) (sym is)) ∙ div-add-mod' p stride in
        subst (λ (x : ℕ). get_or e' x 0 ≡ f r (p % stride)) there h ∙ ap (λ (x : ℕ). f x (p % stride)) (sym is)

    new : (p : ℕ) → Inside i (i + 2) stride n p → written i (i + 2) stride n p ≡ true
        → get_or e' p 0 ≡ byte_of stride f p (written i (i + 2) stride n p) (get_or e p 0)
    new p h w =
        below? (p / stride) (i + 1)
        (λ l. byte i upper p first (omega arith) (rows.in_upper (p % stride) h.column))
        (λ l. byte (i + 1) lower p third (omega arith) (rows.in_lower (p % stride) h.column))
        ∙ sym (ap (λ (b : Bool). byte_of stride f p b (get_or e p 0)) w)

    -- a byte among the first n of row r is inside
    in_row : (r at p : ℕ) → at ≡ r * stride → i ≤ r → r < i + 2 → at ≤ p → p < at + n → Inside i (i + 2) stride n p
    in_row r at p place least most a b =
        let q = p - at in
        let there : at + q ≡ p = omega arith in
        let w = row_of r stride q p (omega arith) (ap (λ (x : ℕ). x + q) (sym place) ∙ there) in
        record { row_least = omega arith; row_most = omega arith; column = omega arith }

    old : (p : ℕ) → (Inside i (i + 2) stride n p → ⊥) → written i (i + 2) stride n p ≡ false
        → get_or e' p 0 ≡ byte_of stride f p (written i (i + 2) stride n p) (get_or e p 0)
    old p out w =
        rows.other p (λ a b. out (in_row i upper p first (omega arith) (omega arith) a b))
        (λ a b. out (in_row (i + 1) lower p third (omega arith) (omega arith) a b))
        ∙ sym (ap (λ (b : Bool). byte_of stride f p b (get_or e p 0)) w)

-- one row, lent from `at` on
pub part_written : {stride n k at lent : ℕ} (f : ℕ → ℕ → ℕ) {plane part : List ℕ} → PlaneAt stride n k at lent (length plane)
    → Painted n (f k) (take (at + lent - at) (drop at plane)) part → PlaneIs k (k + 1) stride n f plane (put_mid at (at + lent - at) plane part)
part_written {stride} {n} {k} {at} {lent} f {plane} {part} p row =
    row_written k stride n (at + lent - at) at f plane part p.place (omega (arith, p.size)) (omega (arith, p.size, p.row)) (omega (arith, p.room)) row
