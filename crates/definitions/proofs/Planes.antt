-- Planes are put together row by row: a row that was written is a plane with one row written, and two runs of rows join.
-- Assumes nothing.
use Prim.Native.Nat.{ℕ, ◌+◌, ◌*◌, ◌-◌, ◌/◌, ◌%◌, ◌≤◌, ◌<◌}
use mathlib.Core.Path.{◌≡◌, refl, sym, ◌∙◌, ap, subst}
use mathlib.Core.Bool.{Bool, true, false, cond}
use mathlib.Core.List.{List}
use native.Mathlib.Nat.{mul-add-mod_self_right, mod-eq_of_lt, div-eq_of_lt-le, div-add-mod', add-mul, one-mul}
use native.Mathlib.Omega.{arith}
use native.Mathlib.Decide.{dec_lt}
use borrow.Author.Tests.{ltb-true, ltb-false, lt-ltb, le-ltb, leb-true, leb-false, eqb-true, eqb-false}
use borrow.Rule.Slice.PartMut.{put_mid, same_len_mid}
use lib.Dec.{ltb, leb, eqb}
use lib.ListN.{length, get_or, take, drop, length-take, length-drop}
use lib.Seq.{get_or-take, get_or-drop, ext_get_or}
use Rattle.definitions.specs.Painted.{Painted}
use Rattle.definitions.specs.Plane.{written, PlaneIs, RowsEqual}
use Rattle.definitions.proofs.Parts.{part_before, part_in, part_after}

pub below? : {P : Type 0} (a b : ℕ) → (a < b → P) → (b ≤ a → P) → P
below? a b f g = elim (dec_lt a b) [ yes h ↦ f h | no h ↦ g (omega arith) ]

pub equal? : {P : Type 0} (a b : ℕ) → (a ≡ b → P) → ((a ≡ b → ⊥) → P) → P
equal? {P} a b f g = go (eqb a b) refl
  where
    go : (t : Bool) → eqb a b ≡ t → P
    go true e = f (eqb-true a b e)
    go false e = g (eqb-false a b e)

-- ---- which bytes are written

pub record Inside (from to stride n p : ℕ) : Type 0 where
  pub row_least : from ≤ p / stride
  pub row_most : p / stride < to
  pub column : p % stride < n

module _ (from to stride n p : ℕ) where
  -- a byte is inside or not, and `written` says which
  pub inside? : {X : Type 0} → (Inside from to stride n p → written from to stride n p ≡ true → X)
      → ((Inside from to stride n p → ⊥) → written from to stride n p ≡ false → X) → X
  unfolding written
  inside? {X} f g = go (leb from (p / stride)) (ltb (p / stride) to) (ltb (p % stride) n) refl refl refl
    where
      go : (x y z : Bool) → leb from (p / stride) ≡ x → ltb (p / stride) to ≡ y → ltb (p % stride) n ≡ z → X
      go true true true a b c = f (record { row_least = leb-true _ _ a; row_most = ltb-true _ _ b; column = ltb-true _ _ c }) (simp (a, b, c))
      go true true false a b c = g (λ i. omega (arith, ltb-false (p % stride) n c)) (simp (a, b, c))
      go true false z a b c = g (λ i. omega (arith, ltb-false (p / stride) to b)) (simp (a, b))
      go false y z a b c = g (λ i. omega (arith, leb-false from (p / stride) a)) (simp a)

  pub written_in : Inside from to stride n p → written from to stride n p ≡ true
  written_in h = inside? (λ i e. e) (λ o e. absurd (o h))

  pub written_out : (Inside from to stride n p → ⊥) → written from to stride n p ≡ false
  written_out o = inside? (λ i e. absurd (o i)) (λ _ e. e)

-- ---- one row

-- where byte p stands, if it is byte q of row i
pub row_of : (i stride q p : ℕ) → q < stride → i * stride + q ≡ p → (p / stride ≡ i) × (p % stride ≡ q)
row_of i stride q p h e =
    subst (λ (p : ℕ). (p / stride ≡ i) × (p % stride ≡ q)) e (
      div-eq_of_lt-le stride {m = i * stride + q} (omega arith) (omega (arith, add-mul i 1 stride, one-mul stride)),
      mul-add-mod_self_right i stride q ∙ mod-eq_of_lt {n = q} {m = stride} h,
    )

-- a row whose first k bytes were lent and came back with n of them painted: the plane with that row written
pub row_written : (i stride n k at : ℕ) (f : ℕ → ℕ → ℕ) (e part : List ℕ) → at ≡ i * stride → n ≤ k → k ≤ stride → at + k ≤ length e
    → Painted n (f i) (take k (drop at e)) part → PlaneIs i (i + 1) stride n f e (put_mid at k e part)
row_written i stride n k at f e part place nk ks room row =
    record { size = same_len_mid at k e part row.size; byte = λ p. inside? i (i + 1) stride n p (new p) (old p) }
  where
    size : length part ≡ k
    size = row.size ∙ length-take k (drop at e) ∙ omega (arith, length-drop at e)

    -- byte q of the part, as the row converter left it
    within : (q : ℕ) → q < k → get_or (put_mid at k e part) (at + q) 0 ≡ cond (ltb q n) (f i q) (get_or e (at + q) 0)
    within q h =
        part_in at k e part room size q h ∙ row.byte q
        ∙ ap (λ (b : ℕ). cond (ltb q n) (f i q) b) (get_or-take k (drop at e) q 0 h ∙ get_or-drop at e q 0)

    new : (p : ℕ) → Inside i (i + 1) stride n p → written i (i + 1) stride n p ≡ true
        → get_or (put_mid at k e part) p 0 ≡ cond (written i (i + 1) stride n p) (f (p / stride) (p % stride)) (get_or e p 0)
    new p h w =
        let r : p / stride ≡ i = omega arith in
        let there : at + p % stride ≡ p = ap (λ (x : ℕ). x + p % stride) (place ∙ ap (λ (x : ℕ). x * stride) (sym r)) ∙ div-add-mod' p stride in
        subst (λ (x : ℕ). get_or (put_mid at k e part) x 0 ≡ cond (ltb (p % stride) n) (f i (p % stride)) (get_or e x 0)) there (within (p % stride) (omega arith))
        ∙ ap (λ (b : Bool). cond b (f i (p % stride)) (get_or e p 0)) (lt-ltb (p % stride) n h.column ∙ sym w)
        ∙ ap (λ (x : ℕ). cond (written i (i + 1) stride n p) (f x (p % stride)) (get_or e p 0)) (sym r)

    same : (p : ℕ) → (Inside i (i + 1) stride n p → ⊥) → get_or (put_mid at k e part) p 0 ≡ get_or e p 0
    same p out = below? p at (part_before at k e part room size p) (λ a. below? p (at + k) (middle p out a) (after p))
      where
        middle : (p : ℕ) → (Inside i (i + 1) stride n p → ⊥) → at ≤ p → p < at + k → get_or (put_mid at k e part) p 0 ≡ get_or e p 0
        middle p out a b =
            let q = p - at in
            let there : at + q ≡ p = omega arith in
            let w = row_of i stride q p (omega arith) (ap (λ (x : ℕ). x + q) (sym place) ∙ there) in
            let past : n ≤ q = below? q n (λ c. absurd (out (record { row_least = omega arith; row_most = omega arith; column = omega arith }))) (λ c. c) in
            subst (λ (x : ℕ). get_or (put_mid at k e part) x 0 ≡ get_or e x 0) there
            (within q (omega arith) ∙ ap (λ (b : Bool). cond b (f i q) (get_or e (at + q) 0)) (le-ltb q n past))

        after : (p : ℕ) → at + k ≤ p → get_or (put_mid at k e part) p 0 ≡ get_or e p 0
        after p b =
            let there : at + (k + (p - (at + k))) ≡ p = omega arith in
            subst (λ (x : ℕ). get_or (put_mid at k e part) x 0 ≡ get_or e x 0) there (part_after at k e part room size (p - (at + k)))

    old : (p : ℕ) → (Inside i (i + 1) stride n p → ⊥) → written i (i + 1) stride n p ≡ false
        → get_or (put_mid at k e part) p 0 ≡ cond (written i (i + 1) stride n p) (f (p / stride) (p % stride)) (get_or e p 0)
    old p out w = same p out ∙ ap (λ (b : Bool). cond b (f (p / stride) (p % stride)) (get_or e p 0)) (sym w)

-- ---- runs of rows

-- byte p of a plane that holds `old` there, by whether it is written
abbrev pub byte_of : (stride : ℕ) → (ℕ → ℕ → ℕ) → ℕ → Bool → ℕ → ℕ
byte_of stride f p w old = cond w (f (p / stride) (p % stride)) old

pub plane_none : (from to stride n : ℕ) (f : ℕ → ℕ → ℕ) (d : List ℕ) → to ≤ from → PlaneIs from to stride n f d d
plane_none from to stride n f d h = record {
  size = refl;
  byte = λ p. sym (ap (λ (b : Bool). byte_of stride f p b (get_or d p 0)) (written_out from to stride n p (λ i. omega arith)));
}

-- with no row written, nothing changed
pub plane_same : (from to stride n : ℕ) (f : ℕ → ℕ → ℕ) (d e : List ℕ) → to ≤ from → PlaneIs from to stride n f d e → e ≡ d
plane_same from to stride n f d e l h =
    ext_get_or 0 e d h.size
    (λ p _. h.byte p ∙ ap (λ (b : Bool). byte_of stride f p b (get_or d p 0)) (written_out from to stride n p (λ i. omega arith)))

pub plane_to : {from to to' stride n : ℕ} {f : ℕ → ℕ → ℕ} {d e : List ℕ} → to ≡ to' → PlaneIs from to stride n f d e → PlaneIs from to' stride n f d e
plane_to {from} {to} {to'} {stride} {n} {f} {d} {e} = subst (λ (r : ℕ). PlaneIs from r stride n f d e)

pub plane_between : {from from' to to' stride n : ℕ} {f : ℕ → ℕ → ℕ} {d e : List ℕ} → from ≡ from' → to ≡ to' → PlaneIs from to stride n f d e
    → PlaneIs from' to' stride n f d e
plane_between {from} {from'} {to} {to'} {stride} {n} {f} {d} {e} a b h = subst (λ (r : ℕ). PlaneIs r to' stride n f d e) a (plane_to b h)

-- two images that agree where the plane is written
pub plane_like : (from to stride n : ℕ) (f g : ℕ → ℕ → ℕ) (d e : List ℕ) → ((r x : ℕ) → from ≤ r → r < to → x < n → f r x ≡ g r x)
    → PlaneIs from to stride n f d e → PlaneIs from to stride n g d e
plane_like from to stride n f g d e same h = record {
  size = h.size;
  byte = λ p. h.byte p ∙ inside? from to stride n p
      (λ i w. ap (λ (b : Bool). byte_of stride f p b (get_or d p 0)) w ∙ same _ _ i.row_least i.row_most i.column
      ∙ sym (ap (λ (b : Bool). byte_of stride g p b (get_or d p 0)) w))
      (λ o w. ap (λ (b : Bool). byte_of stride f p b (get_or d p 0)) w ∙ sym (ap (λ (b : Bool). byte_of stride g p b (get_or d p 0)) w));
}

-- byte x of row r
pub plane_at : (from to stride n : ℕ) (f : ℕ → ℕ → ℕ) (d e : List ℕ) → n ≤ stride → PlaneIs from to stride n f d e
    → (r x : ℕ) → from ≤ r → r < to → x < n → get_or e (r * stride + x) 0 ≡ f r x
plane_at from to stride n f d e wide h r x l m c =
    let w = row_of r stride x (r * stride + x) (omega arith) refl in
    h.byte (r * stride + x)
    ∙ ap (λ (b : Bool). byte_of stride f (r * stride + x) b (get_or d (r * stride + x) 0))
    (written_in from to stride n (r * stride + x) (record { row_least = omega arith; row_most = omega arith; column = omega arith }))
    ∙ ap (λ (a : ℕ). f a ((r * stride + x) % stride)) w.0 ∙ ap (f r) w.1

-- a byte that is not written
pub plane_other : (from to stride n : ℕ) (f : ℕ → ℕ → ℕ) (d e : List ℕ) → PlaneIs from to stride n f d e
    → (p : ℕ) → (Inside from to stride n p → ⊥) → get_or e p 0 ≡ get_or d p 0
plane_other from to stride n f d e h p o = h.byte p ∙ ap (λ (b : Bool). byte_of stride f p b (get_or d p 0)) (written_out from to stride n p o)

-- rows from a up to b, then rows from b up to c
pub plane_then : (a b c stride n : ℕ) (f : ℕ → ℕ → ℕ) (d e e' : List ℕ) → a ≤ b → b ≤ c
    → PlaneIs a b stride n f d e → PlaneIs b c stride n f e e' → PlaneIs a c stride n f d e'
plane_then a b c stride n f d e e' ab bc h k = record { size = k.size ∙ h.size; byte = byte }
  where
    same : (p : ℕ) → (Inside b c stride n p → ⊥) → written a b stride n p ≡ written a c stride n p
    same p o = inside? a b stride n p
        (λ i w. w ∙ sym (written_in a c stride n p (record { row_least = omega arith; row_most = omega arith; column = omega arith })))
        (λ q w. w ∙ sym (written_out a c stride n p (λ i. below? (p / stride) b
        (λ l. q (record { row_least = omega arith; row_most = l; column = omega arith }))
        (λ l. o (record { row_least = l; row_most = omega arith; column = omega arith })))))

    byte : (p : ℕ) → get_or e' p 0 ≡ byte_of stride f p (written a c stride n p) (get_or d p 0)
    byte p = k.byte p ∙ inside? b c stride n p
        (λ i w. ap (λ (t : Bool). byte_of stride f p t (get_or e p 0)) w ∙ sym (ap (λ (t : Bool). byte_of stride f p t (get_or d p 0))
        (written_in a c stride n p (record { row_least = omega arith; row_most = omega arith; column = omega arith }))))
        (λ o w. ap (λ (t : Bool). byte_of stride f p t (get_or e p 0)) w ∙ h.byte p ∙ ap (λ (t : Bool). byte_of stride f p t (get_or d p 0)) (same p o))

-- a plane with some of its rows written is one plane
pub plane_unique : {from to stride n : ℕ} {f : ℕ → ℕ → ℕ} {d e e' : List ℕ} → PlaneIs from to stride n f d e → PlaneIs from to stride n f d e' → e ≡ e'
plane_unique {e = e} {e' = e'} h k = ext_get_or 0 e e' (h.size ∙ sym k.size) (λ p _. h.byte p ∙ sym (k.byte p))

-- two planes of one image, whatever their strides
pub rows_equal : {from to all stride stride' n : ℕ} {f : ℕ → ℕ → ℕ} {x x' z z' : List ℕ} → from ≡ 0 → to ≤ all → n ≤ stride → n ≤ stride'
    → PlaneIs from to stride n f x x' → PlaneIs from all stride' n f z z' → RowsEqual to n stride stride' x' z'
rows_equal start fewer wide wide' p q r i l m =
    plane_at _ _ _ _ _ _ _ wide p r i (omega arith) l m ∙ sym (plane_at _ _ _ _ _ _ _ wide' q r i (omega arith) (omega arith) m)
