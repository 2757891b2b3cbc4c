-- What sums of entries come to. The idea: an entry is a linear value 2^44 times and a part of luma, so a sum of entries is a sum of each, read by a
-- division and a remainder; both are the definition's sums.
-- Assumes nothing.
use mathlib.Core.Path.{◌≡◌, ap, ◌∙◌}
use mathlib.Core.List.{List}
use Prim.Native.Nat.{ℕ, ◌+◌, ◌*◌, ◌-◌, ◌/◌, ◌%◌, ◌≤◌, ◌<◌, min}
use native.Mathlib.Nat.{mul-le-mul_right, add-mul, one-mul}
use native.Mathlib.Omega.{arith}
use lib.ListN.{length, get_or}
use Rattle.forward_transform.specs.Shape.{Shape}
use Rattle.sharp_gamma.specs.Entry.{TableOf}
use Rattle.sharp_gamma.proofs.Bounds.{linear_entry-le}
use Rattle.definitions.specs.declared.YuvSettings.{YuvSettings}
use Rattle.definitions.specs.declared.FrameDescription.{FrameDescription}
use Rattle.definitions.specs.Pixel.{weights_of, luma_of}
use Rattle.definitions.specs.Row.{Pixels, linear, gamma_of, corrected, of_colour, input420, input422}
use Rattle.pixel_pairs.specs.declared.Sums.{Sums}
use Rattle.pixel_pairs.specs.Tables.{luma_part, Places, SumTables, left_entry, right_entry}
use Rattle.pixel_pairs.specs.Pixels.{AreBytes, sum_at, entries_at, Paired, Light, total, left_luma, right_luma, sixteenths_of, quarters_of, corrected_by, Over}
use Rattle.pixel_pairs.specs.Pixels.{Linears}
use Rattle.pixel_pairs.specs.Rows.{TwoPainted, RowOf}
use Rattle.definitions.proofs.Inputs.{input420_pair, input420_last, input422_pair}
use Rattle.definitions.proofs.Planes.{below?}
use Rattle.pixel_pairs.proofs.Weights.{by_three, luma_of_lem}

-- ---- the tables, a place after the other

pub Places-none : (s : YuvSettings) {sums : List ℕ} → length sums ≡ 1536 → Places 0 s sums
Places-none s size = record { size = size; left = λ i x h l. absurd (omega arith); right = λ i x h l. absurd (omega arith) }

-- a place more: what a byte adds there is its weight's share and what the place starts from
pub Places-more : {n : ℕ} {s : YuvSettings} (lin : List ℕ) {t t' : List ℕ} (weight start : ℕ) → n < 3 → ((x : ℕ) → x * weight + start ≡ luma_part s n x)
    → ((x : ℕ) → x < 256 → get_or lin x 0 ≡ linear s x) → Places n s t
    → TwoPainted (256 * n) (768 + 256 * n) 256 (λ x. left_entry (x * weight + start) (get_or lin x 0))
    (λ x. right_entry (x * weight + start) (get_or lin x 0)) t t' → Places (n + 1) s t'
Places-more {n} {s} lin {t} {t'} weight start small part lin_is p q = record { size = q.size ∙ p.size; left = left; right = right }
  where
    left : (i x : ℕ) → i < n + 1 → x < 256 → get_or t' (256 * i + x) 0 ≡ left_entry (luma_part s i x) (linear s x)
    left i x h l =
        below? i n (λ k. q.other (256 * i + x) (λ a b. omega arith) (λ a b. omega arith) ∙ p.left i x k l)
        (λ k. let e : i ≡ n = omega arith in rw e (q.in_upper x l ∙ rw (part x, lin_is x l)))

    right : (i x : ℕ) → i < n + 1 → x < 256 → get_or t' (768 + 256 * i + x) 0 ≡ right_entry (luma_part s i x) (linear s x)
    right i x h l =
        below? i n (λ k. q.other (768 + 256 * i + x) (λ a b. omega arith) (λ a b. omega arith) ∙ p.right i x k l)
        (λ k. let e : i ≡ n = omega arith in rw e (q.in_lower x l ∙ rw (part x, lin_is x l)))

-- ---- numbers in one

lumas_apart : (l p q : ℕ) → p < 2097152 → q < 2097152
    → ((17592186044416 * l + (p + 2097152 * q)) / 8192 % 256 ≡ p / 8192) × ((17592186044416 * l + (p + 2097152 * q)) / 17179869184 % 256 ≡ q / 8192)
lumas_apart l p q hp hq = (omega arith, omega arith)

sixteenths : (l low : ℕ) → low < 17592186044416 → (17592186044416 * l + low) / 281474976710656 ≡ l / 16
sixteenths l low h = omega arith

quarters : (l low : ℕ) → low < 17592186044416 → (17592186044416 * l + low) / 70368744177664 ≡ l / 4
quarters l low h = omega arith

-- pixel x lies in a row of w pixels
pub in_row : {d : FrameDescription} {count : ℕ} {row : List ℕ} → RowOf d count row → (x : ℕ) → x < d.width → x * count + 2 < length row
in_row {d} {count} p x h =
    let end : x * count + count ≤ d.width * count = omega (
      arith,
      mul-le-mul_right {m = x + 1} {n = d.width} count
          (omega arith),
      add-mul x 1 count,
      one-mul count,
    ) in
    omega (arith, p.wide, p.size)

module _ (s : YuvSettings) (p : Shape s.range (weights_of s)) where
  part_small : {f : ℕ → ℕ} → AreBytes f → (i : ℕ) → i < 3 → luma_part s i (f i) < 2097152
  part_small {f} bytes = let l = luma_of_lem s p f bytes in by_three (λ i. luma_part s i (f i) < 2097152) (omega (arith, l.below)) (omega (arith, l.below))
      (omega (arith, l.below))

  module _ {sums : List ℕ} (tables : SumTables s sums) where
    left_light : (i x : ℕ) → i < 3 → x < 256 → get_or sums (256 * i + x) 0 < 9223372036854775808
    left_light i x h l = omega (arith, tables.left i x h l, linear_entry-le s.transfer s.rounding x, part_small {f = λ _. x} (λ _ _. l) i h)

    right_light : (i x : ℕ) → i < 3 → x < 256 → get_or sums (768 + 256 * i + x) 0 < 9223372036854775808
    right_light i x h l = omega (arith, tables.right i x h l, linear_entry-le s.transfer s.rounding x, part_small {f = λ _. x} (λ _ _. l) i h)

    -- two entries do not wrap
    pub light : Light sums
    light k h =
        below? k 768
        (λ l. let e : 256 * (k / 256) + k % 256 ≡ k = omega arith in rw e at (left_light (k / 256) (k % 256) (omega arith) (omega arith)))
        (λ l. let j = k - 768 in let e : 768 + 256 * (j / 256) + j % 256 ≡ k = omega arith in rw e at
        (right_light (j / 256) (j % 256) (omega arith) (omega arith)))

    -- a pair of pixels
    module _ {f g : ℕ → ℕ} {t : Sums} (q : Paired sums f g t) where
      abbrev sum_is : ℕ → ℕ
      sum_is i = 17592186044416 * (3 * linear s (f i) + 2 + linear s (g i)) + (luma_part s i (f i) + 2097152 * luma_part s i (g i))

      -- what the code reads is what the tables hold
      entries_are : (i : ℕ) → i < 3 → entries_at sums f g i ≡ sum_is i
      entries_are i h = omega (arith, tables.left i (f i) h (q.left i h), tables.right i (g i) h (q.right i h))

      pub sums_are : (i : ℕ) → i < 3 → sum_at t i ≡ sum_is i
      sums_are = by_three (λ i. sum_at t i ≡ sum_is i) (q.e0 ∙ entries_are 0 (omega arith)) (q.e1 ∙ entries_are 1 (omega arith))
          (q.e2 ∙ entries_are 2 (omega arith))

      pub linears_small : (i : ℕ) → linear s (f i) ≤ 65535 × linear s (g i) ≤ 65535
      linears_small i = (linear_entry-le s.transfer s.rounding (f i), linear_entry-le s.transfer s.rounding (g i))

      -- both lumas
      pub total_is : total t ≡ 17592186044416 * (3 * linear s (f 0) + 2 + linear s (g 0) + (3 * linear s (f 1) + 2 + linear s (g 1)) +
          (3 * linear s (f 2) + 2 + linear s (g 2)))
          + (luma_part s 0 (f 0) + luma_part s 1 (f 1) + luma_part s 2 (f 2) + 2097152 * (luma_part s 0 (g 0) + luma_part s 1 (g 1) + luma_part s 2 (g 2)))
      total_is = omega (arith, sums_are 0 (omega arith), sums_are 1 (omega arith), sums_are 2 (omega arith))

      pub total_fits : total t < 18446744073709551616
      total_fits =
          omega (arith, total_is, linears_small 0, linears_small 1, linears_small 2, (luma_of_lem s p f q.left).below, (luma_of_lem s p g q.right).below)

      pub lumas_are : (left_luma t ≡ of_colour s (luma_of s) f) × (right_luma t ≡ of_colour s (luma_of s) g)
      lumas_are =
          let a = luma_of_lem s p f q.left in
          let b = luma_of_lem s p g q.right in
          let both = lumas_apart _ _ _ a.below b.below in
          (rw total_is both.0 ∙ a.is, rw total_is both.1 ∙ b.is)

-- ---- the chroma input

module _ (d : FrameDescription) (p : Shape d.settings.range (weights_of d.settings)) {sums gamma : List ℕ} (tables : SumTables d.settings sums)
    (corrects : TableOf 65536 (gamma_of d.settings) gamma) (j next : ℕ) (inside : 2 * j < d.width)
    (is : next ≡ min (2 * j + 1) (d.width - 1)) where
  -- a pair over another
  module _ (row below : Pixels) {a b : Sums} (q : Paired sums (row (2 * j)) (row next) a) (r : Paired sums (below (2 * j)) (below next) b) where
    pub over : Over a b
    over =
        let small : (i : ℕ) → i < 3 → 3 * sum_at a i + sum_at b i < 18446744073709551616 =
        λ i h. omega (
          arith,
          sums_are d.settings p tables q i h,
          sums_are d.settings p tables r i h,
          linears_small
              d.settings p tables q i,
          linears_small d.settings p tables r i,
          part_small d.settings p q.left i h,
          part_small d.settings p
              q.right i h,
          part_small d.settings p r.left i h,
          part_small d.settings p r.right i h,
        ) in
        record { e0 = small 0 (omega arith); e1 = small 1 (omega arith); e2 = small 2 (omega arith) }

    -- the definition's input, by the pixel 2j and the one that stands for its neighbour
    input420_is : (i : ℕ) → let s = d.settings in
        corrected s (9 * linear s (row (2 * j) i) + 3 * linear s (row next i) + 3 * linear s (below (2 * j) i) + 1 * linear s
        (below next i)) ≡ input420 d row below j i
    input420_is i =
        below? (2 * j + 1) d.width
        (λ h. let n : next ≡ 2 * j + 1 = omega arith in rw n (input420_pair d row below j i h))
        (λ h.
        let n : next ≡ 2 * j = omega arith in
        let l = linear d.settings (row (2 * j) i) in
        let m = linear d.settings (below (2 * j) i) in
        let twelve : 9 * l + 3 * l + 3 * m + 1 * m ≡ 12 * l + 4 * m = omega arith in
        rw n (ap (corrected d.settings) twelve ∙ input420_last d row below j i h))

    -- place i of the sum, and what it is in the gamma table
    place420 : (i : ℕ) → i < 3 → ((3 * sum_at a i + sum_at b i) / 281474976710656 < 65536) ×
        (get_or gamma ((3 * sum_at a i + sum_at b i) / 281474976710656) 0 ≡ input420 d row below j i)
    place420 i h =
        let s = d.settings in
        let e = linear s (row (2 * j) i) in
        let f = linear s (row next i) in
        let g = linear s (below (2 * j) i) in
        let k = linear s (below next i) in
        let l = linears_small s p tables q i in
        let m = linears_small s p tables r i in
        let low = 3 * (luma_part s i (row (2 * j) i) + 2097152 * luma_part s i (row next i)) +
        (luma_part s i (below (2 * j) i) + 2097152 * luma_part s i (below next i)) in
        let small : low < 17592186044416 = omega (
          arith,
          part_small s p q.left i h,
          part_small s p q.right i h,
          part_small s p
              r.left i h,
          part_small s p r.right i h,
        ) in
        let sum : 3 * sum_at a i + sum_at b i ≡ 17592186044416 * (9 * e + 3 * f + 3 * g + 1 * k + 8) + low = omega
        (arith, sums_are s p tables q i h, sums_are s p tables r i h) in
        let index : (3 * sum_at a i + sum_at b i) / 281474976710656 ≡ (9 * e + 3 * f + 3 * g + 1 * k + 8) / 16 = ap (λ (n : ℕ). n / 281474976710656) sum
        ∙ sixteenths _ low small in
        (omega arith, rw index (corrects.at ((9 * e + 3 * f + 3 * g + 1 * k + 8) / 16) (omega arith) ∙ input420_is i))

    pub linears420 : Linears (sixteenths_of a b)
    linears420 = record { e0 = (place420 0 (omega arith)).0; e1 = (place420 1 (omega arith)).0; e2 = (place420 2 (omega arith)).0 }

    pub mixed420 : (i : ℕ) → i < 3 → corrected_by gamma (sixteenths_of a b) i ≡ input420 d row below j i
    mixed420 = by_three (λ i. corrected_by gamma (sixteenths_of a b) i ≡ input420 d row below j i) (place420 0 (omega arith)).1 (place420 1 (omega arith)).1
        (place420 2 (omega arith)).1

  -- a pair alone
  module _ (row : Pixels) where
    place422 : {a : Sums} → Paired sums (row (2 * j)) (row next) a → next ≡ 2 * j + 1 → (i : ℕ) → i < 3
        → (sum_at a i / 70368744177664 < 65536) × (get_or gamma (sum_at a i / 70368744177664) 0 ≡ input422 d row j i)
    place422 {a} q right i h =
        let s = d.settings in
        let e = linear s (row (2 * j) i) in
        let f = linear s (row next i) in
        let l = linears_small s p tables q i in
        let low = luma_part s i (row (2 * j) i) + 2097152 * luma_part s i (row next i) in
        let small : low < 17592186044416 = omega (arith, part_small s p q.left i h, part_small s p q.right i h) in
        let same : (3 * e + 2 + f) / 4 ≡ (12 * e + 4 * f + 8) / 16 = omega arith in
        let index : sum_at a i / 70368744177664 ≡ (12 * e + 4 * f + 8) / 16 = ap (λ (n : ℕ). n / 70368744177664) (sums_are s p tables q i h)
        ∙ quarters (3 * e + 2 + f) low small ∙ same in
        (omega arith, rw index (corrects.at ((12 * e + 4 * f + 8) / 16) (omega arith) ∙ rw right (input422_pair d row j i (omega arith))))

    module _ {a : Sums} (q : Paired sums (row (2 * j)) (row next) a) (right : next ≡ 2 * j + 1) where
      pub linears422 : Linears (quarters_of a)
      linears422 = record { e0 = (place422 q right 0 (omega arith)).0; e1 = (place422 q right 1 (omega arith)).0; e2 = (place422 q right 2 (omega arith)).0 }

      pub mixed422 : (i : ℕ) → i < 3 → corrected_by gamma (quarters_of a) i ≡ input422 d row j i
      mixed422 = by_three (λ i. corrected_by gamma (quarters_of a) i ≡ input422 d row j i) (place422 q right 0 (omega arith)).1
          (place422 q right 1 (omega arith)).1 (place422 q right 2 (omega arith)).1
