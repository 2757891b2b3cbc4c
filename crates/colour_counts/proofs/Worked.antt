-- Example 5.3 of docs/RULES.md: in Bt601 Full seven colours have luma 0, and seven luma 255.
-- The idea: by their numbers the colours of a luma stand in two runs, and a run is counted at once.
-- Assumes nothing.
use Prim.Native.Nat.{ℕ, zero, suc, ◌+◌, ◌*◌, ◌-◌, ◌/◌, ◌%◌, ◌≤◌, ◌<◌}
use mathlib.Core.Path.{◌≡◌, refl, sym, ap, ◌∙◌}
use native.Mathlib.Nat.{add-zero}
use native.Mathlib.Omega.{arith}
use lib.Dec.{lit<}
use Rattle.yuv_support.specs.declared.YuvRange.TheVariants.{Full}
use Rattle.yuv_support.specs.declared.YuvStandardMatrix.TheVariants.{Bt601}
use Rattle.built_coefficients.specs.Built.{forward_transform}
use Rattle.definitions.proofs.Planes.{below?}
use Rattle.colour_counts.specs.declared.luma.LumaWeights.{LumaWeights}
use Rattle.colour_counts.specs.Counts.{count_below, count_of}
use Rattle.colour_counts.specs.Known.{luma_by, Weighs}
use Rattle.colour_counts.proofs.Counting.{count_none, count_one, count_other, count_like}
use Rattle.colour_counts.proofs.Weights.{read_back, weighs}

-- a run of numbers that are y, and one of numbers that are not
module _ (f : ℕ → ℕ) (y m : ℕ) where
  run_of : (n : ℕ) → ((c : ℕ) → m ≤ c → c < m + n → f c ≡ y) → count_below f (m + n) y ≡ count_below f m y + n
  run_of zero same = rw (add-zero m) (omega arith)
  run_of (suc n) same =
      let next : m + suc n ≡ suc (m + n) = omega arith in
      rw next (count_one f (m + n) y (same (m + n) (omega arith) (omega arith)) ∙ omega (arith, run_of n (λ c l h. same c l (omega arith))))

  run_past : (n : ℕ) → ((c : ℕ) → m ≤ c → c < m + n → f c ≡ y → ⊥) → count_below f (m + n) y ≡ count_below f m y
  run_past zero other = ap (λ (k : ℕ). count_below f k y) (omega arith)
  run_past (suc n) other =
      let next : m + suc n ≡ suc (m + n) = omega arith in
      rw next (count_other f (m + n) y (other (m + n) (omega arith) (omega arith)) ∙ run_past n (λ c l h. other c l (omega arith)))

abbrev bt601 : LumaWeights
bt601 = record { r = 2449; g = 4809; b = 934; start = 4095; byte_luma = lit< tt }

bt601-Weighs : Weighs Full Bt601 bt601
unfolding forward_transform
bt601-Weighs = weighs Full Bt601 tt bt601 refl refl refl refl

abbrev luma : ℕ → ℕ
luma = luma_by bt601

-- ---- the runs, by the bytes of a colour, and by how far they are from white

module _ (r g b : ℕ) (hg : g < 256) (hb : b < 256) where
  abbrev number : ℕ
  number = r * 65536 + g * 256 + b

  abbrev sum : ℕ
  sum = r * 2449 + g * 4809 + b * 934

  first_run : number < 5 → sum ≤ 4095
  first_run h =
      let red : r ≡ 0 = omega arith in
      let green : g ≡ 0 = omega arith in
      omega arith

  between : 5 ≤ number → number < 65536 → 4097 ≤ sum
  between l h =
      let red : r ≡ 0 = omega arith in
      below? g 1 (λ none. omega arith) (λ some. omega arith)

  second_run : 65536 ≤ number → number < 65538 → sum ≤ 4095
  second_run l h =
      let red : r ≡ 1 = omega arith in
      let green : g ≡ 0 = omega arith in
      omega arith

  past : 65538 ≤ number → 4097 ≤ sum
  past l = below? g 1 (λ none. below? r 2 (λ few. omega arith) (λ some. omega arith)) (λ some. omega arith)

-- ---- black and near it
module _ (c : ℕ) where
  abbrev R : ℕ
  R = c / 65536

  abbrev G : ℕ
  G = c / 256 % 256

  abbrev B : ℕ
  B = c % 256

  green : G < 256
  green = omega arith

  blue : B < 256
  blue = omega arith

  is_dark : sum R G B green blue ≤ 4095 → luma c ≡ 0
  is_dark h = omega arith

  not_dark : 4097 ≤ sum R G B green blue → luma c ≡ 0 → ⊥
  not_dark h e = omega arith

  module _ (few : c < 16777216) where
    red : R < 256
    red = omega arith

    mirrored : number (255 - R) (255 - G) (255 - B) (omega arith) (omega arith) + c ≡ 16777215
    mirrored = omega (arith, read_back c, red, green, blue)

    is_bright : sum (255 - R) (255 - G) (255 - B) (omega arith) (omega arith) ≤ 4095 → luma c ≡ 255
    is_bright h = omega (arith, red, green, blue)

    not_bright : 4097 ≤ sum (255 - R) (255 - G) (255 - B) (omega arith) (omega arith) → luma c ≡ 255 → ⊥
    not_bright h e = omega (arith, red, green, blue)

dark : count_below luma 16777216 0 ≡ 7
dark =
    let one = run_of luma 0 0 5 (λ c l h. is_dark c (first_run _ _ _ (green c) (blue c) (omega (arith, read_back c)))) in
    let gap = run_past luma 0 5 65531 (λ c l h. not_dark c (between _ _ _ (green c) (blue c) (omega (arith, read_back c)) (omega (arith, read_back c)))) in
    let two = run_of luma 0 65536 2 (λ c l h. is_dark c (second_run _ _ _ (green c) (blue c) (omega (arith, read_back c)) (omega (arith, read_back c)))) in
    let rest = run_past luma 0 65538 16711678 (λ c l h. not_dark c (past _ _ _ (green c) (blue c) (omega (arith, read_back c)))) in
    omega (arith, one, gap, two, rest, count_none luma 0)

-- ---- white and near it
bright : count_below luma 16777216 255 ≡ 7
bright =
    let rest = run_past luma 255 0 16711678
    (λ c l h. let m = mirrored c (omega arith) in not_bright c (omega arith) (past _ _ _ (omega arith) (omega arith) (omega (arith, m)))) in
    let two = run_of luma 255 16711678 2
    (λ c l h. let m = mirrored c (omega arith) in
    is_bright c (omega arith) (second_run _ _ _ (omega arith) (omega arith) (omega (arith, m)) (omega (arith, m)))) in
    let gap = run_past luma 255 16711680 65531
    (λ c l h. let m = mirrored c (omega arith) in
    not_bright c (omega arith) (between _ _ _ (omega arith) (omega arith) (omega (arith, m)) (omega (arith, m)))) in
    let one = run_of luma 255 16777211 5
    (λ c l h. let m = mirrored c (omega arith) in is_bright c (omega arith) (first_run _ _ _ (omega arith) (omega arith) (omega (arith, m)))) in
    omega (arith, one, gap, two, rest, count_none luma 255)

pub seven_of_0_and_255 : (count_of Full Bt601 0 ≡ 7) × (count_of Full Bt601 255 ≡ 7)
seven_of_0_and_255 =
    (sym (count_like luma _ 16777216 0 bt601-Weighs.luma) ∙ dark, sym (count_like luma _ 16777216 255 bt601-Weighs.luma) ∙ bright)
