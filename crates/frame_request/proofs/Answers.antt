-- What the program can answer, number by number: 1, 2, 3, then 6 for an input too short and 12 for one too long. 4 and 7 to 11 never:
-- no code means a Custom matrix, and the planes are lent without padding. Assumes nothing.
use Prim.Native.Nat.{ℕ, zero, suc, ◌+◌, ◌*◌, ◌-◌, ◌≤◌}
use mathlib.Core.Path.{◌≡◌, refl, ap, ◌∙◌}
use mathlib.Core.Bool.{Bool, true, false, cond, not, ◌||◌}
use mathlib.Core.List.{List, ◌++◌}
use native.Mathlib.Nat.{le_refl, mul-le-mul_left, mul-le-mul_right, mul-one, one-mul, mul-add}
use native.Mathlib.Omega.{arith}
use borrow.Author.Tests.{le-ltb, ltb-true, ltb-false, eq-eqb, ne_eqb, eqb-false}
use lib.Dec.{ltb, eqb}
use lib.ListN.{length, get_or, drop}
use Rattle.yuv_support.specs.declared.YuvStandardMatrix.{YuvStandardMatrix}
use Rattle.yuv_support.specs.declared.YuvStandardMatrix.TheVariants.{Bt601}
use Rattle.yuv_support.specs.Matrix.{accepted}
use Rattle.yuv_error.specs.declared.LentBuffer.{LentBuffer}
use Rattle.yuv_error.specs.Numbers.{Numbers, numbers}
use Rattle.yuv_error.specs.Rules.{first_numbers, matrix_rules, least_of, whole_of, too_short, too_narrow, not_whole, buffer_rules as Rules·bufferRules}
use Rattle.std.proofs.lemmas.Bool.{or_parts}
use Rattle.std.proofs.Padding.{cond_same}
use Rattle.setting_codes.specs.Codes.{matrix_codes}
use Rattle.definitions.specs.declared.FrameDescription.{FrameDescription}
use Rattle.definitions.proofs.Numbers.{chroma_rows}
use Rattle.yuv_error.specs.Lent.{source_of, y_of, u_of, v_of}
use Rattle.frame_request.specs.Request.{settings_of, frame_of, source_stride, luma_size, chroma_size, malformed, buffer_rules, request_rules}

-- ---- rules that never hold

pub coded_accepted : (code : ℕ) → accepted (get_or matrix_codes code Bt601) ≡ true
coded_accepted zero = refl
coded_accepted (suc zero) = refl
coded_accepted (suc (suc zero)) = refl
coded_accepted (suc (suc (suc zero))) = refl
coded_accepted (suc (suc (suc (suc zero)))) = refl
coded_accepted (suc (suc (suc (suc (suc zero))))) = refl
coded_accepted (suc (suc (suc (suc (suc (suc n)))))) = refl

matrix_accepted : (input : List ℕ) → not (accepted (frame_of input).settings.matrix) ≡ false
unfolding frame_of settings_of
matrix_accepted input = ap not (coded_accepted (get_or input 7 0))

-- the least that holds whole rows is all of them
least_whole : (n rows : ℕ) → 1 ≤ rows → n * (rows - 1) + n ≡ n * rows
least_whole n rows h = let e : rows ≡ rows - 1 + 1 = omega arith in omega (arith, mul-add n (rows - 1) 1, mul-one n, ap (λ (r : ℕ). n * r) e)

-- a plane without padding
pub record Full (b : LentBuffer) : Type 0 where
  pub narrow : too_narrow b ≡ false
  pub short : too_short b ≡ false
  pub part : not_whole b ≡ false

full : (n rows : ℕ) → 1 ≤ rows → Full (record { row = n; rows = rows; stride = n; len = n * rows })
full n rows h = record {
  narrow = le-ltb n n (le_refl n);
  short = le-ltb (n * rows) (n * (rows - 1) + n) (omega (arith, least_whole n rows h));
  part = ap not (eq-eqb (n * rows) (n * rows) refl);
}

-- ---- what is answered

-- the bytes of the rows, and those that came
abbrev pub rows_size : FrameDescription → ℕ
rows_size d = source_stride d * d.height

abbrev pub length_answer : (need came : ℕ) → Numbers
length_answer need came = cond (ltb came need) (numbers 6 need came) (cond (ltb need came) (numbers 12 need came) (numbers 0 0 0))

unfoldable pub request_answer : List ℕ → Numbers
request_answer input =
    let d = frame_of input in
    cond (malformed input) (numbers 1 0 0)
    (cond (eqb d.width 0 || eqb d.height 0) (numbers 2 0 0)
    (cond (ltb 16384 (luma_size d)) (numbers 3 0 0)
    (length_answer (rows_size d) (length (drop 9 input)))))

-- 12 of the source, past 6
by_length : (need came : ℕ) (a b : Numbers) → cond (ltb came need) a (cond (not (eqb came need)) b (numbers 0 0 0)) ≡ cond (ltb came need) a
    (cond (ltb need came) b (numbers 0 0 0))
by_length need came a b = go (ltb came need) (ltb need came) refl refl
  where
    go : (x y : Bool) → ltb came need ≡ x → ltb need came ≡ y → cond x a (cond (not (eqb came need)) b (numbers 0 0 0)) ≡ cond x a (cond y b (numbers 0 0 0))
    go true y p q = refl
    go false true p q = rw (ne_eqb came need λ e. omega (arith, ltb-true need came q))
    go false false p q = rw (eq-eqb came need (omega (arith, ltb-false came need p, ltb-false need came q)))

-- only a source can be refused
source_answer : (m : YuvStandardMatrix) (s y u v : LentBuffer) → not (accepted m) ≡ false → too_narrow s ≡ false → Full y → Full u → Full v
    → first_numbers (matrix_rules m ++ Rules·bufferRules s y u v) ≡ cond (too_short s) (numbers 6 (least_of s) s.len)
    (cond (not_whole s) (numbers 12 (whole_of s) s.len) (numbers 0 0 0))
source_answer m s y u v a n fy fu fv =
    rw (a, n, fy.narrow, fy.short, fu.narrow, fu.short, fv.narrow, fv.short, fy.part, fu.part, fv.part)

buffers_answer : (input : List ℕ) → 1 ≤ (frame_of input).height → first_numbers (buffer_rules input) ≡ length_answer (rows_size (frame_of input)) (length (drop 9 input))
unfolding frame_of
buffers_answer input tall =
    let d = frame_of input in
    let came = length (drop 9 input) in
    let rows = (chroma_rows d.settings.sampling d.height tall).0 in
    source_answer d.settings.matrix (source_of d d.height (source_stride d) came) (y_of d (luma_size d)) (u_of d (chroma_size d)) (v_of d (chroma_size d))
    (matrix_accepted input) (le-ltb _ _ (le_refl (source_stride d))) (full d.width d.height tall) (full _ _ rows) (full _ _ rows)
    ∙ ap (λ (n : ℕ). cond (ltb came n) (numbers 6 n came) (cond (not (eqb came (rows_size d))) (numbers 12 (rows_size d) came) (numbers 0 0 0)))
    (least_whole (source_stride d) d.height tall)
    ∙ by_length (rows_size d) came (numbers 6 (rows_size d) came) (numbers 12 (rows_size d) came)

-- with or_parts side 0, a side above 16,384 makes an area above it
area_answer : (w h : ℕ) (a b : Numbers) → 1 ≤ w → 1 ≤ h → cond (ltb 16384 w || ltb 16384 h) a (cond (ltb 16384 (w * h)) a b) ≡ cond (ltb 16384 (w * h)) a b
area_answer w h a b some tall = go (ltb 16384 (w * h)) refl
  where
    go : (x : Bool) → ltb 16384 (w * h) ≡ x → cond (ltb 16384 w || ltb 16384 h) a (cond x a b) ≡ cond x a b
    go true p = cond_same (ltb 16384 w || ltb 16384 h) a a a refl refl
    go false p =
        let small = ltb-false 16384 (w * h) p in
        rw (
          le-ltb 16384 w (omega (arith, small, mul-le-mul_left {m = 1} {n = h} w tall, mul-one w)),
          le-ltb 16384 h
              (omega (arith, small, mul-le-mul_right {m = 1} {n = w} h some, one-mul h)),
        )

sized_answer : (w h : ℕ) (a b x y : Numbers) → (1 ≤ h → x ≡ y)
    → cond (eqb w 0 || eqb h 0) a (cond (ltb 16384 w || ltb 16384 h) b (cond (ltb 16384 (w * h)) b x)) ≡ cond (eqb w 0 || eqb h 0) a
    (cond (ltb 16384 (w * h)) b y)
sized_answer w h a b x y same = go (eqb w 0 || eqb h 0) refl
  where
    go : (z : Bool) → (eqb w 0 || eqb h 0) ≡ z → cond z a (cond (ltb 16384 w || ltb 16384 h) b (cond (ltb 16384 (w * h)) b x)) ≡ cond z a
        (cond (ltb 16384 (w * h)) b y)
    go true e = refl
    go false e =
        let some = or_parts (eqb w 0) (eqb h 0) e in
        let tall : 1 ≤ h = omega (arith, eqb-false h 0 some.1) in
        area_answer w h b x (omega (arith, eqb-false w 0 some.0)) tall ∙ ap (λ (n : Numbers). cond (ltb 16384 (w * h)) b n) (same tall)

pub request_answer_lem : (input : List ℕ) → first_numbers (request_rules input) ≡ request_answer input
unfolding request_answer
request_answer_lem input = ap (λ (n : Numbers). cond (malformed input) (numbers 1 0 0) n)
    (sized_answer (frame_of input).width (frame_of input).height (numbers 2 0 0) (numbers 3 0 0) _ _ (buffers_answer input))
