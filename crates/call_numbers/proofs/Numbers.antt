-- How many numbers there are where they have a meaning.
-- Assumes nothing.
use Prim.Native.Nat.{ℕ, ◌+◌, ◌≤◌}
use mathlib.Core.Path.{◌≡◌, refl, sym}
use mathlib.Core.Bool.{Bool, true, false, cond, ◌||◌, true≢false}
use mathlib.Core.List.{List}
use lib.Dec.{eqb}
use native.Mathlib.Omega.{arith}
use lib.ListN.{length, drop, get_or}
use borrow.Author.Tests.{eqb-true}
use lib.Ieee.{Float}
use Rattle.std.specs.Prelude.{Option, Some, None, Result, Ok, Err}
use Rattle.yuv_support.specs.declared.YuvRange.{YuvRange}
use Rattle.yuv_support.specs.declared.YuvRange.TheVariants.{Limited}
use Rattle.yuv_support.specs.declared.YuvStandardMatrix.{YuvStandardMatrix}
use Rattle.yuv_error.specs.declared.YuvError.{YuvError}
use Rattle.yuv_error.specs.declared.YuvError.TheVariants.{MalformedRequest}
use Rattle.definitions.specs.declared.FrameDescription.{FrameDescription}
use Rattle.setting_codes.specs.Codes.{range_codes}
use Rattle.call_numbers.specs.Codes.{at, matrix_of, description_of, described, is_unknown, is_counted, is_malformed, is_malformed_range_and_matrix, range_and_matrix}

-- a description has ten numbers at least
pub room : (before count : ℕ) → is_counted before count ≡ true → before + 10 ≤ count
room before count e = go (eqb count (before + 10)) (eqb count (before + 11)) refl refl e
  where
    go : (a b : Bool) → eqb count (before + 10) ≡ a → eqb count (before + 11) ≡ b → a || b || eqb count (before + 15) ≡ true → before + 10 ≤ count
    go true b t u f = omega (arith, eqb-true count (before + 10) t)
    go false true t u f = omega (arith, eqb-true count (before + 11) u)
    go false false t u f = omega (arith, eqb-true count (before + 15) f)

pub counted : (before : ℕ) (numbers : List ℕ) → is_malformed before numbers ≡ false → before + 10 ≤ length numbers
unfolding is_malformed
counted before numbers e = go (is_counted before (length numbers)) refl e
  where
    go : (b : Bool) → is_counted before (length numbers) ≡ b → cond b (is_unknown (drop before numbers)) true ≡ false → before + 10 ≤ length numbers
    go true t f = room before (length numbers) t
    go false t f = absurd (true≢false f)

-- a range and a matrix are those that two numbers mean
pub range_and_matrix_some : (numbers : List ℕ) (custom : List Float) {r : YuvRange} {m : YuvStandardMatrix} → range_and_matrix numbers custom ≡ Some (r, m)
    → (is_malformed_range_and_matrix numbers ≡ false) × (get_or range_codes (at numbers 0) Limited ≡ r) × (matrix_of (at numbers 1) custom ≡ m)
range_and_matrix_some numbers custom {r} {m} is = go (is_malformed_range_and_matrix numbers) refl is
  where
    given : YuvRange × YuvStandardMatrix
    given = (get_or range_codes (at numbers 0) Limited, matrix_of (at numbers 1) custom)

    go : (b : Bool) → is_malformed_range_and_matrix numbers ≡ b → cond b None (Some given) ≡ Some (r, m)
        → (is_malformed_range_and_matrix numbers ≡ false) × (given.0 ≡ r) × (given.1 ≡ m)
    go true t f = absurd (let w : ◌≡◌ {A = ℕ} 0 1 = cc f in omega arith)
    go false t f = (t, cc f, cc f)

-- and there are none where the numbers are malformed
pub range_and_matrix_none : (numbers : List ℕ) (custom : List Float) → range_and_matrix numbers custom ≡ None → is_malformed_range_and_matrix numbers ≡ true
range_and_matrix_none numbers custom is = go (is_malformed_range_and_matrix numbers) refl is
  where
    go : (b : Bool) → is_malformed_range_and_matrix numbers ≡ b
        → cond {A = Option (YuvRange × YuvStandardMatrix)} b None (Some (get_or range_codes (at numbers 0) Limited, matrix_of (at numbers 1) custom)) ≡ None
        → is_malformed_range_and_matrix numbers ≡ true
    go true t f = t
    go false t f = absurd (let w : ◌≡◌ {A = ℕ} 0 1 = cc f in omega arith)

-- a frame is described where the numbers are not malformed
pub described_ok : (before : ℕ) (numbers : List ℕ) (custom : List Float) {d : FrameDescription} → described before numbers custom ≡ Ok d
    → (is_malformed before numbers ≡ false) × (description_of (drop before numbers) custom ≡ d)
described_ok before numbers custom {d} e = go (is_malformed before numbers) refl e
  where
    go : (b : Bool) → is_malformed before numbers ≡ b
        → ◌≡◌ {A = Result FrameDescription YuvError} (cond b (Err MalformedRequest) (Ok (description_of (drop before numbers) custom))) (Ok d)
        → (is_malformed before numbers ≡ false) × (description_of (drop before numbers) custom ≡ d)
    go true t f = absurd (cc f)
    go false t f = (t, cc f)

-- and otherwise refusal 1 is answered
pub described_err : (before : ℕ) (numbers : List ℕ) (custom : List Float) {e : YuvError} → described before numbers custom ≡ Err e
    → (is_malformed before numbers ≡ true) × (e ≡ MalformedRequest)
described_err before numbers custom {e} is = go (is_malformed before numbers) refl is
  where
    go : (b : Bool) → is_malformed before numbers ≡ b
        → ◌≡◌ {A = Result FrameDescription YuvError} (cond b (Err MalformedRequest) (Ok (description_of (drop before numbers) custom))) (Err e)
        → (is_malformed before numbers ≡ true) × (e ≡ MalformedRequest)
    go true t f = (t, sym (cc f))
    go false t f = absurd (cc f)
