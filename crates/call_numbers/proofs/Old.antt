-- Calls without the later numbers are calls with them.
-- Assumes nothing.
use Prim.Native.Nat.{ℕ, ◌+◌, ◌<◌}
use mathlib.Core.Path.{◌≡◌}
use mathlib.Core.List.{List, [], ◌∷◌, ◌++◌}
use native.Mathlib.Omega.{arith}
use borrow.Author.Tests.{lt-ltb, le-ltb}
use lib.Ieee.{Float}
use lib.Dec.{lit<}
use lib.ListN.{length, length-append, get_or-append, get_or-eq_default}
use lib.Seq.{get_or-append-add}
use Rattle.call_numbers.specs.Codes.{at, settings_of, window_of}
use Rattle.call_numbers.specs.Old.{SameMeaning, OldCalls}

module _ (numbers more : List ℕ) where
  kept : (i : ℕ) → i < length numbers → at (numbers ++ more) i ≡ at numbers i
  kept i l = get_or-append numbers more 0 i l

  behind : (k i : ℕ) → length numbers ≡ k → at (numbers ++ more) (k + i) ≡ at more i
  behind k i e = rw e at (get_or-append-add numbers more i 0)

module _ (numbers : List ℕ) (custom : List Float) where
  truncated : length numbers ≡ 10 → SameMeaning custom numbers (numbers ++ (0 ∷ []))
  unfolding settings_of window_of
  truncated e =
      let more : List ℕ = 0 ∷ [] in
      let k : (i : ℕ) → i < 10 → at (numbers ++ more) i ≡ at numbers i = λ i l. kept numbers more i (omega arith) in
      let last = behind numbers more 10 0 e in
      let none = get_or-eq_default numbers 0 {n = 10} (omega arith) in
      record {
        description = rw (
          k 0 (lit< tt),
          k 1 (lit< tt),
          k 2 (lit< tt),
          k 3 (lit< tt),
          k 4 (lit< tt),
          k 5 (lit< tt),
          k 6 (lit< tt),
          k 7 (lit< tt),
          k 8 (lit< tt),
          k 9 (lit< tt),
          last,
          none,
          lt-ltb (length numbers) 15 (omega arith),
          lt-ltb (length (numbers ++ more)) 15 (omega (arith, length-append numbers more)),
        );
        codes = rw (k 2 (lit< tt), k 3 (lit< tt), k 4 (lit< tt), k 5 (lit< tt), k 6 (lit< tt), last, none);
      }

  whole : length numbers ≡ 11 → SameMeaning custom numbers (numbers ++ (0 ∷ 0 ∷ at numbers 0 ∷ at numbers 1 ∷ []))
  unfolding settings_of window_of
  whole e =
      let more : List ℕ = 0 ∷ 0 ∷ at numbers 0 ∷ at numbers 1 ∷ [] in
      let k : (i : ℕ) → i < 11 → at (numbers ++ more) i ≡ at numbers i = λ i l. kept numbers more i (omega arith) in
      record {
        description = rw (
          k 0 (lit< tt),
          k 1 (lit< tt),
          k 2 (lit< tt),
          k 3 (lit< tt),
          k 4 (lit< tt),
          k 5 (lit< tt),
          k 6 (lit< tt),
          k 7 (lit< tt),
          k 8 (lit< tt),
          k 9 (lit< tt),
          k 10 (lit< tt),
          behind numbers more 11 0 e,
          behind numbers more 11 1 e,
          behind numbers more 11 2 e,
          behind numbers more 11 3 e,
          lt-ltb (length numbers) 15 (omega arith),
          le-ltb (length (numbers ++ more)) 15 (omega (arith, length-append numbers more)),
        );
        codes = rw (k 2 (lit< tt), k 3 (lit< tt), k 4 (lit< tt), k 5 (lit< tt), k 6 (lit< tt), k 10 (lit< tt));
      }

pub old_calls : (numbers : List ℕ) (custom : List Float) → OldCalls numbers custom
old_calls numbers custom = record { truncated = truncated numbers custom; whole = whole numbers custom }
