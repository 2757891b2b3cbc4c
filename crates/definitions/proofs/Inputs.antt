-- The cases of a chroma input: which holds goes by 2j + 1 and the width.
-- Assumes nothing.
use mathlib.Core.Path.{◌≡◌}
use Prim.Native.Nat.{ℕ, ◌+◌, ◌*◌, ◌≤◌, ◌<◌}
use borrow.Author.Tests.{lt-ltb, le-ltb}
use Rattle.definitions.specs.declared.FrameDescription.{FrameDescription}
use Rattle.definitions.specs.Row.{Pixels, corrected, linear, input420, input422}

module _ (d : FrameDescription) (row below : Pixels) (j i : ℕ) where
  pub input420_pair : 2 * j + 1 < d.width → let s = d.settings in
      corrected s (9 * linear s (row (2 * j) i) + 3 * linear s (row (2 * j + 1) i) + 3 * linear s (below (2 * j) i) + 1 * linear s
      (below (2 * j + 1) i)) ≡ input420 d row below j i
  unfolding input420
  input420_pair h = rw (lt-ltb (2 * j + 1) d.width h)

  pub input420_last : d.width ≤ 2 * j + 1 → let s = d.settings in corrected s
      (12 * linear s (row (2 * j) i) + 4 * linear s (below (2 * j) i)) ≡ input420 d row below j i
  unfolding input420
  input420_last h = rw (le-ltb (2 * j + 1) d.width h)

module _ (d : FrameDescription) (row : Pixels) (j i : ℕ) where
  pub input422_pair : 2 * j + 1 < d.width → let s = d.settings in corrected s
      (12 * linear s (row (2 * j) i) + 4 * linear s (row (2 * j + 1) i)) ≡ input422 d row j i
  unfolding input422
  input422_pair h = rw (lt-ltb (2 * j + 1) d.width h)

  pub input422_last : d.width ≤ 2 * j + 1 → row (2 * j) i ≡ input422 d row j i
  unfolding input422
  input422_last h = rw (le-ltb (2 * j + 1) d.width h)
