-- A camera's part of a list that was lent and came back.
-- Assumes nothing.
use Prim.Native.Nat.{ℕ, ◌+◌, ◌*◌, ◌-◌}
use mathlib.Core.Path.{◌≡◌, ap, ◌∙◌}
use mathlib.Core.List.{List, ◌++◌}
use native.Mathlib.Omega.{arith}
use borrow.Rule.Slice.PartMut.{put_mid, Post-is}
use lib.ListN.{take, drop}
use Rattle.desk_numbers.specs.Numbers.{with_camera}

-- the part of camera c was lent and came back
pub put_back : {A : Type 0} (many : ℕ) (xs : List A) (c : ℕ) {ys zs : List A} → ys ≡ zs
    → put_mid (many * c) (many * c + many - many * c) xs ys ≡ with_camera many xs c zs
put_back {A} many xs c {ys} e =
    ap (λ (l : List A). take (many * c) xs ++ (ys ++ l)) (Post-is (many * c) (many * c + many) xs (omega arith))
    ∙ ap (λ (l : List A). take (many * c) xs ++ (l ++ drop (many * c + many) xs)) e
