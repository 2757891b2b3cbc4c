-- What may be left of a list, and what a read of it says of that.
use Rattle.std.specs.Prelude.{◌≡◌, ◌↔◌, List, [], ℕ, Bool, true, false, ⊤, None, Some}
use Rattle.std.specs.declared.option.Option.{Option}

-- a read: whichever bytes may be left, there are bytes that may have been left before, of which this holds with them. So over many reads there are bytes of
-- which each read part after part.
abbrev pub Reads : (old new : List ℕ → Type 0) → (List ℕ → List ℕ → Type 0) → Type 0
Reads old new P = (ys : List ℕ) → new ys → (xs : List ℕ) × old xs × P xs ys

-- no read failed: there are bytes that may be left
abbrev pub IsWhole : (List ℕ → Type 0) → Type 0
IsWhole left = (xs : List ℕ) × left xs

-- the same bytes may be left
abbrev pub SameLeft : (ours theirs : List ℕ → Type 0) → Type 0
SameLeft ours theirs = (xs : List ℕ) → ours xs ↔ theirs xs

-- what a reader may have left: the bytes that it is known to have, or any
abbrev pub told : Option (List ℕ) → List ℕ → Type 0
told None xs = ⊤
told (Some ys) xs = xs ≡ ys

-- the same by the read that failed, if one did, and whether one was at the end: after a read that failed nothing is said
abbrev pub left_of : {E : Type 0} → Option E → Bool → Option (List ℕ) → List ℕ → Type 0
left_of None false remaining xs = told remaining xs
left_of None true remaining xs = xs ≡ []
left_of (Some e) ended remaining xs = ⊥
