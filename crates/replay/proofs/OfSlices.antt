-- What a read says of a slice, of which only its own bytes may be left.
use Rattle.std.proofs.Common.{◌≡◌, ℕ, List, refl, subst, OnOk, IfOk, IfErr, Result, Ok, Err}
use Rattle.replay.specs.Sources.{Reads}

pub of_slice : (a b : List ℕ) (P : List ℕ → List ℕ → Type 0) → Reads (λ xs. xs ≡ a) (λ ys. ys ≡ b) P → P a b
of_slice a b P p = let r = p b refl in subst (λ xs. P xs b) r.1 r.2

-- and behind an answer
pub on_ok : {T E P Q : Type 0} (r : Result T E) → (P → Q) → OnOk r P → OnOk r Q
on_ok (Ok x) f p = f p
on_ok (Err e) f p = tt

pub if_ok : {T E : Type 0} {P Q : T → Type 0} (r : Result T E) → ((x : T) → P x → Q x) → IfOk r P → IfOk r Q
if_ok (Ok x) f p = f x p
if_ok (Err e) f p = tt

pub if_err : {T E : Type 0} {P Q : E → Type 0} (r : Result T E) → ((e : E) → P e → Q e) → IfErr r P → IfErr r Q
if_err (Ok x) f p = tt
if_err (Err e) f p = f e p
