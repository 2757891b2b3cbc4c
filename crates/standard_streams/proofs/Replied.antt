-- The reply to what was read into a buffer is the reply to all that the reader had, where what stands past the buffer changes no byte of it.
-- Assumes nothing.
use Rattle.std.proofs.Common.{◌≡◌, refl, ℕ, ◌<◌, ◌≤◌, Result, Ok, Err, OnOk, List, [], ◌++◌, length, take, None, Some, IfSome, Option, sym, ap, ◌∙◌, subst, arith, append-nil, inl, inr}
use Rattle.std.specs.Io.KnownBytes.{Appends, Consumes, IsAtEnd}
use Rattle.std.proofs.lemmas.Bool.{cases_order}
use lib.Seq.{take-append_seam}

module _ (reply : List ℕ → List ℕ) (most : ℕ) (enough : (input : List ℕ) → reply (take most input) ≡ reply input) where
  -- a whole buffer has the reply of all that follows too
  full_reply : (bs rest : List ℕ) → most ≤ length bs → length bs ≤ most → reply bs ≡ reply (bs ++ rest)
  full_reply bs rest full within =
      let size : length bs ≡ most = omega (arith, full, within) in
      let front : take most (bs ++ rest) ≡ bs = subst (λ n. take n (bs ++ rest) ≡ bs) size (take-append_seam bs rest) in
      ap reply (sym front) ∙ enough (bs ++ rest)

  same_reply : (bs rest : List ℕ) → length bs ≤ most → (length bs < most → rest ≡ []) → reply bs ≡ reply (bs ++ rest)
  same_reply bs rest within end =
      elim (cases_order (length bs) most) [
        | inl e ↦ full_reply bs rest (omega (arith, e)) within
        | inr r ↦ elim r [ inl short ↦ ap reply (sym (ap (λ ys. bs ++ ys) (end short) ∙ append-nil bs)) | inr long ↦ full_reply bs rest (omega (arith, long)) within ]
      ]

  pub replied : (a b w v : Option (List ℕ)) (bs : List ℕ) → Consumes a b bs → length bs ≤ most → (length bs < most → IsAtEnd b)
      → Appends w v (reply bs) → IfSome a (λ input. Appends w v (reply input))
  replied None b w v bs taken within end p = tt
  replied (Some x) None w v bs taken within end p = absurd taken
  replied (Some x) (Some y) w v bs taken within end p = subst (λ xs. Appends w v xs) (same_reply bs y within end ∙ ap reply (sym taken)) p

  pub replied_start : (a b w v : Option (List ℕ)) (bs : List ℕ) → Consumes a b bs → length bs ≤ most → (length bs < most → IsAtEnd b)
      → (n : ℕ) × Appends w v (take n (reply bs)) → IfSome a (λ input. (n : ℕ) × Appends w v (take n (reply input)))
  replied_start None b w v bs taken within end p = tt
  replied_start (Some x) None w v bs taken within end p = absurd taken
  replied_start (Some x) (Some y) w v bs taken within end (n, p) =
      (n, subst (λ xs. Appends w v (take n xs)) (same_reply bs y within end ∙ ap reply (sym taken)) p)

-- what an Ok says of a write stands behind another error too
pub behind : {E F P Q : Type 0} (r : Result Unit E) (s : Result Unit F) → ((x : Unit) → s ≡ Ok x → r ≡ Ok x) → (P → Q) → OnOk r P → OnOk s Q
behind r (Ok x) same f p = f (rw (same x refl) at p)
behind r (Err e) same f p = tt
