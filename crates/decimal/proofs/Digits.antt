-- A number's digits, put into a list one by one: those of its tenth, and its last.
-- Assumes nothing.
use Prim.Native.Nat.{ℕ, suc, ◌+◌, ◌/◌, ◌%◌, ◌^◌, ◌≤◌, ◌<◌}
use mathlib.Core.Path.{◌≡◌, sym, ap, ◌∙◌}
use mathlib.Core.List.{List, [], ◌∷◌, ◌++◌}
use native.Mathlib.Nat.{add-zero, add-suc, suc-add}
use lib.ListN.{length, set, length-append}
use lib.Seq.{sets}
use Rattle.std.specs.Prelude.{decimal}
use Rattle.std.proofs.lemmas.Fmt.{decimal_digit, decimal_step}

-- a run, and one item behind it
pub sets_last : (s d : List ℕ) (at x : ℕ) → sets d at (s ++ (x ∷ [])) ≡ set (sets d at s) (at + length s) x
sets_last [] d at x = rw add-zero
sets_last (y ∷ s) d at x = rw (add-suc, ← suc-add) (sets_last s (set d at y) (suc at) x)

module _ (n : ℕ) where
  pub one_digit : n < 10 → length (decimal n) ≡ 1
  one_digit l = ap length (decimal_digit n l)

  pub longer : 10 ≤ n → n < 2 ^ 64 → length (decimal n) ≡ length (decimal (n / 10)) + 1
  longer l h = ap length (decimal_step n l h) ∙ length-append (decimal (n / 10)) ((48 + n % 10) ∷ [])

  -- one digit is put
  pub put_one : (d : List ℕ) (at : ℕ) → n < 10 → set d at (48 + n) ≡ sets d at (decimal n)
  put_one d at l = rw (decimal_digit n l)

  -- the last is put behind those of a tenth
  pub put_more : (d e : List ℕ) (at last : ℕ) → 10 ≤ n → n < 2 ^ 64 → e ≡ sets d at (decimal (n / 10)) → last ≡ at + length (decimal (n / 10))
      → set e last (48 + n % 10) ≡ sets d at (decimal n)
  put_more d e at last l h is place = rw (is, place, decimal_step n l h) (sym (sets_last (decimal (n / 10)) d at (48 + n % 10)))
