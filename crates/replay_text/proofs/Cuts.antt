-- What was cut off a text at its first newline is its first line.
use Rattle.std.proofs.Common.{◌≡◌, ◌≢◌, ℕ, ◌+◌, ◌-◌, ◌<◌, true, false, cond, List, ◌∷◌, ◌++◌, [], All, Some, length, take, slice_index, sym, ap, ◌∙◌, arith, inl, inr, append-nil}
use Rattle.std.proofs.BufReadLemmas.{take_through-append, drop_through-append}
use Rattle.std.proofs.lemmas.List.{length_push, get_or_push, take_at}
use Rattle.std.specs.Io.BufRead.{take_through, drop_through, ends_with_byte, strip_last}
use Rattle.replay_text.specs.Lines.{IsCut, IsLine}

-- a newline at the end is left out
stripped : (front : List ℕ) → strip_last 10 (front ++ 10 ∷ []) ≡ front
stripped front =
    let whole = front ++ 10 ∷ [] in
    let long : length whole ≡ length front + 1 = length_push front 10 in
    let at : slice_index whole (length whole - 1) ≡ 10 = get_or_push front 10 0 (length whole - 1) (omega (arith, long)) in
    let ends : ends_with_byte 10 whole ≡ true = grind (arith, long, at) in
    ap (λ t. cond t (take (length whole - 1) whole) whole) ends ∙ take_at front (10 ∷ []) (length whole - 1) (omega (arith, long))

-- where none stands, nothing is
kept : (front : List ℕ) → All (λ b. b ≢ 10) front → strip_last 10 front ≡ front
kept front none =
    let other : 0 < length front → slice_index front (length front - 1) ≢ 10 = λ some. none (length front - 1) 0 (omega (arith, some)) in
    let ends : ends_with_byte 10 front ≡ false = grind (arith, other) in
    ap (λ t. cond t (take (length front - 1) front) front) ends

module _ {text front rest : List ℕ} where
  pub line_cut : IsCut 10 text front rest → 0 < length text → IsLine (Some text) front (Some rest)
  line_cut (none, inl whole) some =
      let taken = ap (take_through 10) whole ∙ take_through-append 10 front (10 ∷ rest) none in
      let dropped = ap (drop_through 10) whole ∙ drop_through-append 10 front (10 ∷ rest) none in
      ((some, sym (ap (strip_last 10) taken ∙ stripped front)), ap Some (sym dropped))
  line_cut (none, inr (whole, nothing)) some =
      let all : text ≡ front ++ [] = whole ∙ sym (append-nil front) in
      let taken = ap (take_through 10) all ∙ take_through-append 10 front [] none ∙ append-nil front in
      let dropped = ap (drop_through 10) all ∙ drop_through-append 10 front [] none in
      ((some, sym (ap (strip_last 10) taken ∙ kept front none)), ap Some (nothing ∙ sym dropped))
