-- What repeats with a period is its first bytes again and again.
use Rattle.std.proofs.Common.{◌≡◌, ℕ, zero, suc, ◌+◌, ◌-◌, ◌*◌, ◌/◌, ◌%◌, ◌<◌, ◌≤◌, ◌&&◌, cond, ltb, leb, List, ◌++◌, length, take, drop, slice_index, sym, ap, ◌∙◌, arith, append_assoc, length-drop}
use Rattle.std.proofs.Math.Nat.{div-add-mod}
use Rattle.std.proofs.lemmas.Nat.{mod_below}
use Rattle.std.proofs.lemmas.List.{ext_get_or, get_or-take, get_or-drop, length-take-le, take-append-drop, take-take, drop-take}
use Rattle.std.proofs.lemmas.Slice.{take-put_mid}
use borrow.Rule.Slice.PartMut.{mid_of, put_mid}
use Rattle.std.proofs.lemmas.List.FromFn.{get_or-map-range_with_len, length-map-range_with_len}
use Rattle.replay.specs.Stored.{Repeats}
use Rattle.replay_text.specs.Lines.{again, repeated}

module _ (p : ℕ) (xs : List ℕ) (repeats : Repeats p xs) where
  -- as many periods later stands the same
  later : (q j : ℕ) → p * q + j < length xs → slice_index xs (p * q + j) ≡ slice_index xs j
  later zero j within = ap (slice_index xs) (omega arith)
  later (suc q) j within =
      let long : p * suc q ≡ p * q + p = omega arith in
      let before : p * suc q + j - p ≡ p * q + j = omega (arith, long) in
      repeats (p * suc q + j) (omega (arith, long)) within ∙ ap (slice_index xs) before ∙ later q j (omega (arith, long, within))

  -- and it is what stands there in the first period
  first : (k : ℕ) → k < length xs → slice_index xs k ≡ slice_index xs (k % p)
  first k within =
      let e = div-add-mod k p in
      ap (slice_index xs) (sym e) ∙ later (k / p) (k % p) (omega (arith, e, within))

  -- all of it is its first period again and again
  pub is_again : 0 < p → p ≤ length xs → xs ≡ take p xs ++ again (take p xs) (length xs - p)
  is_again more within =
      let block = take p xs in
      let n = length xs - p in
      let value = λ (k : ℕ). slice_index block (k % length block) in
      let long : length block ≡ p = length-take-le p xs within in
      let as_long : length (drop p xs) ≡ length (again block n) = length-drop p xs ∙ sym (length-map-range_with_len value 0 n) in
      let at : (i : ℕ) → i < length (drop p xs) → slice_index (drop p xs) i ≡ slice_index (again block n) i = λ i l.
      let low : i < n = omega (arith, l, length-drop p xs) in
      let back : p + i - p ≡ i = omega arith in
      get_or-drop p xs i 0 ∙ repeats (p + i) (omega arith) (omega (arith, low)) ∙ ap (slice_index xs) back ∙ first i (omega (arith, low))
      ∙ sym (get_or-take p xs (i % p) 0 (mod_below i p more)) ∙ ap (λ m. slice_index block (i % m)) (sym long)
      ∙ sym (get_or-map-range_with_len value 0 n i i 0 low (omega arith)) in
      sym (take-append-drop p xs) ∙ ap (λ ys. block ++ ys) (ext_get_or 0 (drop p xs) (again block n) as_long at)

-- a room whose bytes from the ninth on were lent, and repeat now
pub lengthened : (room part : List ℕ) (given size : ℕ) → 9 < given → given < size → size ≤ length room → length part ≡ size - 9
    → Repeats (given - 9) part → take (given - 9) part ≡ take (given - 9) (mid_of 9 (size - 9) room)
    → take size (put_mid 9 (size - 9) room part) ≡ repeated (take given room) size (length room)
lengthened room part given size more longer within long repeats front =
    let bytes = take given room in
    let body = drop 9 bytes in
    let p = given - 9 in
    let n = size - given in
    let all : length bytes ≡ given = length-take-le given room (omega (arith, longer, within)) in
    let count : 9 + p ≡ given = omega (arith, more) in
    let is_body : take p part ≡ body =
    front ∙ take-take p (size - 9) (drop 9 room) (omega (arith, longer)) ∙ sym (drop-take 9 p room) ∙ ap (λ m. drop 9 (take m room)) count in
    let left : length part - p ≡ n = omega (arith, long, more) in
    let is_part : part ≡ body ++ again body n =
    is_again p part repeats (omega (arith, more)) (omega (arith, long, longer)) ∙ (λ i. is_body i ++ again (is_body i) (left i)) in
    let first : take 9 room ≡ take 9 bytes = sym (take-take 9 given room (omega (arith, more))) in
    let comes : cond (ltb 9 (length bytes) && leb size (length room)) (size - length bytes) 0 ≡ n = grind (arith, all, more, within) in
    take-put_mid 9 (size - 9) room part size (omega (arith, long, longer, more)) (omega (arith, longer, within, more)) ∙ (λ i. first i ++ is_part i)
    ∙ sym (append_assoc (take 9 bytes) body (again body n)) ∙ ap (λ xs. xs ++ again body n) (take-append-drop 9 bytes)
    ∙ ap (λ m. bytes ++ again body m) (sym comes)
