-- What the program writes for an input: docs/RULES.md, 9.3.
-- Assumes nothing.
use Rattle.std.specs.Prelude.{ℕ, zero, suc, ◌+◌, ◌/◌, ◌%◌, ◌≤◌, ◌≡◌, cond, List, [], ◌∷◌, ◌++◌, ltb, eqb, length, take, drop}
use Rattle.yuv_error.specs.Rules.{first_numbers}
use Rattle.frame_request.specs.Request.{frame_of, request_rules, output_size, answer_at}

-- RULES 9.3: f 0, f 1, .., f (n - 1)
unfoldable pub first_bytes : (f : ℕ → ℕ) (n : ℕ) → List ℕ
first_bytes f zero = []
first_bytes f (suc n) = first_bytes f n ++ (f n ∷ [])

-- RULES 9.3: a number below 100 in decimal digits, in ASCII
abbrev pub decimal : ℕ → List ℕ
decimal n = cond (ltb n 10) ((48 + n) ∷ []) ((48 + n / 10) ∷ (48 + n % 10) ∷ [])

-- RULES 9.3: "refused ", in ASCII
abbrev pub refused_text : List ℕ
refused_text = 114 ∷ 101 ∷ 102 ∷ 117 ∷ 115 ∷ 101 ∷ 100 ∷ 32 ∷ []

-- RULES 9.3: `refused N` and a newline
abbrev pub refusal_line : ℕ → List ℕ
refusal_line n = refused_text ++ (decimal n ++ (10 ∷ []))

-- RULES 9.3: the bytes of standard output
unfoldable pub reply : List ℕ → List ℕ
reply input =
    let n = (first_numbers (request_rules input)).number in
    cond (eqb n 0) (first_bytes (answer_at input) (output_size (frame_of input))) (refusal_line n)

-- RULES 9.3: `text` stands at the start of `after`, n bytes of it, and the rest is as in `before`; `counted` follows, and is what lending
-- `&after[..n]` asks
pub record Begins (text before : List ℕ) (n : ℕ) (after : List ℕ) : Type 0 where
  pub size : n ≡ length text
  pub fits : n ≤ length after
  pub counted : n ≡ length (take n after)
  pub written : take n after ≡ text
  pub rest : drop n after ≡ drop n before
