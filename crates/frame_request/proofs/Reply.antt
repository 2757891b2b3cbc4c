-- What the program writes, from the promise of a request: planes that are painted at the start of the output stand there as a list, and a
-- refusal leaves the output as it was until its line is put there. Assumes nothing.
use Prim.Native.Nat.{ℕ, zero, suc, ◌+◌, ◌/◌, ◌≤◌, ◌<◌}
use mathlib.Core.Path.{◌≡◌, refl, sym, ap, subst, ◌∙◌}
use mathlib.Core.Bool.{Bool, true, false, cond, ◌||◌}
use mathlib.Core.List.{List, [], ◌∷◌, ◌++◌, append_assoc}
use native.Mathlib.Omega.{arith}
use borrow.Author.Tests.{ne_eqb, lt-ltb, le-ltb}
use lib.Dec.{ltb, eqb, lit≤}
use lib.ListN.{length, get_or, set, take, drop, length-append, length-drop, get_or-append}
use lib.Seq.{sets, sets-eq, ext_get_or, get_or-take, get_or-drop, get_or_at, take_at, drop_at, drop-drop, length-take-le, take_all}
use Rattle.yuv_error.specs.declared.MismatchedSize.{MismatchedSize}
use Rattle.yuv_error.specs.declared.YuvError.{YuvError}
use Rattle.yuv_error.specs.Numbers.{Numbers, numbers, sized, error_numbers}
use Rattle.yuv_error.specs.Rules.{first_numbers}
use Rattle.yuv_error.proofs.Numbers.{refused_number}
use Rattle.definitions.specs.Painted.{Painted}
use Rattle.definitions.proofs.Painted.{Painted-at, Painted-other, painted_same}
use Rattle.definitions.proofs.Planes.{below?}
use Rattle.std.specs.Prelude.{Result, Ok, Err, decimal as digits}
use Rattle.std.proofs.lemmas.Fmt.{decimal_digit, decimal_step, length-decimal-le}
use Rattle.decimal.proofs.Digits.{sets_last}
use Rattle.frame_request.specs.Request.{frame_of, malformed, luma_size, request_rules, response_numbers, output_size, answer_at, RequestPost}
use Rattle.frame_request.specs.Reply.{first_bytes, decimal, refused_text, refusal_line, reply, Begins}
use Rattle.frame_request.proofs.Answers.{rows_size, request_answer, request_answer_lem}
use Rattle.frame_request.proofs.Post.{bytes_most}
use Rattle.frame_request.proofs.Reading.{short_enough, read_enough}

-- ---- a text at the start of a list

-- a text, and one more behind it
pub Begins-more : (s e o p q : List ℕ) (a k : ℕ) → length s ≡ a → length e ≡ k → p ≡ s ++ drop a o → q ≡ take a p ++ (e ++ drop k (drop a p))
    → Begins (s ++ e) o (a + k) q
Begins-more s e o p q a k ssize esize first second =
    let size : length (s ++ e) ≡ a + k = length-append s e ∙ omega arith in
    let is : q ≡ (s ++ e) ++ drop (a + k) o = second ∙ rw (
      first,
      take_at s (drop a o) a ssize,
      drop_at s (drop a o) a ssize,
      drop-drop k a o,
      append_assoc s e (drop (a + k) o),
    ) in
    let fits : a + k ≤ length q = omega (arith, ap length is, length-append (s ++ e) (drop (a + k) o)) in
    record {
      size = sym size;
      fits = fits;
      counted = sym (length-take-le (a + k) q fits);
      written = ap (λ (xs : List ℕ). take (a + k) xs) is ∙ take_at (s ++ e) (drop (a + k) o) (a + k) size;
      rest = ap (λ (xs : List ℕ). drop (a + k) xs) is ∙ drop_at (s ++ e) (drop (a + k) o) (a + k) size;
    }

pub first_size : (f : ℕ → ℕ) (n : ℕ) → length (first_bytes f n) ≡ n
unfolding first_bytes
first_size f zero = refl
first_size f (suc n) = length-append (first_bytes f n) (f n ∷ []) ∙ omega (arith, first_size f n)

first_at : (f : ℕ → ℕ) (n k : ℕ) → k < n → get_or (first_bytes f n) k 0 ≡ f k
unfolding first_bytes
first_at f zero k h = absurd (omega arith)
first_at f (suc n) k h =
    below? k n (λ l. get_or-append (first_bytes f n) (f n ∷ []) 0 k (omega (arith, first_size f n)) ∙ first_at f n k l)
    (λ l. let e : k ≡ n = omega arith in rw e (get_or_at (first_bytes f n) (f n) [] 0 n (first_size f n)))

Painted-Begins : {n : ℕ} {f : ℕ → ℕ} {d e : List ℕ} → n ≤ length d → Painted n f d e → Begins (first_bytes f n) d n e
Painted-Begins {n} {f} {d} {e} h p =
    let fits : n ≤ length e = omega (arith, p.size) in
    let long = length-take-le n e fits in
    record {
      size = sym (first_size f n);
      fits = fits;
      counted = sym long;
      written = ext_get_or 0 (take n e) (first_bytes f n) (long ∙ sym (first_size f n))
          (λ k l. let below : k < n = omega (arith, long) in get_or-take n e k 0 below ∙ Painted-at p k below ∙ sym (first_at f n k below));
      rest = ext_get_or 0 (drop n e) (drop n d) (length-drop n e ∙ omega (arith, p.size, length-drop n d))
          (λ k _. get_or-drop n e k 0 ∙ Painted-other p (n + k) (omega arith) ∙ sym (get_or-drop n d k 0));
    }

-- ---- the line of a refusal

-- the highest number that the program answers with is 12
number_most : (input : List ℕ) → (first_numbers (request_rules input)).number ≤ 12
unfolding request_answer
number_most input =
    let d = frame_of input in
    let need = rows_size d in
    let came = length (drop 9 input) in
    rw (request_answer_lem input) (go (malformed input) (eqb d.width 0 || eqb d.height 0) (ltb 16384 (luma_size d)) (ltb came need) (ltb need came) need came)
  where
    go : (m z a s l : Bool) (x y : ℕ) → (cond m (numbers 1 0 0) (cond z (numbers 2 0 0)
        (cond a (numbers 3 0 0) (cond s (numbers 6 x y) (cond l (numbers 12 x y) (numbers 0 0 0)))))).number ≤ 12
    go true z a s l x y = lit≤ tt
    go false true a s l x y = lit≤ tt
    go false false true s l x y = lit≤ tt
    go false false false true l x y = lit≤ tt
    go false false false false true x y = lit≤ tt
    go false false false false false x y = lit≤ tt

-- its digits are those that std prints
pub digits_are : (n : ℕ) → n < 100 → digits n ≡ decimal n
digits_are n l = below? n 10
    (λ s. rw (lt-ltb n 10 s) (decimal_digit n s))
    (λ s. rw (le-ltb n 10 s, decimal_step n s (omega arith), decimal_digit (n / 10) (omega arith)))

pub digits_most : (n : ℕ) → n < 100 → length (digits n) ≤ 2
digits_most n l = length-decimal-le 2 n (lit≤ tt) l (omega arith)

-- the line, once its text, its digits and the newline are put down
pub line_Begins : (n e : ℕ) (o p q : List ℕ) → n < 100 → 11 ≤ length o → p ≡ refused_text ++ drop 8 o → e ≡ 8 + length (digits n)
    → q ≡ set (sets p 8 (digits n)) e 10 → Begins (refusal_line n) o (e + 1) q
line_Begins n e o p q small room first end last =
    let tail : List ℕ = digits n ++ (10 ∷ []) in
    let long : length tail ≡ length (digits n) + 1 = length-append (digits n) (10 ∷ []) in
    let size : length p ≡ length o = omega (arith, ap length first, length-append refused_text (drop 8 o), length-drop 8 o) in
    let second : q ≡ take 8 p ++ (tail ++ drop (length tail) (drop 8 p)) =
    last ∙ rw end (sym (sets_last (digits n) p 8 10)) ∙ sets-eq tail p 8 (omega (arith, long, size, digits_most n small))
    ∙ append_assoc (take 8 p) tail (drop (8 + length tail) p) ∙ rw drop-drop refl in
    let all : Begins (refused_text ++ tail) o (8 + length tail) q = Begins-more refused_text tail o p q 8 (length tail) refl refl first second in
    let count : 8 + length tail ≡ e + 1 = omega (arith, long, end) in
    rw (count, digits_are n small) at all

-- ---- what is written

planes_reply : (input : List ℕ) → (first_numbers (request_rules input)).number ≡ 0 → reply input ≡ first_bytes (answer_at input) (output_size (frame_of input))
unfolding reply
planes_reply input e = ap (λ (n : ℕ). cond (eqb n 0) (first_bytes (answer_at input) (output_size (frame_of input))) (refusal_line n)) e

refused_reply : (input : List ℕ) (n : ℕ) → (first_numbers (request_rules input)).number ≡ n → eqb n 0 ≡ false → reply input ≡ refusal_line n
unfolding reply
refused_reply input n e some =
    ap (λ (n : ℕ). cond (eqb n 0) (first_bytes (answer_at input) (output_size (frame_of input))) (refusal_line n)) e
    ∙ ap (λ (b : Bool). cond b (first_bytes (answer_at input) (output_size (frame_of input))) (refusal_line n)) some

module _ {input output output' : List ℕ} {r : Result ℕ YuvError} (post : RequestPost input output r output') where
  number_is : (first_numbers (request_rules input)).number ≡ (response_numbers r).number
  number_is = sym (ap (λ (x : Numbers). x.number) post.answered)

  pub planes_replied : {n : ℕ} → r ≡ Ok n → 49152 ≤ length output → Begins (reply input) output n output'
  planes_replied {n} is long =
      let finished = number_is ∙ ap (λ (x : Result ℕ YuvError). (response_numbers x).number) is in
      let size : n ≡ output_size (frame_of input) = rw is at post.said in
      let most = rw is at (bytes_most input output r output' post) in
      subst (λ (xs : List ℕ). Begins xs output n output') (ap (first_bytes (answer_at input)) size ∙ sym (planes_reply input finished))
      (Painted-Begins (omega (arith, most)) (rw is at post.written))

  module _ {e : YuvError} {m : ℕ} {size : MismatchedSize} (is : r ≡ Err e) (numbered : sized m size ≡ error_numbers e) where
    refused_with : (first_numbers (request_rules input)).number ≡ m
    refused_with = number_is ∙ ap (λ (x : Result ℕ YuvError). (response_numbers x).number) is ∙ sym (ap (λ (x : Numbers). x.number) numbered)

    pub refused_below : m < 100
    refused_below = omega (arith, number_most input, refused_with)

    pub refused_replied : {n : ℕ} {output'' : List ℕ} → Begins (refusal_line m) output' n output'' → Begins (reply input) output n output''
    refused_replied {n} {output''} b =
        let some : eqb m 0 ≡ false = ap (λ (k : ℕ). eqb k 0) (ap (λ (x : Numbers). x.number) numbered) ∙ refused_number e in
        let same : output' ≡ output = painted_same (rw is at post.written) in
        subst (λ (xs : List ℕ). Begins xs output n output'') (sym (refused_reply input m refused_with some))
        (subst (λ (xs : List ℕ). Begins (refusal_line m) xs n output'') same b)

-- the bytes that the program reads decide what it writes
pub reply_enough : (input : List ℕ) → reply (take 65546 input) ≡ reply input
reply_enough input =
    below? 65546 (length input)
    (λ long.
    let n = (first_numbers (request_rules input)).number in
    let some : eqb n 0 ≡ false = ne_eqb n 0 λ e. omega (arith, short_enough input e) in
    refused_reply (take 65546 input) n (read_enough input) some ∙ sym (refused_reply input n refl some))
    (λ short. ap reply (take_all 65546 input short))
