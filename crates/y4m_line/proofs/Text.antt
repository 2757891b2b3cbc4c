-- A line and its words: the words of a text are its word and tags, and of any line without newline the words give the text again. So the check of a
-- line says yes exactly where it is a line of some tags, and they are those that are read.
-- Assumes nothing.
use Prim.Native.Nat.{ℕ, zero, suc, ◌+◌, ◌-◌, ◌≤◌, ◌<◌}
use mathlib.Core.Path.{◌≡◌, refl, ap, ap₂, sym, ◌∙◌}
use mathlib.Core.Bool.{Bool, true, false, ◌&&◌, not, true≢false}
use mathlib.Core.List.{List, [], ◌∷◌, ◌++◌, append-nil, append_assoc}
use native.Mathlib.Omega.{arith}
use lib.Dec.{ltb, eqb}
use lib.ListN.{length, get_or, take, drop, length-append, length-take}
use lib.Seq.{take-append-add, take_at, drop-append-add, drop-cons}
use borrow.Author.Tests.{lt-ltb, ltb-true, ne_eqb, eq-eqb, eqb-true, eqb-false, not-true}
use Rattle.std.proofs.lemmas.Bool.{and_from, and_parts}
use Rattle.y4m_line.specs.Line.{Without, IsTag, EachTag, tag_bytes, text_of, line_of, IsLineOf, magic, frame}
use Rattle.y4m_line.specs.Words.{upto, onto, words, filled, same}
use Rattle.y4m_line.specs.Header.{tags_in, is_line, line_bytes, line_end}
use Rattle.y4m_line.proofs.Words.{words-cons}

-- ---- texts without a byte

abbrev pub Each : ℕ → List (List ℕ) → Type 0
Each x [] = Unit {0}
Each x (w ∷ ws) = Without x w × Each x ws

pub Without-append : (x : ℕ) (a b : List ℕ) → Without x a → Without x b → Without x (a ++ b)
Without-append x [] b h k = k
Without-append x (c ∷ a) b h k = (h.0, Without-append x a b h.1 k)

-- a text that is written out is tested
abbrev pub clear : ℕ → List ℕ → Bool
clear x [] = true
clear x (a ∷ l) = not (eqb a x) && clear x l

pub clear-Without : (x : ℕ) (l : List ℕ) → clear x l ≡ true → Without x l
clear-Without x [] e = tt
clear-Without x (a ∷ l) e = let q = and_parts (not (eqb a x)) (clear x l) e in (eqb-false a x (not-true (eqb a x) q.0), clear-Without x l q.1)

pub magic_tag : IsTag magic
magic_tag = record { some = omega arith; no_space = clear-Without 32 magic refl; no_newline = clear-Without 10 magic refl }

pub frame_tag : IsTag frame
frame_tag = record { some = omega arith; no_space = clear-Without 32 frame refl; no_newline = clear-Without 10 frame refl }

-- ---- from word and tags to the text

words_one : (a : List ℕ) → Without 32 a → words a ≡ a ∷ []
unfolding words
words_one [] h = refl
words_one (x ∷ a) h = rw (ne_eqb x 32 h.0, words_one a h.1)

words_more : (a l : List ℕ) → Without 32 a → words (a ++ (32 ∷ l)) ≡ a ∷ words l
unfolding words
words_more [] l h = refl
words_more (x ∷ a) l h = rw (ne_eqb x 32 h.0, words_more a l h.1)

pub words_text : (word : List ℕ) (tags : List (List ℕ)) → Without 32 word → EachTag tags → words (text_of word tags) ≡ word ∷ tags
unfolding text_of tag_bytes
words_text word [] h k = rw append-nil (words_one word h)
words_text word (t ∷ ts) h k = words_more word (t ++ tag_bytes ts) h ∙ ap (λ r. word ∷ r) (words_text t ts k.0.no_space k.1)

Without-tags : (tags : List (List ℕ)) → EachTag tags → Without 10 (tag_bytes tags)
unfolding tag_bytes
Without-tags [] k = tt
Without-tags (t ∷ ts) k = ((λ e. omega arith), Without-append 10 t (tag_bytes ts) k.0.no_newline (Without-tags ts k.1))

pub Without-text : (word : List ℕ) (tags : List (List ℕ)) → Without 10 word → EachTag tags → Without 10 (text_of word tags)
unfolding text_of
Without-text word tags h k = Without-append 10 word (tag_bytes tags) h (Without-tags tags k)

filled_tags : (tags : List (List ℕ)) → EachTag tags → filled tags ≡ true
unfolding filled
filled_tags [] k = refl
filled_tags (t ∷ ts) k = and_from (ltb 0 (length t)) (filled ts) (lt-ltb 0 (length t) k.0.some) (filled_tags ts k.1)

pub same_self : (a : List ℕ) → same a a ≡ true
unfolding same
same_self [] = refl
same_self (x ∷ a) = and_from (eqb x x) (same a a) (eq-eqb x x refl) (same_self a)

pub same_true : (a b : List ℕ) → same a b ≡ true → a ≡ b
unfolding same
same_true [] [] h = refl
same_true [] (y ∷ b) h = absurd (true≢false (sym h))
same_true (x ∷ a) [] h = absurd (true≢false (sym h))
same_true (x ∷ a) (y ∷ b) h = let p = and_parts (eqb x y) (same a b) h in ap₂ (λ z r. z ∷ r) (eqb-true x y p.0) (same_true a b p.1)

-- the first word is the text up to the first space
first_word : (l : List ℕ) → take (upto 32 l) l ≡ get_or (words l) 0 []
first_word l = rw (words-cons l)

module _ (word : List ℕ) (tags : List (List ℕ)) (w : IsTag word) (ts : EachTag tags) where
  pub tags_text : tags_in (text_of word tags) ≡ tags
  tags_text = rw (words_text word tags w.no_space ts)

  pub text_line : is_line word (text_of word tags) ≡ true
  unfolding is_line filled
  text_line =
      rw (first_word (text_of word tags), words_text word tags w.no_space ts, same_self word, lt-ltb 0 (length word) w.some, filled_tags tags ts)

-- ---- the line at the front

upto_at : (x : ℕ) (l t : List ℕ) → Without x l → upto x (l ++ (x ∷ t)) ≡ length l
unfolding upto
upto_at x [] t h = rw (eq-eqb x x refl)
upto_at x (a ∷ l) t h = rw (ne_eqb a x h.0) (ap suc (upto_at x l t h.1))

line_end_lem : (l t : List ℕ) → Without 10 l → length l ≤ 255 → line_end (l ++ (10 ∷ t)) ≡ length l
unfolding line_end
line_end_lem l t h k =
    let n : 256 ≡ length l + suc (255 - length l) = omega arith in
    let f : take 256 (l ++ (10 ∷ t)) ≡ l ++ (10 ∷ take (255 - length l) t)
    = ap (λ m. take m (l ++ (10 ∷ t))) n ∙ take-append-add l (10 ∷ t) (suc (255 - length l)) in
    rw (
      f,
      upto_at 10 l (take (255 - length l) t) h,
      lt-ltb (length l) (length (l ++ (10 ∷ take (255 - length l) t))) (omega (arith, length-append l (10 ∷ take (255 - length l) t))),
    )

pub length_line : (word : List ℕ) (tags : List (List ℕ)) → length (line_of word tags) ≡ length (text_of word tags) + 1
unfolding line_of
length_line word tags = rw length-append

module _ (word : List ℕ) (tags : List (List ℕ)) (w : IsTag word) (i : IsLineOf word tags) (t b : List ℕ) (here : b ≡ line_of word tags ++ t) where
  split : b ≡ text_of word tags ++ (10 ∷ t)
  unfolding line_of
  split = here ∙ append_assoc (text_of word tags) (10 ∷ []) t

  pub end_is : line_end b ≡ length (text_of word tags)
  end_is =
      rw split
      (line_end_lem (text_of word tags) t (Without-text word tags w.no_newline i.each) (omega (arith, i.short, length_line word tags)))

  pub end_short : line_end b < 256
  end_short = omega (arith, end_is, i.short, length_line word tags)

  pub text_is : take (line_end b) b ≡ text_of word tags
  text_is = rw (end_is, split) (take_at (text_of word tags) (10 ∷ t) (length (text_of word tags)) refl)

  pub rest_is : drop (line_end b + 1) b ≡ t
  rest_is = rw (end_is, split) (drop-append-add (text_of word tags) (10 ∷ t) 1)

-- ---- from a text to its word and tags

abbrev pub text_of_words : List (List ℕ) → List ℕ
text_of_words [] = []
text_of_words (w ∷ ws) = text_of w ws

words_some : (l : List ℕ) → 0 < length (words l)
words_some l = rw (words-cons l) (omega arith)

tag_text : (ws : List (List ℕ)) → 0 < length ws → tag_bytes ws ≡ 32 ∷ text_of_words ws
unfolding tag_bytes text_of
tag_text [] h = absurd (omega arith)
tag_text (w ∷ ws) h = refl

onto_text : (a : ℕ) (ws : List (List ℕ)) → text_of_words (onto a ws) ≡ a ∷ text_of_words ws
unfolding tag_bytes text_of
onto_text a [] = refl
onto_text a (w ∷ ws) = refl

module _ (a : ℕ) (l : List ℕ) (ih : text_of_words (words l) ≡ l) where
  text_case : (t : Bool) → eqb a 32 ≡ t → text_of_words (words (a ∷ l)) ≡ a ∷ l
  unfolding words text_of
  text_case true e = rw e (tag_text (words l) (words_some l) ∙ ap₂ (λ x r. x ∷ r) (sym (eqb-true a 32 e)) ih)
  text_case false e = rw e (onto_text a (words l) ∙ ap (λ r. a ∷ r) ih)

pub text_words : (l : List ℕ) → text_of_words (words l) ≡ l
unfolding words text_of tag_bytes
text_words [] = refl
text_words (a ∷ l) = text_case a l (text_words l) (eqb a 32) refl

onto-Each : (x a : ℕ) (ws : List (List ℕ)) → (a ≡ x → ⊥) → Each x ws → Each x (onto a ws)
onto-Each x a [] n h = ((n, tt), tt)
onto-Each x a (w ∷ ws) n h = ((n, h.0), h.1)

module _ (x a : ℕ) (l : List ℕ) (ih : Each x (words l)) where
  Each-case : (t : Bool) → eqb a 32 ≡ t → (eqb a 32 ≡ false → a ≡ x → ⊥) → Each x (words (a ∷ l))
  unfolding words
  Each-case true e n = rw e (tt, ih)
  Each-case false e n = rw e (onto-Each x a (words l) (n e) ih)

pub words_spaces : (l : List ℕ) → Each 32 (words l)
unfolding words
words_spaces [] = (tt, tt)
words_spaces (a ∷ l) = Each-case 32 a l (words_spaces l) (eqb a 32) refl (λ e. eqb-false a 32 e)

pub words_lines : (l : List ℕ) → Without 10 l → Each 10 (words l)
unfolding words
words_lines [] h = (tt, tt)
words_lines (a ∷ l) h = Each-case 10 a l (words_lines l h.1) (eqb a 32) refl (λ e. h.0)

Each-tag : (ws : List (List ℕ)) → filled ws ≡ true → Each 32 ws → Each 10 ws → EachTag ws
unfolding filled
Each-tag [] f s n = tt
Each-tag (w ∷ ws) f s n =
    let p = and_parts (ltb 0 (length w)) (filled ws) f in
    (record { some = ltb-true 0 (length w) p.0; no_space = s.0; no_newline = n.0 }, Each-tag ws p.1 s.1 n.1)

tags_from : (ws : List (List ℕ)) (w : List ℕ) (vs : List (List ℕ)) → ws ≡ w ∷ vs → EachTag ws → EachTag vs
tags_from [] w vs e k = absurd (omega (arith, ap length e))
tags_from (u ∷ us) w vs e k = rw (← ap (drop 1) e) k.1

module _ (word l : List ℕ) (is : is_line word l ≡ true) where
  pub words_are : words l ≡ word ∷ tags_in l
  unfolding is_line
  words_are =
      let p = and_parts (same (take (upto 32 l) l) word) (filled (words l)) is in
      drop-cons (words l) 0 [] (words_some l) ∙ ap (λ w. w ∷ tags_in l) (sym (first_word l) ∙ same_true (take (upto 32 l) l) word p.0)

  pub text_same : text_of word (tags_in l) ≡ l
  text_same = sym (ap text_of_words words_are) ∙ text_words l

  tags_each : Without 10 l → EachTag (tags_in l)
  unfolding is_line
  tags_each n =
      let p = and_parts (same (take (upto 32 l) l) word) (filled (words l)) is in
      tags_from (words l) word (tags_in l) words_are (Each-tag (words l) p.1 (words_spaces l) (words_lines l n))

  pub is_line_of : Without 10 l → length l ≤ 255 → IsLineOf word (tags_in l)
  is_line_of n h = record {
    each = tags_each n;
    short = rw (length_line word (tags_in l), text_same) (omega arith);
  }

-- ---- the line at the front of any bytes

-- the first x of the first m bytes, and what stands around it
abbrev Found : (x m : ℕ) → List ℕ → Type 0
Found x m b =
    (b ≡ take (upto x (take m b)) b ++ (x ∷ drop (suc (upto x (take m b))) b)) × Without x (take (upto x (take m b)) b)

module _ (x a : ℕ) (b : List ℕ) (m : ℕ) (ih : upto x (take m b) < length (take m b) → Found x m b) where
  Found-case : (t : Bool) → eqb a x ≡ t → upto x (a ∷ take m b) < suc (length (take m b)) → Found x (suc m) (a ∷ b)
  unfolding upto
  Found-case true e h = rw e (ap (λ y. y ∷ b) (eqb-true a x e), tt)
  Found-case false e h =
      let k : suc (upto x (take m b)) < suc (length (take m b)) = rw e at h in
      let p = ih (omega arith) in
      rw e (ap (λ r. a ∷ r) p.0, (eqb-false a x e, p.1))

found_at : (x : ℕ) (b : List ℕ) (m : ℕ) → upto x (take m b) < length (take m b) → Found x m b
found_at x [] zero h = absurd (omega arith)
found_at x [] (suc m) h = absurd (omega arith)
found_at x (a ∷ b) zero h = absurd (omega arith)
found_at x (a ∷ b) (suc m) h = Found-case x a b m (found_at x b m) (eqb a x) refl h

module _ (b : List ℕ) (h : line_end b < 256) where
  end_case : (t : Bool) → ltb (line_bytes b) (length (take 256 b)) ≡ t → (line_bytes b < length (take 256 b)) × (line_end b ≡ line_bytes b)
  unfolding line_end
  end_case true e = (ltb-true (line_bytes b) (length (take 256 b)) e, rw e)
  end_case false e = let k : 256 < 256 = rw e at h in absurd (omega arith)

  end_found : (line_bytes b < length (take 256 b)) × (line_end b ≡ line_bytes b)
  end_found = end_case (ltb (line_bytes b) (length (take 256 b))) refl

  pub line_split : take (line_end b) b ++ (10 ∷ drop (line_end b + 1) b) ≡ b
  line_split =
      let next : line_bytes b + 1 ≡ suc (line_bytes b) = omega arith in
      rw (end_found.1, next) (sym (found_at 10 b 256 end_found.0).0)

  pub line_clear : Without 10 (take (line_end b) b)
  line_clear = rw end_found.1 (found_at 10 b 256 end_found.0).1

  pub line_short : length (take (line_end b) b) ≤ 255
  line_short = omega (arith, length-take (line_end b) b)

  -- where the check takes it for a line of this word, it is one, and the rest follows
  module _ (word : List ℕ) (is : is_line word (take (line_end b) b) ≡ true) where
    pub front_line : IsLineOf word (tags_in (take (line_end b) b))
    front_line = is_line_of word (take (line_end b) b) is line_clear line_short

    pub front_split : line_of word (tags_in (take (line_end b) b)) ++ drop (line_end b + 1) b ≡ b
    unfolding line_of
    front_split =
        append_assoc (text_of word (tags_in (take (line_end b) b))) (10 ∷ []) (drop (line_end b + 1) b)
        ∙ ap (λ l. l ++ (10 ∷ drop (line_end b + 1) b)) (text_same word (take (line_end b) b) is)
        ∙ line_split
