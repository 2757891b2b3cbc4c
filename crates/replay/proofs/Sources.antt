-- What reads did to what is known of the bytes that are left.
use Rattle.std.proofs.Common.{◌≡◌, ℕ, ◌+◌, ◌-◌, ◌<◌, ◌≤◌, List, [], ◌∷◌, ◌++◌, length, take, drop, replicate, refl, sym, ap, ◌∙◌, subst, arith, None, Some, OnSome, Bool, true, false, ltb, ltb-true, ltb-false, Option, inl, inr, take_all, length-take-le, length-append, length-drop, append-nil, take-append-drop}
use Rattle.std.proofs.lemmas.Bool.{cases_order}
use Rattle.std.proofs.lemmas.List.{drop_all, take_at, drop_at, drop-drop, take-replicate, drop-replicate, length-replicate}
use lib.Seq.{drop-append-le, take-append-le, take-append-add}
use borrow.Rule.Slice.PartMut.{mid_of, post_of, put_mid}
use Rattle.std.proofs.KnownBytes.{Consumes-trans}
use Rattle.std.specs.List.{FoldsTo}
use Rattle.std.specs.Io.KnownBytes.{Consumes, IsAtEnd}
use Rattle.replay.specs.Stored.{read_over, next_bytes}
use Rattle.replay.specs.Sources.{Reads, IsWhole, told, left_of}

-- what follows of the bytes follows of a read
pub reads : (a b : List ℕ → Type 0) (P Q : List ℕ → List ℕ → Type 0) → Reads a b P → ((xs ys : List ℕ) → P xs ys → Q xs ys) → Reads a b Q
reads a b P Q p f = λ ys m. let r = p ys m in (r.0, r.1, f r.0 ys r.2)

-- two reads, one after the other
pub reads_on : (a b c : List ℕ → Type 0) (P Q R : List ℕ → List ℕ → Type 0) → Reads a b P → Reads b c Q
    → ((xs ys zs : List ℕ) → P xs ys → Q ys zs → R xs zs) → Reads a c R
reads_on a b c P Q R p q f = λ zs m. let s = q zs m in let r = p s.0 s.1 in (r.0, r.1, f r.0 s.0 zs r.2 s.2)

-- many, one after the other
pub reads_all : {L A : Type 0} (left : L → List ℕ → Type 0) (R : List ℕ → A → List ℕ → Type 0) (a : L) (xs : List A) (b : L)
    → FoldsTo (λ p x q. Reads (left p) (left q) (λ old new. R old x new)) a xs b → Reads (left a) (left b) (λ old new. FoldsTo R old xs new)
reads_all left R a [] b e = λ ys m. (ys, subst (λ l. left l ys) (sym e) m, refl)
reads_all left R a (x ∷ xs) b (j, r, rest) =
    reads_on (left a) (left j) (left b) (λ old new. R old x new) (λ old new. FoldsTo R old xs new) (λ old new. FoldsTo R old (x ∷ xs) new) r
    (reads_all left R j xs b rest) (λ old mid new p q. (mid, p, q))

-- a buffer whose first bytes were read, all of it or up to the end, has the next ones, and behind the end what it had
pub read_is_over : (n : ℕ) (xs ys old new : List ℕ) → length new ≡ length old → n ≤ length new → xs ≡ take n new ++ ys → drop n new ≡ drop n old
    → (n < length new → ys ≡ []) → (new ≡ read_over xs old) × (ys ≡ drop (length old) xs)
read_is_over n xs ys old new long within is tail end =
    elim (cases_order n (length new)) [
      | inl same ↦ whole same
      | inr r ↦ elim r [ inl short ↦ part short | inr over ↦ absurd (omega (arith, over, within)) ]
    ]
  where
    long_part : length (take n new) ≡ n
    long_part = length-take-le n new within

    whole : n ≡ length new → (new ≡ read_over xs old) × (ys ≡ drop (length old) xs)
    whole same =
        let all : take n new ≡ new = take_all n new (omega (arith, same)) in
        let is_all : xs ≡ new ++ ys = is ∙ ap (λ l. l ++ ys) all in
        let none : drop (length xs) old ≡ [] = drop_all (length xs) old (omega (arith, long, ap length is_all, length-append new ys)) in (
          sym ((λ i. take (length old) (is_all i) ++ none i) ∙ append-nil (take (length old) (new ++ ys)) ∙ take_at new ys (length old) long),
          sym (ap (drop (length old)) is_all ∙ drop_at new ys (length old) long),
        )

    part : n < length new → (new ≡ read_over xs old) × (ys ≡ drop (length old) xs)
    part short =
        let is_part : xs ≡ take n new = is ∙ ap (λ l. take n new ++ l) (end short) ∙ append-nil (take n new) in
        let many : length xs ≡ n = ap length is_part ∙ long_part in
        let dropped : drop (length xs) old ≡ drop n new = ap (λ k. drop k old) many ∙ sym tail in (
          sym ((λ i. take (length old) (is_part i) ++ dropped i)
              ∙ ap (λ l. l ++ drop n new) (take_all (length old) (take n new) (omega (arith, long_part, long, within))) ∙ take-append-drop n new),
          end short ∙ sym (drop_all (length old) xs (omega (arith, many, long, within))),
        )

-- what a reader gave stands before what it may have left
taken_first : (before after : Option (List ℕ)) (front ys : List ℕ) → Consumes before after front → told after ys → told before (front ++ ys)
taken_first None after front ys p h = tt
taken_first (Some x) None front ys p h = absurd p
taken_first (Some x) (Some y) front ys p h = ap (λ l. front ++ l) h ∙ sym p

-- and is all where the reader is at its end
taken_last : (before after : Option (List ℕ)) (front ys : List ℕ) → Consumes before after front → OnSome before (IsAtEnd after) → ys ≡ [] → told before (front ++ ys)
taken_last None after front ys p end h = tt
taken_last (Some x) None front ys p end h = absurd p
taken_last (Some x) (Some y) front ys p end h = ap (λ l. front ++ l) (h ∙ sym end) ∙ sym p

-- a buffer that was read from a reader, which is at its end where it gave less than there was room for
pub read_on : (E : Type 0) (before after : Option (List ℕ)) (n : ℕ) (old new : List ℕ) (ended : Bool) → length new ≡ length old → n ≤ length new
    → Consumes before after (take n new) → drop n new ≡ drop n old → (n < length new → OnSome before (IsAtEnd after)) → ended ≡ ltb n (length new)
    → Reads (told before) (left_of {E = E} None ended after) (λ xs ys. (new ≡ read_over xs old) × (ys ≡ drop (length old) xs))
read_on E before after n old new true long within taken tail end is = λ ys none.
    let short = ltb-true n (length new) (sym is) in
    (take n new ++ ys, taken_last before after (take n new) ys taken (end short) none, read_is_over n (take n new ++ ys) ys old new long within refl tail (λ _. none))
read_on E before after n old new false long within taken tail end is = λ ys m.
    let full = ltb-false n (length new) (sym is) in (
      take n new ++ ys,
      taken_first before after (take n new) ys taken m,
      read_is_over n (take n new ++ ys) ys old new long within refl tail (λ short. absurd (omega (arith, short, full))),
    )

-- a reader of which no read failed has something that may be left
pub is_whole : {E : Type 0} (failure : Option E) (ended : Bool) (remaining : Option (List ℕ)) → failure ≡ None → IsWhole (left_of failure ended remaining)
is_whole {E} failure ended remaining none = subst (λ f. IsWhole (left_of f ended remaining)) (sym none) (by ended remaining)
  where
    by : (b : Bool) (known : Option (List ℕ)) → IsWhole (left_of {E = E} None b known)
    by true known = ([], refl)
    by false None = ([], tt)
    by false (Some xs) = (xs, refl)

-- the next bytes over zeros
pub over_zeros : (n : ℕ) (xs : List ℕ) → read_over xs (replicate n 0) ≡ next_bytes n xs
over_zeros n xs =
    let long : length (replicate {A = ℕ} n 0) ≡ n = length-replicate n 0 in
    let dropped : drop (length xs) (replicate {A = ℕ} n 0) ≡ replicate (n - length xs) 0 = drop-replicate (length xs) n 0 in
    (λ i. take (long i) xs ++ dropped i)
    ∙ elim (cases_order n (length xs)) [
      | inl same ↦ enough (omega (arith, same))
      | inr r ↦ elim r [ inl short ↦ enough (omega (arith, short)) | inr over ↦ past (omega (arith, over)) ]
    ]
  where
    enough : n ≤ length xs → take n xs ++ replicate (n - length xs) 0 ≡ take n (xs ++ replicate n 0)
    enough h =
        let none : n - length xs ≡ 0 = omega (arith, h) in
        ap (λ k. take n xs ++ replicate k 0) none ∙ append-nil (take n xs) ∙ sym (take-append-le n xs (replicate n 0) h)

    past : length xs ≤ n → take n xs ++ replicate (n - length xs) 0 ≡ take n (xs ++ replicate n 0)
    past h =
        let m = n - length xs in
        let many : length xs + m ≡ n = omega (arith, h) in
        ap (λ l. l ++ replicate m 0) (take_all n xs h) ∙ ap (λ l. xs ++ l) (sym (take-replicate m n 0 (omega arith)))
        ∙ sym (take-append-add xs (replicate n 0) m) ∙ ap (λ k. take k (xs ++ replicate n 0)) many

-- after so many bytes of a buffer a part more was read, into what follows on them
pub part_more : (before now after : Option (List ℕ)) (all buffer part : List ℕ) (size n : ℕ) → size ≤ length buffer → Consumes before now (take size buffer)
    → drop size buffer ≡ drop size all → length part ≡ length buffer - size → n ≤ length part → Consumes now after (take n part)
    → drop n part ≡ drop n (mid_of size (length buffer - size) buffer)
    → Consumes before after (take (size + n) (put_mid size (length buffer - size) buffer part))
    × (drop (size + n) (put_mid size (length buffer - size) buffer part) ≡ drop (size + n) all)
part_more before now after all buffer part size n within p tail long fits q rest =
    let k = length buffer - size in
    let front = take size buffer in
    let mid = mid_of size k buffer in
    let post = post_of size k buffer in
    let new = put_mid size k buffer part in
    let at : length front ≡ size = length-take-le size buffer within in
    let mid_long : length mid ≡ k = length-take-le k (drop size buffer) (omega (arith, length-drop size buffer)) in
    let taken : take (size + n) new ≡ front ++ take n part =
    ap (λ m. take (m + n) new) (sym at) ∙ take-append-add front (part ++ post) n ∙ ap (λ l. front ++ l) (take-append-le n part post fits) in
    let behind : drop n (part ++ post) ≡ drop n (drop size buffer) =
    drop-append-le n part post fits ∙ ap (λ l. l ++ post) rest ∙ sym (drop-append-le n mid post (omega (arith, mid_long, fits, long)))
    ∙ ap (drop n) (take-append-drop k (drop size buffer)) in
    let dropped : drop (size + n) new ≡ drop (size + n) all =
    sym (drop-drop n size new) ∙ ap (drop n) (drop_at front (part ++ post) size at) ∙ behind ∙ ap (drop n) tail ∙ drop-drop n size all in
    (subst (Consumes before after) (sym taken) (Consumes-trans before now after front (take n part) p q), dropped)

-- what a reader at its end says stands of what it had at first too
pub ended_since : (a b c : Option (List ℕ)) (taken : List ℕ) → Consumes a b taken → OnSome b (IsAtEnd c) → OnSome a (IsAtEnd c)
ended_since None b c taken p q = tt
ended_since (Some xs) None c taken p q = absurd p
ended_since (Some xs) (Some ys) c taken p q = q
