-- A file and its records: the check says yes exactly where there are records, and they are those that are read, so they are the only ones. A file of
-- at most 4,096 records is far below 2 ^ 64 bytes long, so every offset fits. Assumes nothing.
use Prim.Native.Nat.{ℕ, zero, suc, ◌+◌, ◌*◌, ◌^◌, ◌≤◌, ◌<◌}
use mathlib.Core.Path.{◌≡◌, refl, ap, sym, ◌∙◌}
use mathlib.Core.Bool.{true}
use mathlib.Core.List.{List, [], ◌∷◌, ◌++◌, append-nil}
use native.Mathlib.Nat.{add-zero, add_assoc}
use native.Mathlib.Omega.{arith}
use lib.Dec.{leb, eqb}
use lib.ListN.{length, get_or, take, drop, length-append, length-drop, take-append-drop}
use lib.Seq.{drop-drop, drop_at}
use borrow.Author.Tests.{leb-true, le-leb, eqb-true, eq-eqb, ne_eqb}
use Rattle.std.proofs.lemmas.Bool.{and_from, and_parts}
use Rattle.little_endian.specs.Number.{Bytes, low_bytes, number_in}
use Rattle.little_endian.proofs.Number.{length_low, bytes_drop, number_low, low_number, low_rest, drop_low}
use Rattle.shift_file.specs.declared.ShiftForm.{ShiftForm}
use Rattle.shift_file.specs.declared.ShiftForm.TheVariants.{WithoutSettings, WithSettings}
use Rattle.shift_file.specs.File.{ShiftRecord, EachAllowed, HasFile, IsFileOf, mark, mark_size, pairs_at, records_at, bytes_of, pairs_of, record_bytes, file_of}
use Rattle.shift_file.specs.Read.{count_at, records_in}
use Rattle.shift_file.specs.Check.{is_marked, records_follow, is_file, form_in}
use Rattle.shift_file.specs.Means.{SomeList, OneList, ReadBack, Rewritten, OneForm, FormOfFile, SomeForm}
use Rattle.shift_file.proofs.Record.{size_most}
use Rattle.shift_file.proofs.Walk.{Walked, walk_records, records_walk, records_are, pair_drop}

pub length_pairs : (at : ℕ) (rs : List ShiftRecord) → length (pairs_of at rs) ≡ 12 * length rs
unfolding pairs_of
length_pairs at [] = refl
length_pairs at (r ∷ rs) = simp (length-append, length_low) (omega (arith, length_pairs (at + length (bytes_of r)) rs))

pub length-mark : (form : ShiftForm) → length (mark form) ≡ mark_size form
length-mark WithoutSettings = refl
length-mark WithSettings = length_low 4 4294967295

mark_most : (form : ShiftForm) → mark_size form ≤ 4
mark_most WithoutSettings = omega arith
mark_most WithSettings = omega arith

records_most : (form : ShiftForm) (rs : List ShiftRecord) → EachAllowed form rs → length (record_bytes rs) ≤ 2 ^ 30 * length rs
unfolding record_bytes
records_most form [] es = omega arith
records_most form (r ∷ rs) es = rw length-append (omega (arith, size_most form r es.0, records_most form rs es.1))

-- ---- the parts of a file

module _ (form : ShiftForm) (rs : List ShiftRecord) where
  after_mark : drop (mark_size form) (file_of form rs) ≡ low_bytes 4 (length rs) ++ (pairs_of (records_at form (length rs)) rs ++ record_bytes rs)
  unfolding file_of
  after_mark = drop_at (mark form) _ (mark_size form) (length-mark form)

  pub after_count : drop (pairs_at form) (file_of form rs) ≡ pairs_of (records_at form (length rs)) rs ++ record_bytes rs
  after_count = sym (drop-drop 4 (mark_size form) (file_of form rs)) ∙ rw after_mark (drop_low 4 (length rs) _)

  pub after_pairs : drop (records_at form (length rs)) (file_of form rs) ≡ record_bytes rs
  after_pairs =
      sym (drop-drop (12 * length rs) (pairs_at form) (file_of form rs))
      ∙ rw after_count (drop_at (pairs_of (records_at form (length rs)) rs) (record_bytes rs) _ (length_pairs _ rs))

  pub count_is : length rs ≤ 4096 → count_at form (file_of form rs) ≡ length rs
  unfolding count_at
  count_is h = rw after_mark (number_low 4 (length rs) _ (omega arith))

  pub length_file : length (file_of form rs) ≡ records_at form (length rs) + length (record_bytes rs)
  unfolding file_of
  length_file = simp (length-append, length_low, length_pairs, length-mark) (omega arith)

  pub file_most : HasFile form rs → length (file_of form rs) < 2 ^ 64
  file_most h = omega (arith, length_file, mark_most form, records_most form rs h.each, h.few)

marked_file : (form : ShiftForm) (rs : List ShiftRecord) → is_marked form (file_of form rs) ≡ true
unfolding file_of
marked_file WithoutSettings rs = refl
marked_file WithSettings rs = eq-eqb _ _ (number_low 4 4294967295 _ (omega arith))

-- ---- the check says yes to a file

pub file_checked : (form : ShiftForm) (rs : List ShiftRecord) → HasFile form rs → is_file form (file_of form rs) ≡ true
unfolding is_file records_follow
file_checked form rs h =
    let file = file_of form rs in
    let n = length rs in
    let long = length_file form rs in
    let starts : records_at form n ≤ length file = omega arith in
    let header : pairs_at form ≤ length file = omega arith in
    rw (count_is form rs h.few)
    (and_from (leb (pairs_at form) (length file)) _ (le-leb _ _ header)
    (and_from (is_marked form file) _ (marked_file form rs)
    (and_from (leb n 4096) _ (le-leb _ _ h.few)
    (and_from (leb (records_at form n) (length file)) _ (le-leb _ _ starts)
    (records_walk form file (record_bytes rs) rs (pairs_at form) (records_at form n) (file_most form rs h) starts h.each
    (after_count form rs) (after_pairs form rs))))))

-- ---- and to nothing else

mark_is : (form : ShiftForm) (b : List ℕ) → Bytes b → pairs_at form ≤ length b → is_marked form b ≡ true → take (mark_size form) b ≡ mark form
mark_is WithoutSettings b bytes h e = refl
mark_is WithSettings b bytes h e = sym (low_number 4 b bytes (omega arith)) ∙ ap (low_bytes 4) (eqb-true (number_in 4 b) 4294967295 e)

count_Bytes : (form : ShiftForm) (b : List ℕ) → Bytes b → pairs_at form ≤ length b
    → low_bytes 4 (count_at form b) ++ drop (pairs_at form) b ≡ drop (mark_size form) b
unfolding count_at
count_Bytes form b bytes h =
    rw (← drop-drop 4 (mark_size form) b) (low_rest 4 (drop (mark_size form) b) (bytes_drop (mark_size form) b bytes) (rw length-drop (omega arith)))

together : (form : ShiftForm) (b : List ℕ) (rs : List ShiftRecord) → Bytes b → pairs_at form ≤ length b → is_marked form b ≡ true
    → Walked form b (pairs_at form) (records_at form (count_at form b)) (count_at form b) rs → file_of form rs ≡ b
unfolding file_of
together form b rs bytes h e w =
    rw (w.count, ← w.bytes, ← w.pairs, count_Bytes form b bytes h, ← mark_is form b bytes h e) (take-append-drop (mark_size form) b)

pub record Checked (form : ShiftForm) (b : List ℕ) : Type 0 where
  pub file : IsFileOf form b (records_in form b)
  pub count : length (records_in form b) ≡ count_at form b

pub Checked-file : (form : ShiftForm) (b : List ℕ) → Bytes b → is_file form b ≡ true → Checked form b
unfolding is_file records_follow
Checked-file form b bytes e =
    let n = count_at form b in
    let e₁ = and_parts (leb (pairs_at form) (length b)) _ e in
    let e₂ = and_parts (is_marked form b) _ e₁.1 in
    let e₃ = and_parts (leb n 4096) _ e₂.1 in
    let e₄ = and_parts (leb (records_at form n) (length b)) _ e₃.1 in
    let starts : records_at form n ≤ length b = leb-true _ _ e₄.0 in
    let w = walk_records form b n (pairs_at form) (records_at form n) bytes starts starts e₄.1 in
    record {
      file = record {
        has = record { few = rw w.count (leb-true _ _ e₃.0); each = w.each };
        same = together form b (records_in form b) bytes (leb-true _ _ e₁.0) e₂.0 w;
      };
      count = w.count;
    }

-- ---- what this comes to

pub read_back : ReadBack
read_back form rs h =
    rw (count_is form rs h.few) (records_are form (file_of form rs) rs (records_at form (length rs)) h.each (after_pairs form rs))

pub rewritten : Rewritten
rewritten form b bytes e = (Checked-file form b bytes e).file.same

-- a file's records are those that are read
pub its_records : (form : ShiftForm) (b : List ℕ) (rs : List ShiftRecord) → IsFileOf form b rs → records_in form b ≡ rs
its_records form b rs f = rw (← f.same) (read_back form rs f.has)

pub one_list : OneList
one_list form b rs ss f g = sym (its_records form b rs f) ∙ its_records form b ss g

pub is_checked : (form : ShiftForm) (b : List ℕ) (rs : List ShiftRecord) → IsFileOf form b rs → is_file form b ≡ true
is_checked form b rs f = rw (← f.same) (file_checked form rs f.has)

pub some_list : SomeList
some_list form b bytes = (λ e. (records_in form b, (Checked-file form b bytes e).file), λ f. is_checked form b f.0 f.1)

-- a count is not as large as the mark
pub form_of_file : FormOfFile
unfolding is_file count_at form_in
form_of_file WithSettings b e =
    let p = and_parts (leb 8 (length b)) _ e in
    let q = and_parts (eqb (number_in 4 b) 4294967295) _ p.1 in
    rw (le-leb 4 (length b) (omega (arith, leb-true 8 (length b) p.0)), q.0)
form_of_file WithoutSettings b e =
    let p = and_parts (leb 4 (length b)) _ e in
    let q = and_parts (leb (number_in 4 b) 4096) _ p.1 in
    rw (p.0, ne_eqb (number_in 4 b) 4294967295 (λ z. omega (arith, leb-true (number_in 4 b) 4096 q.0)))

pub form_of : (form : ShiftForm) (b : List ℕ) (rs : List ShiftRecord) → IsFileOf form b rs → form_in b ≡ form
form_of form b rs f = form_of_file form b (is_checked form b rs f)

pub some_form : SomeForm
some_form b = (λ e. (form_in b, e), λ f. rw (form_of_file f.0 b f.1) f.1)

pub one_form : OneForm
one_form b e f =
    let same : WithSettings ≡ WithoutSettings = sym (form_of_file WithSettings b e) ∙ form_of_file WithoutSettings b f in
    cc same

-- ---- where record k stands

module _ (d : ShiftRecord) where
  pub bytes_at : (k : ℕ) (rs : List ShiftRecord) → k < length rs
      → drop (length (record_bytes (take k rs))) (record_bytes rs) ≡ bytes_of (get_or rs k d) ++ record_bytes (drop (suc k) rs)
  unfolding record_bytes
  bytes_at k [] h = absurd (omega arith)
  bytes_at zero (r ∷ rs) h = refl
  bytes_at (suc k) (r ∷ rs) h =
      rw length-append
      (sym (drop-drop (length (record_bytes (take k rs))) (length (bytes_of r)) (bytes_of r ++ record_bytes rs))
      ∙ rw (drop_at (bytes_of r) (record_bytes rs) (length (bytes_of r)) refl) (bytes_at k rs (omega arith)))

  pub pairs_at_lem : (k at : ℕ) (rs : List ShiftRecord) → k < length rs
      → drop (12 * k) (pairs_of at rs)
      ≡ low_bytes 8 (at + length (record_bytes (take k rs)))
      ++ (low_bytes 4 (length (bytes_of (get_or rs k d))) ++ pairs_of (at + length (record_bytes (take (suc k) rs))) (drop (suc k) rs))
  unfolding pairs_of record_bytes
  pairs_at_lem k at [] h = absurd (omega arith)
  pairs_at_lem zero at (r ∷ rs) h = rw (add-zero, append-nil)
  pairs_at_lem (suc k) at (r ∷ rs) h =
      let past : 12 * suc k ≡ 12 + 12 * k = omega arith in
      let size = length (bytes_of r) in
      rw (
        past,
        ← drop-drop (12 * k) 12 (low_bytes 8 at ++ (low_bytes 4 size ++ pairs_of (at + size) rs)),
        pair_drop _ (pairs_of (at + size) rs) at size refl,
        length-append,
        length-append,
        ← add_assoc,
        ← add_assoc,
      )
      (pairs_at_lem k (at + size) rs (omega arith))
