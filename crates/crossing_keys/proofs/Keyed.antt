-- Key i of a list is its number i above place i. Sorted keys name records, and have their crossings; there are as many as records.
-- Assumes nothing.
use Rattle.std.proofs.Common.{◌≡◌, sym, ◌∙◌, ap, ap₂, arith, ℕ, zero, suc, ◌+◌, ◌/◌, ◌%◌, ◌^◌, ◌≤◌, ◌<◌, false, List, [], ◌∷◌, ◌++◌, map, length, get_or, take, set, take-suc, add-one}
use lib.ListN.{length-map, get_or-map}
use Rattle.std.specs.List.Sorted.{IsSortedBy, IsNonDecreasingBy}
use Rattle.std.specs.Ordering.{is_lt, nat_cmp}
use Rattle.std.proofs.lemmas.List.{take_more_set, take_all, map-append, get_or-map as get_or-mapped}
use Rattle.std.proofs.lemmas.List.Sorted.{IsNonDecreasingBy-from_all_adjacent}
use Rattle.merge_sort.specs.Order.{All, Sorted}
use Rattle.merge_sort.specs.Ascending.{sorted, key, keys_from}
use Rattle.merge_sort.proofs.Permuted.{permuted_length, All-at}
use Rattle.merge_sort.proofs.Insertion.{sorted-Ordered, sorted_all}
use Rattle.merge_sort.proofs.Keys.{keys_length, keys_named}
use Rattle.shift_file.specs.declared.ShiftForm.{ShiftForm}
use Rattle.shift_file.specs.File.{ShiftRecord, EachAllowed, HasFile}
use Rattle.shift_reader.specs.Entry.{no_record, nth}
use Rattle.crossing_keys.specs.declared.key.Key.{Key}
use Rattle.crossing_keys.specs.Keys.{crossing_of, crossings_of, number_of}

key_at : (cs : List ℕ) (i k : ℕ) → k < length cs → get_or (keys_from i cs) k 0 ≡ key (get_or cs k 0) (i + k)
unfolding keys_from
key_at [] i k h = absurd (omega arith)
key_at (c ∷ cs) i zero h = omega arith
key_at (c ∷ cs) i (suc k) h = key_at cs (i + 1) k (omega arith) ∙ omega arith

module _ (rs : List ShiftRecord) where
  pub keys_long : length (keys_from 0 (crossings_of rs)) ≡ length rs
  keys_long = keys_length 0 (crossings_of rs) ∙ length-map rs crossing_of

  -- the key of record k
  pub its_key : (k v : ℕ) → k < length rs → v ≡ key (nth rs k).crossing k → v ≡ get_or (keys_from 0 (crossings_of rs)) k 0
  its_key k v h e =
      let crossing : get_or (crossings_of rs) k 0 ≡ (nth rs k).crossing = get_or-map crossing_of rs k no_record in
      e ∙ sym (key_at (crossings_of rs) 0 k (omega (arith, length-map rs crossing_of)) ∙ omega (arith, crossing))

  -- ---- sorted

  pub sorted_long : length (sorted (keys_from 0 (crossings_of rs))) ≡ length rs
  sorted_long = sym (permuted_length (sorted-Ordered (keys_from 0 (crossings_of rs))).permuted) ∙ keys_long

  pub keys_sorted : Sorted ◌≤◌ (sorted (keys_from 0 (crossings_of rs)))
  keys_sorted = (sorted-Ordered (keys_from 0 (crossings_of rs))).sorted

  pub keys_place : length rs ≤ 4096 → All (λ k. k % 4096 < length rs) (sorted (keys_from 0 (crossings_of rs)))
  keys_place few = keys_named no_record crossing_of rs few

crossings_below : (form : ShiftForm) (rs : List ShiftRecord) (i : ℕ) → i + length rs ≤ 4096 → EachAllowed form rs
    → All (λ k. k / 4096 < 256 ^ 4) (keys_from i (crossings_of rs))
unfolding All keys_from
crossings_below form [] i few e = tt
crossings_below form (r ∷ rs) i few e = (omega (arith, e.0.crossing), crossings_below form rs (i + 1) (omega arith) e.1)

-- a crossing has 32 bits
pub keys_below : (form : ShiftForm) (rs : List ShiftRecord) → HasFile form rs → All (λ k. k / 4096 < 256 ^ 4) (sorted (keys_from 0 (crossings_of rs)))
keys_below form rs h = sorted_all _ _ (crossings_below form rs 0 (omega (arith, h.few)) h.each)

-- ---- keys of the code

-- one key more is written
pub keys_more : (ns : List ℕ) (keys : List Key) (i : ℕ) (k : Key) → i < length keys → i < length ns → number_of k ≡ get_or ns i 0
    → map number_of (take i keys) ≡ take i ns → map number_of (take (i + 1) (set keys i k)) ≡ take (i + 1) ns
keys_more ns keys i k h n e done =
    ap (map number_of) (take_more_set keys i k h) ∙ map-append number_of (take i keys) (k ∷ []) ∙ ap₂ (λ (a : List ℕ) (x : ℕ). a ++ x ∷ []) done e
    ∙ sym (take-suc ns i 0 n) ∙ ap (λ (m : ℕ). take m ns) (sym (add-one i))

pub keys_all : (ns : List ℕ) (keys : List Key) (i : ℕ) → length keys ≤ i → length ns ≤ i → map number_of (take i keys) ≡ take i ns → map number_of keys ≡ ns
keys_all ns keys i h n done = ap (map number_of) (sym (take_all i keys h)) ∙ done ∙ take_all i ns n

-- number i of the keys is that of key i
pub its_number : (keys : List Key) (i : ℕ) (d : Key) → i < length keys → get_or (map number_of keys) i 0 ≡ (get_or keys i d).0
its_number keys i d h = get_or-mapped number_of keys i d 0 h

-- the places of a file's keys are those of its records
module _ (rs : List ShiftRecord) (keys : List Key) (few : length rs ≤ 4096) (e : map number_of keys ≡ sorted (keys_from 0 (crossings_of rs))) where
  pub place_below : (i : ℕ) (d : Key) → i < length keys → (get_or keys i d).0 % 4096 < length rs
  place_below i d h =
      let named : All (λ n. n % 4096 < length rs) (map number_of keys) = rw e (keys_place rs few) in
      rw (its_number keys i d h) at (All-at (λ n. n % 4096 < length rs) 0 (map number_of keys) i named (omega (arith, length-map keys number_of, h)))

  pub as_many : length keys ≡ length rs
  as_many = sym (length-map keys number_of) ∙ ap length e ∙ sorted_long rs

-- keys compare as their numbers do
by_number : (a b : Key) → is_lt (nat_cmp a.0 b.0) ≡ false → number_of b ≤ number_of a
by_number a b h = grind arith

pub keys_in_order : (keys : List Key) → IsSortedBy (λ (a b : Key). is_lt (nat_cmp a.0 b.0)) keys → IsNonDecreasingBy number_of keys
keys_in_order keys s = IsNonDecreasingBy-from_all_adjacent number_of keys (λ k d h. by_number (get_or keys (k + 1) d) (get_or keys k d) (s k d (omega arith) h))
