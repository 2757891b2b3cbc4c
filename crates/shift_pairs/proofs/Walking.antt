-- A walk under way: the tally is that of the pairs so far, and whatever walks the rest completes them. At the end they are all pairs, so that the
-- report is the tally's. Assumes nothing.
use Prim.Native.Nat.{ℕ, ◌+◌, ◌-◌, ◌/◌, ◌%◌, ◌^◌, ◌≤◌, ◌<◌}
use mathlib.Core.Path.{◌≡◌, sym, ◌∙◌, ap, ap₂}
use mathlib.Core.List.{List, [], ◌∷◌, ◌++◌, map, append_assoc, append-nil}
use native.Mathlib.Omega.{arith}
use lib.ListN.{length, get_or, drop, drop_of_length-le, length-append, length-map}
use Rattle.std.proofs.lemmas.List.{drop_more}
use Rattle.merge_sort.specs.Order.{count}
use Rattle.merge_sort.specs.Ascending.{sorted, keys_from}
use Rattle.shift_file.specs.File.{HasFile}
use Rattle.crossing_keys.specs.declared.key.Key.{Key}
use Rattle.crossing_keys.specs.Keys.{crossing_of, crossings_of, number_of}
use Rattle.crossing_keys.proofs.Keyed.{sorted_long, keys_sorted, keys_below, its_number}
use Rattle.std.proofs.Common.{None}
use Rattle.shift_pairs.specs.declared.PairReport.{PairReport}
use Rattle.shift_pairs.specs.declared.Tally.{Tally}
use Rattle.shift_pairs.specs.Pairs.{Files, Pair, all_pairs}
use Rattle.shift_pairs.specs.Report.{first_differing, equal_pairs, differing_pairs, with_ours, with_theirs, without, report_of}
use Rattle.shift_pairs.specs.Known.{tally_of, OneMore}
use Rattle.shift_pairs.proofs.Counts.{pairs_counted, file_whole}
use Rattle.shift_pairs.proofs.Named.{sorted-named}
use Rattle.shift_pairs.proofs.Walk.{pair_at, Walk, no_ours, no_theirs, ours_only, theirs_only, both, Walk-pairs, named_pairs}

pub record Walking (f : Files) (a b : List ℕ) (i j : ℕ) (t : Tally) : Type 0 where
  pub done : List Pair
  pub tallied : t ≡ tally_of f done
  pub few_ours : length done ≤ i
  pub few_theirs : length done ≤ j
  pub rest : (zs : List Pair) → Walk (drop i a) (drop j b) zs → Walk a b (done ++ zs)

module _ (f : Files) (a b : List ℕ) where
  pub Walking-none : Walking f a b 0 0 (record { equal = 0; differing = 0; first = None })
  unfolding tally_of count first_differing
  Walking-none = record {
    done = [];
    tallied = λ i. record { equal = 0; differing = 0; first = None };
    few_ours = omega arith;
    few_theirs = omega arith;
    rest = λ zs w. w;
  }

  module _ (i j : ℕ) (t : Tally) (inv : Walking f a b i j t) where
    -- both counts are the pairs so far
    pub so_far : t.equal + t.differing ≡ length inv.done
    unfolding tally_of
    so_far =
        ap₂ ◌+◌ (ap (λ (x : Tally). x.equal) inv.tallied) (ap (λ (x : Tally). x.differing) inv.tallied) ∙ pairs_counted f inv.done

    module _ (hi : i < length a) (hj : j < length b) where
      pub Walking-ours : get_or a i 0 / 4096 < get_or b j 0 / 4096 → Walking f a b (i + 1) j t
      Walking-ours h = record {
        done = inv.done;
        tallied = inv.tallied;
        few_ours = omega (arith, inv.few_ours);
        few_theirs = inv.few_theirs;
        rest = λ zs w. inv.rest zs (rw (drop_more a i 0 hi, drop_more b j 0 hj) (ours_only h (rw (drop_more b j 0 hj) at w)));
      }

      pub Walking-theirs : get_or b j 0 / 4096 < get_or a i 0 / 4096 → Walking f a b i (j + 1) t
      Walking-theirs h = record {
        done = inv.done;
        tallied = inv.tallied;
        few_ours = inv.few_ours;
        few_theirs = omega (arith, inv.few_theirs);
        rest = λ zs w. inv.rest zs (rw (drop_more a i 0 hi, drop_more b j 0 hj) (theirs_only h (rw (drop_more a i 0 hi) at w)));
      }

      pub Walking-both : get_or a i 0 / 4096 ≡ get_or b j 0 / 4096 → (k m : ℕ) → k ≡ get_or a i 0 % 4096 → m ≡ get_or b j 0 % 4096 → (t' : Tally)
          → OneMore f (record { ours = k; theirs = m }) t t' → Walking f a b (i + 1) (j + 1) t'
      Walking-both h k m ek em t' told =
          let p = pair_at (get_or a i 0) (get_or b j 0) in
          let more : OneMore f p t t' = rw (ek, em) at told in
          let long = length-append inv.done (p ∷ []) in
          record {
            done = inv.done ++ p ∷ [];
            tallied = more.tallied inv.done inv.tallied;
            few_ours = omega (arith, inv.few_ours);
            few_theirs = omega (arith, inv.few_theirs);
            rest = λ zs w. rw (append_assoc inv.done (p ∷ []) zs) (inv.rest (p ∷ zs) (rw (drop_more a i 0 hi, drop_more b j 0 hj) (both h w)));
          }

    pub all_ours : length a ≤ i → Walk a b inv.done
    all_ours h = rw (append-nil inv.done) at (inv.rest [] (rw (drop_of_length-le a h) no_ours))

    pub all_theirs : length b ≤ j → Walk a b inv.done
    all_theirs h = rw (append-nil inv.done) at (inv.rest [] (rw (drop_of_length-le b h) no_theirs))

  module _ (ours : a ≡ sorted (keys_from 0 (crossings_of f.ours))) (theirs : b ≡ sorted (keys_from 0 (crossings_of f.theirs)))
      (our_file : HasFile f.our_form f.ours) (their_file : HasFile f.their_form f.theirs) where
    walked_all : (ps : List Pair) → Walk a b ps → ps ≡ all_pairs f
    unfolding all_pairs
    walked_all ps w =
        Walk-pairs (256 ^ 4) w (rw ours (keys_sorted f.ours)) (rw theirs (keys_sorted f.theirs)) (rw ours (keys_below f.our_form f.ours our_file))
        ∙ named_pairs (256 ^ 4) a b f.ours f.theirs
        (λ c. rw ours (sorted-named c 0 f.ours (omega (arith, our_file.few, length-map f.ours crossing_of))))
        (λ c. rw theirs (sorted-named c 0 f.theirs (omega (arith, their_file.few, length-map f.theirs crossing_of))))

    pub reported : (n m : ℕ) → n ≡ length a → m ≡ length b → (t : Tally) (ps : List Pair) → t ≡ tally_of f ps → Walk a b ps
        → ◌≡◌ {A = PairReport}
        (record {
          equal = t.equal;
          differing = t.differing;
          only_ours = n - (t.equal + t.differing);
          only_theirs = m - (t.equal + t.differing);
          first = t.first;
        })
        (report_of f)
    unfolding tally_of report_of
    reported n m en em t ps e w =
        let all : t ≡ tally_of f (all_pairs f) = e ∙ ap (tally_of f) (walked_all ps w) in
        let equal : t.equal ≡ equal_pairs f (all_pairs f) = ap (λ (x : Tally). x.equal) all in
        let differing : t.differing ≡ differing_pairs f (all_pairs f) = ap (λ (x : Tally). x.differing) all in
        let first : t.first ≡ first_differing f (all_pairs f) = ap (λ (x : Tally). x.first) all in
        let pairs : t.equal + t.differing ≡ length (all_pairs f) = ap₂ ◌+◌ equal differing ∙ pairs_counted f (all_pairs f) in
        let whole = file_whole f in
        let only_ours : n - (t.equal + t.differing) ≡ without (length f.ours) (λ k. with_ours k (all_pairs f)) =
        omega (arith, en, ap length ours, sorted_long f.ours) in
        let only_theirs : m - (t.equal + t.differing) ≡ without (length f.theirs) (λ k. with_theirs k (all_pairs f)) =
        omega (arith, em, ap length theirs, sorted_long f.theirs) in
        λ i. record { equal = equal i; differing = differing i; only_ours = only_ours i; only_theirs = only_theirs i; first = first i }

-- ---- a step, by the keys of the code

within : (keys : List Key) (i : ℕ) → i < length keys → i < length (map number_of keys)
within keys i h = omega (arith, length-map keys number_of, h)

module _ (f : Files) (a b : List Key) (i j : ℕ) (t : Tally) (d e : Key) (m n : ℕ) (inv : Walking f (map number_of a) (map number_of b) i j t)
    (hi : i < length a) (hj : j < length b) (is_m : m ≡ (get_or a i d).0 / 4096) (is_n : n ≡ (get_or b j e).0 / 4096) where
  pub next_ours : m < n → Walking f (map number_of a) (map number_of b) (i + 1) j t
  next_ours h =
      Walking-ours f _ _ i j t inv (within a i hi) (within b j hj) (omega (arith, is_m, is_n, its_number a i d hi, its_number b j e hj, h))

  pub next_theirs : n < m → Walking f (map number_of a) (map number_of b) i (j + 1) t
  next_theirs h =
      Walking-theirs f _ _ i j t inv (within a i hi) (within b j hj) (omega (arith, is_m, is_n, its_number a i d hi, its_number b j e hj, h))

  pub next_both : m ≡ n → (p q : ℕ) → p ≡ (get_or a i d).0 % 4096 → q ≡ (get_or b j e).0 % 4096 → (t' : Tally)
      → OneMore f (record { ours = p; theirs = q }) t t' → Walking f (map number_of a) (map number_of b) (i + 1) (j + 1) t'
  next_both h p q is_p is_q t' more =
      Walking-both f _ _ i j t inv (within a i hi) (within b j hj) (omega (arith, is_m, is_n, its_number a i d hi, its_number b j e hj, h)) p q
      (is_p ∙ ap (λ (k : ℕ). k % 4096) (sym (its_number a i d hi))) (is_q ∙ ap (λ (k : ℕ). k % 4096) (sym (its_number b j e hj))) t' more
