-- What a convoy answers, by its conditions: 18 exactly where it is broken, else the first condition of the first frame that has one.
-- Assumes nothing.
use Prim.Native.Nat.{ℕ, ◌≤◌, ◌<◌}
use mathlib.Core.Path.{◌≡◌, refl, sym, ap, ◌∙◌}
use mathlib.Core.Bool.{Bool, true, false, cond, ◌||◌, or-false}
use mathlib.Core.List.{List, [], ◌∷◌}
use mathlib.Core.Logic.{◌↔◌}
use native.Mathlib.Omega.{arith}
use borrow.Author.Tests.{lt-ltb, le-ltb, eqb-false}
use lib.Dec.{ltb}
use lib.ListN.{length, get_or}
use Rattle.std.proofs.lemmas.Bool.{false_from_ne_true}
use Rattle.std.proofs.lemmas.List.{nil_from_length}
use Rattle.yuv_error.specs.declared.YuvError.{YuvError}
use Rattle.yuv_error.specs.declared.Lengths.{Lengths}
use Rattle.yuv_error.specs.Lent.{lengths_of}
use Rattle.yuv_error.specs.Numbers.{Numbers, numbers, numbers_of, error_numbers}
use Rattle.yuv_error.specs.Rules.{Rule, rule, first_numbers}
use Rattle.yuv_error.specs.Lowest.{condition_holds, in_order, NoneHolds, Lowest}
use Rattle.yuv_error.proofs.Numbers.{refused_number}
use Rattle.yuv_error.proofs.Lowest.{first_is_lowest}
use Rattle.buffer_parts.specs.declared.BufferPart.{BufferPart}
use Rattle.convoy_parts.specs.declared.ConvoyFrame.{ConvoyFrame}
use Rattle.convoy_parts.specs.Parts.{frame_at, Broken, too_many, outside, overlapping}
use Rattle.convoy_parts.proofs.Broken.{broken_is_exact, unbroken}
use Rattle.convoy.specs.declared.ConvoyAnswer.{ConvoyAnswer}
use Rattle.convoy.specs.Run.{Planes, parts_of, Run, ended, stopped, went_on, ConvoyCall, is_broken, ConvoyPost}
use Rattle.convoy.specs.Turn.{single_rules, turn_rules, convoy_rules}
use Rattle.convoy.specs.Alone.{OthersKept, Unwritten, AsAlone}
use Rattle.convoy.specs.Called.{FrameInside}
use Rattle.convoy.proofs.Calls.{all_inside}
use Rattle.convoy.proofs.Lists.{sizes_of}
use Rattle.convoy.proofs.Turns.{call_answered, single_in_order, turn_in_order}
use Rattle.convoy.proofs.Alone.{each_alone}
use Rattle.std.specs.Prelude.{Option, None, Some, Result, Ok, Err}
use Rattle.definitions.specs.declared.FrameDescription.{FrameDescription}

-- no frame's own condition is 18
no_18 : (d : Option FrameDescription) (stride : ℕ) (n : Lengths) → condition_holds (single_rules d stride n) 18 ≡ false
no_18 None stride n = refl
no_18 (Some d) stride n = refl

module _ (k : ConvoyCall) (post : ConvoyPost k) where
  -- the frame whose place is told
  abbrev next : ConvoyFrame
  next = frame_at k.convoy k.result.done

  abbrev Whole : Type 0
  Whole = Broken k.convoy (lengths_of k.source k.before.y k.before.u k.before.v) → ⊥

  pub is_broken_lem : is_broken k ≡ true → Broken k.convoy (lengths_of k.source k.before.y k.before.u k.before.v)
  is_broken_lem e = (broken_is_exact k.convoy (lengths_of k.source k.before.y k.before.u k.before.v)).0 e

  pub not_broken : Whole → is_broken k ≡ false
  not_broken whole = false_from_ne_true (is_broken k) (λ e. whole (is_broken_lem e))

  pub alone : Whole → AsAlone k
  alone whole = each_alone k post (not_broken whole)

  inside : is_broken k ≡ false → (j : ℕ) → j < length k.convoy → FrameInside (frame_at k.convoy j) (sizes_of k.source k.before)
  inside e = all_inside k.convoy (sizes_of k.source k.before) (unbroken k.convoy (sizes_of k.source k.before) e)

  -- ---- the first condition that holds

  pub convoy_first : numbers_of k.result.answer ≡ first_numbers (convoy_rules k)
  convoy_first = go (is_broken k) refl
    where
      rest : List Rule
      rest = cond (ltb k.result.done (length k.convoy)) (turn_rules next) []

      from : (b : Bool) → is_broken k ≡ b → (x : Numbers) → x ≡ cond b (numbers 18 0 0) (first_numbers rest) → x ≡ first_numbers (convoy_rules k)
      from b e x is = is ∙ ap (λ (t : Bool). cond t (numbers 18 0 0) (first_numbers rest)) (sym e)

      by_answer : is_broken k ≡ false → (a : Result Unit YuvError) → k.result.answer ≡ a → numbers_of k.result.answer ≡ first_numbers rest
      by_answer e (Ok done) is =
          let all = (each_alone k post e).all is in
          ap numbers_of is ∙ ap (λ (b : Bool). first_numbers (cond b (turn_rules next) []))
          (sym (le-ltb k.result.done (length k.convoy) (omega (arith, all))))
      by_answer e (Err r) is =
          let x = (each_alone k post e).refused r is in
          ap numbers_of is
          ∙ call_answered next k.source k.before (Err r) (parts_of next k.before) (inside e k.result.done x.0) x.1
          ∙ ap (λ (b : Bool). first_numbers (cond b (turn_rules next) [])) (sym (lt-ltb k.result.done (length k.convoy) x.0))

      go : (b : Bool) → is_broken k ≡ b → numbers_of k.result.answer ≡ first_numbers (convoy_rules k)
      go true e = from true e (numbers_of k.result.answer) (ap (λ (r : ConvoyAnswer). numbers_of r.answer) (post.broken e).0)
      go false e = from false e (numbers_of k.result.answer) (by_answer e k.result.answer refl)

  pub convoy_in_order : in_order 0 (convoy_rules k) ≡ true
  convoy_in_order = go (ltb k.result.done (length k.convoy))
    where
      go : (b : Bool) → in_order 0 (rule 18 (is_broken k) 0 0 ∷ cond b (turn_rules next) []) ≡ true
      go true = single_in_order (is_broken k) next.described next.stride
          (record { source = next.source.length; y = next.y.length; u = next.u.length; v = next.v.length })
      go false = refl

  pub convoy_Lowest : Lowest (convoy_rules k) (numbers_of k.result.answer)
  convoy_Lowest = (first_is_lowest (convoy_rules k) (numbers_of k.result.answer) convoy_in_order).0 convoy_first

  pub unwritten : Unwritten k
  unwritten = go (is_broken k) refl
    where
      kept : (part : ConvoyFrame → BufferPart) (bytes : Planes → List ℕ) → k.after ≡ k.before
          → OthersKept part k.convoy k.result.done (bytes k.before) (bytes k.after)
      kept part bytes same = record {
        size = ap (λ (p : Planes). length (bytes p)) same;
        byte = λ i out. ap (λ (p : Planes). get_or (bytes p) i 0) same;
      }

      go : (b : Bool) → is_broken k ≡ b → Unwritten k
      go true e =
          let same = (post.broken e).1 in
          record {
            unbegun = λ j l m. ap (parts_of (frame_at k.convoy j)) same;
            y_others = kept (λ f. f.y) (λ p. p.y) same;
            u_others = kept (λ f. f.u) (λ p. p.u) same;
            v_others = kept (λ f. f.v) (λ p. p.v) same;
          }
      go false e = (each_alone k post e).unwritten

  -- ---- 18

  pub only_Broken : ((numbers_of k.result.answer).number ≡ 18)
      ↔ Broken k.convoy (lengths_of k.source k.before.y k.before.u k.before.v)
  only_Broken = (λ e. is_broken_lem (sym holds_18 ∙ ((convoy_Lowest.refused 18 (omega arith)).0 e).0), λ b. found b)
    where
      turn_18 : (b : Bool) → condition_holds (cond b (turn_rules next) []) 18 ≡ false
      turn_18 true = no_18 next.described next.stride
          (record { source = next.source.length; y = next.y.length; u = next.u.length; v = next.v.length })
      turn_18 false = refl

      holds_18 : condition_holds (convoy_rules k) 18 ≡ is_broken k
      holds_18 = ap (λ (b : Bool). is_broken k || b) (turn_18 (ltb k.result.done (length k.convoy))) ∙ or-false (is_broken k)

      found : Broken k.convoy (lengths_of k.source k.before.y k.before.u k.before.v) → (numbers_of k.result.answer).number ≡ 18
      found b =
          let e = (broken_is_exact k.convoy (lengths_of k.source k.before.y k.before.u k.before.v)).1 b in
          ap (λ (r : ConvoyAnswer). (numbers_of r.answer).number) (post.broken e).0

  pub Broken-keeps : Broken k.convoy (lengths_of k.source k.before.y k.before.u k.before.v)
      → (numbers_of k.result.answer ≡ numbers 18 0 0) × (k.result.done ≡ 0) × (k.after ≡ k.before)
  Broken-keeps b =
      let e = (broken_is_exact k.convoy (lengths_of k.source k.before.y k.before.u k.before.v)).1 b in
      let p = post.broken e in
      (ap (λ (r : ConvoyAnswer). numbers_of r.answer) p.0, ap (λ (r : ConvoyAnswer). r.done) p.0, p.1)

  -- ---- the frames

  turn_Lowest : (f : ConvoyFrame) (x : Numbers) → x ≡ first_numbers (turn_rules f) → Lowest (turn_rules f) x
  turn_Lowest f x = (first_is_lowest (turn_rules f) x (turn_in_order f.described f.stride
      (record { source = f.source.length; y = f.y.length; u = f.u.length; v = f.v.length }))).0

  -- none of its conditions holds of a finished frame
  pub finished_none : Whole → (j : ℕ) → j < k.result.done → (j < length k.convoy) × NoneHolds (turn_rules (frame_at k.convoy j))
  finished_none whole j l =
      let f = frame_at k.convoy j in
      let below : j < length k.convoy = omega (arith, done_most) in (
        below,
        (turn_Lowest f (numbers 0 0 0)
            (call_answered f k.source k.before (Ok tt) (parts_of f k.after) (inside (not_broken whole) j below)
            ((alone whole).finished j l))).finished.0 refl,
      )
    where
      done_most : k.result.done ≤ length k.convoy
      done_most = by_answer k.result.answer refl
        where
          by_answer : (a : Result Unit YuvError) → k.result.answer ≡ a → k.result.done ≤ length k.convoy
          by_answer (Ok done) is = omega (arith, (alone whole).all is)
          by_answer (Err e) is = omega (arith, ((alone whole).refused e is).0)

  -- and the refused one has the answer of its own conditions
  pub refused_Lowest : Whole → 1 ≤ (numbers_of k.result.answer).number
      → (k.result.done < length k.convoy) × Lowest (turn_rules next) (numbers_of k.result.answer)
  refused_Lowest whole l = by_answer k.result.answer refl
    where
      by_answer : (a : Result Unit YuvError) → k.result.answer ≡ a
          → (k.result.done < length k.convoy) × Lowest (turn_rules next) (numbers_of k.result.answer)
      by_answer (Ok done) is =
          absurd (let z : (numbers_of k.result.answer).number ≡ 0 = ap (λ (a : Result Unit YuvError). (numbers_of a).number) is in omega arith)
      by_answer (Err e) is =
          let x = (alone whole).refused e is in (
            x.0,
            turn_Lowest next (numbers_of k.result.answer) (ap numbers_of is
                ∙ call_answered next k.source k.before (Err e) (parts_of next k.before)
                (inside (not_broken whole) k.result.done x.0) x.1),
          )

  -- a convoy is finished where none of its frames has a condition that holds
  pub all_accepted : Whole → ((j : ℕ) → j < length k.convoy → NoneHolds (turn_rules (frame_at k.convoy j)))
      → (k.result.answer ≡ Ok tt) × (k.result.done ≡ length k.convoy)
  all_accepted whole none = by_answer k.result.answer refl
    where
      by_answer : (a : Result Unit YuvError) → k.result.answer ≡ a → (k.result.answer ≡ Ok tt) × (k.result.done ≡ length k.convoy)
      by_answer (Ok done) is = (is, (alone whole).all is)
      by_answer (Err e) is =
          let number = ap (λ (a : Result Unit YuvError). (numbers_of a).number) is in
          let some : (numbers_of k.result.answer).number ≡ 0 → ⊥ = λ z. eqb-false (error_numbers e).number 0 (refused_number e) (sym number ∙ z) in
          let x = refused_Lowest whole (omega (arith, some)) in
          absurd (some (x.1.finished.1 (none k.result.done x.0)))

-- no frame is finished work
run_none : (source : List ℕ) (fs : List ConvoyFrame) (p : Planes) (a : Result Unit YuvError) (n : ℕ) (q : Planes) → Run source fs p a n q → fs ≡ [] → q ≡ p
run_none source fs p a n q ended e = refl
run_none source fs p a n q (stopped left post) e = refl
run_none source fs p a n q (went_on left post run) e = absurd (cc e)

pub no_frames : (k : ConvoyCall) → ConvoyPost k → length k.convoy ≡ 0
    → (k.result.answer ≡ Ok tt) × (k.result.done ≡ 0) × (k.after ≡ k.before)
no_frames k post e =
    let x = all_accepted k post whole (λ j l. absurd (omega arith)) in (
      x.0,
      x.1 ∙ e,
      run_none k.source k.convoy k.before k.result.answer k.result.done k.after
          (post.run (not_broken k post whole)) (nil_from_length k.convoy e),
    )
  where
    whole : Broken k.convoy (lengths_of k.source k.before.y k.before.u k.before.v) → ⊥
    whole (too_many l) = omega arith
    whole (outside j l x) = omega arith
    whole (overlapping i j l m x) = omega arith
