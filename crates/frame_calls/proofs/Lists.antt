-- What exported calls come to: the numbers that they told are those of the first rule that holds; refused, they changed nothing; and those whose
-- numbers have a meaning are frame and band calls that kept their promise. Each by the test that decides its promise.
-- Assumes nothing.
use Prim.Native.Nat.{ℕ, ◌≤◌}
use mathlib.Core.Path.{◌≡◌, refl, sym, ap, subst, ◌∙◌}
use mathlib.Core.Bool.{Bool, true, false, cond, true≢false}
use mathlib.Core.List.{List, [], ◌∷◌}
use native.Mathlib.Omega.{arith}
use Rattle.yuv_error.specs.declared.YuvError.{YuvError}
use Rattle.yuv_error.specs.declared.YuvError.TheVariants.{MalformedRequest}
use Rattle.std.specs.Prelude.{Result, Ok, Err}
use Rattle.yuv_error.specs.Numbers.{Numbers, numbers_of, answer_of}
use Rattle.yuv_error.specs.Rules.{Rule, rule, first_numbers}
use Rattle.yuv_error.proofs.Numbers.{found, is_finished}
use Rattle.yuv_error.specs.Lent.{opening_rules, taken}
use Rattle.sharp_rgba_to_yuv.specs.FrameCall.{FramePost, Unwritten}
use Rattle.sharp_rgba_to_yuv.proofs.Post as frame
use Rattle.band_calls.specs.declared.FrameState.{FrameState}
use Rattle.band_calls.specs.BandCall.{OpenPost, BandPost}
use Rattle.band_lists.specs.BandLists.{AllMet, Either}
use Rattle.band_calls.proofs.Post as band
use Rattle.call_numbers.specs.Codes.{is_malformed}
use Rattle.frame_calls.specs.Calls.{ExportedFrame, frame_with, frame_rules_of, rules_of_frame, FrameKept}
use Rattle.frame_calls.specs.Calls.{ExportedOpening, frame_of_opening, rules_of_opening, handed, OpenKept}
use Rattle.frame_calls.specs.Calls.{ExportedBand, band_with, band_rules_of, rules_of_band, Kept, BandKept}
use Rattle.frame_calls.specs.Lists.{numbers_told, answer_told, done_told, as_frame, as_band, as_bands, AllKept, RefusedKept}

-- ---- by cases

-- what holds by a test holds whichever way the test goes
pub either_way : {A B X : Type 0} (test : Bool) → Either test A B → (test ≡ true → A → X) → (test ≡ false → B → X) → X
either_way true p f g = f refl p
either_way false p f g = g refl p

-- the first rule is refusal 1, and the others are asked where it does not hold
pub refused_1 : {test : Bool} (rules : List Rule) {x : Numbers} → test ≡ true → x ≡ numbers_of (Err MalformedRequest) → x ≡ first_numbers (rule 1 test 0 0 ∷ rules)
refused_1 rules t e = rw t e

pub passed_1 : {test : Bool} (rules : List Rule) {x : Numbers} → test ≡ false → x ≡ first_numbers rules → x ≡ first_numbers (rule 1 test 0 0 ∷ rules)
passed_1 rules t e = rw t e

pub is_refused : (a : Result Unit YuvError) → 1 ≤ (numbers_of a).number → (e : YuvError) × (a ≡ Err e)
is_refused (Ok done) l = absurd (omega arith)
is_refused (Err e) l = (e, refl)

none_taken : (a : Result Unit YuvError) → 1 ≤ (numbers_of a).number → (n : ℕ) → taken a n ≡ 0
none_taken a l n = ap (λ (a : Result Unit YuvError). taken a n) (is_refused a l).1

-- ---- frames

module _ {k : ExportedFrame} (p : FrameKept k) where
  frame_told : numbers_told k.number k.told ≡ numbers_of p.answer
  frame_told = rw (p.number, p.told)

  frame_refused : 1 ≤ k.number → 1 ≤ (numbers_of p.answer).number
  frame_refused l = subst (λ (n : ℕ). 1 ≤ n) p.number l

  pub frame_first : numbers_told k.number k.told ≡ first_numbers (rules_of_frame k)
  frame_first =
      either_way (is_malformed 1 k.numbers) p.answered
      (λ t q. refused_1 (frame_rules_of k) t (frame_told ∙ ap numbers_of q.0))
      (λ t q. passed_1 (frame_rules_of k) t (frame_told ∙ q.answered))

  pub frame_writes_nothing : 1 ≤ k.number → Unwritten (as_frame k)
  frame_writes_nothing l =
      either_way (is_malformed 1 k.numbers) p.answered (λ t q. q.1)
      (λ t q. frame.refused_writes_nothing (frame_with k p.answer) (is_refused p.answer (frame_refused l)).1 q)

  pub frame_accepted : k.number ≡ 0 → ((as_frame k).answer ≡ Ok tt) × FramePost (as_frame k)
  frame_accepted z =
      let is = is_finished p.answer (sym p.number ∙ z) in
      let same : answer_told k.number k.told ≡ p.answer = ap answer_of frame_told ∙ found p.answer in
      either_way (is_malformed 1 k.numbers) p.answered
      (λ t q. absurd (let w : ◌≡◌ {A = ℕ} 0 1 = sym z ∙ p.number ∙ ap (λ (a : Result Unit YuvError). (numbers_of a).number) q.0 in omega arith))
      (λ t q. (same ∙ is, rw same q))

-- ---- openings

module _ {k : ExportedOpening} (p : OpenKept k) where
  open_told : numbers_told k.number k.told ≡ numbers_of p.answer
  open_told = rw (p.number, p.told)

  pub open_first : numbers_told k.number k.told ≡ first_numbers (rules_of_opening k)
  open_first =
      either_way (is_malformed 0 k.numbers) p.answered
      (λ t q. refused_1 (opening_rules (frame_of_opening k)) t (open_told ∙ ap numbers_of q.0))
      (λ t q. passed_1 (opening_rules (frame_of_opening k)) t (open_told ∙ q.answered))

  -- no row is done, refused or not
  pub open_done : done_told k.told ≡ 0
  open_done =
      let told : done_told k.told ≡ p.done = rw p.told in
      told ∙ either_way (is_malformed 0 k.numbers) p.answered (λ t q. q.1) (λ t q. ap (λ (s : FrameState). s.done) q.state)

  -- an opening that was not refused is fresh
  pub open_accepted : k.number ≡ 0 → OpenPost (frame_of_opening k) (handed (frame_of_opening k) (Ok tt) 0)
  open_accepted z =
      let is = is_finished p.answer (sym p.number ∙ z) in
      either_way (is_malformed 0 k.numbers) p.answered
      (λ t q. absurd (let w : ◌≡◌ {A = ℕ} 0 1 = sym z ∙ p.number ∙ ap (λ (a : Result Unit YuvError). (numbers_of a).number) q.0 in omega arith))
      (λ t q. record { answered = rw is at q.answered; state = refl })

-- ---- bands

module _ {k : ExportedBand} (p : BandKept k) where
  band_told : numbers_told k.number k.told ≡ numbers_of p.answer
  band_told = rw (p.number, p.told)

  done_told_lem : done_told k.told ≡ p.done
  done_told_lem = rw p.told

  pub band_first : numbers_told k.number k.told ≡ first_numbers (rules_of_band k)
  band_first =
      either_way (is_malformed 3 k.numbers) p.answered
      (λ t q. refused_1 (band_rules_of k) t (band_told ∙ ap numbers_of q.0))
      (λ t q. passed_1 (band_rules_of k) t (band_told ∙ q.answered))

  pub band_writes_nothing : 1 ≤ k.number → Kept k (done_told k.told)
  band_writes_nothing l =
      let refused = subst (λ (n : ℕ). 1 ≤ n) p.number l in
      either_way (is_malformed 3 k.numbers) p.answered
      (λ t q. (done_told_lem ∙ q.1.0, q.1.1, q.1.2, q.1.3, q.1.4))
      (λ t q.
      let w = band.refused_writes_nothing {k = band_with k p.answer p.done} (none_taken p.answer refused) q in
      (done_told_lem ∙ ap (λ (s : FrameState). s.done) w.0, w.1, w.2, w.3, w.4))

  pub band_met : is_malformed 3 k.numbers ≡ false → BandPost (as_band k)
  band_met f =
      let same : answer_told k.number k.told ≡ p.answer = ap answer_of band_told ∙ found p.answer in
      either_way (is_malformed 3 k.numbers) p.answered
      (λ t q. absurd (true≢false (sym t ∙ f)))
      (λ t q. rw (same, done_told_lem) q)

pub all_met : (ks : List ExportedBand) → AllKept ks → AllMet (as_bands ks)
all_met [] p = tt
all_met (k ∷ ks) p = go (is_malformed 3 k.numbers) refl (all_met ks p.1)
  where
    go : (b : Bool) → is_malformed 3 k.numbers ≡ b → AllMet (as_bands ks) → AllMet (cond b (as_bands ks) (as_band k ∷ as_bands ks))
    go true t rest = rest
    go false t rest = (band_met p.0 t, rest)

pub refused_kept : (ks : List ExportedBand) → AllKept ks → RefusedKept ks
refused_kept [] p = tt
refused_kept (k ∷ ks) p = (band_writes_nothing p.0, refused_kept ks p.1)
