-- Band calls that are given the same colours: the second call's image may be put for the first's, and a plane with its rows written from one
-- image is one plane.
-- Assumes nothing.
use Prim.Native.Nat.{ℕ, ◌+◌, ◌-◌, ◌/◌, ◌%◌, ◌≤◌, ◌<◌}
use mathlib.Core.Path.{◌≡◌, refl, sym, ap, subst, ◌∙◌}
use mathlib.Core.List.{List}
use native.Mathlib.Omega.{arith}
use lib.ListN.{length}
use lib.Seq.{ext_get_or}
use Rattle.std.specs.Prelude.{Result, Ok, Err}
use Rattle.yuv_error.specs.declared.YuvError.{YuvError}
use Rattle.yuv_error.specs.Numbers.{Numbers}
use Rattle.yuv_error.specs.Rules.{first_numbers}
use Rattle.yuv_error.specs.Lent.{taken}
use Rattle.yuv_error.proofs.Numbers.{same_answer}
use Rattle.yuv_error.proofs.First.{finished_number}
use Rattle.definitions.specs.Painted.{Painted}
use Rattle.definitions.specs.Row.{Pixels}
use Rattle.definitions.proofs.Painted.{Painted-like}
use Rattle.definitions.proofs.SameRows.{SameColours}
use Rattle.definitions.specs.Bands.{own_rows, band_image}
use Rattle.definitions.proofs.Planes.{plane_unique}
use Rattle.definitions.proofs.Bands.{band_own_rows, band_carried}
use Rattle.definitions.proofs.SameImages.{SameSeen, Sharpened-like}
use Rattle.band_calls.specs.declared.FrameAnswer.{FrameAnswer}
use Rattle.band_calls.specs.BandCall.{state_of, BandCall, band_call, band_rules, lent_to, rules_of, band_given, end_of, BandPost}
use Rattle.band_calls.specs.Same.{SameColourBytes, AlphaAndPadding}
use Rattle.band_calls.proofs.Accepted.{accepted_band, carried_few}
use Rattle.band_calls.proofs.Post.{refused_writes_nothing}

Painted-unique : {n : ℕ} {f : ℕ → ℕ} {d e e' : List ℕ} → Painted n f d e → Painted n f d e' → e ≡ e'
Painted-unique {e = e} {e' = e'} p q = ext_get_or 0 e e' (p.size ∙ sym q.size) (λ k _. p.byte k ∙ sym (q.byte k))

module _ (k j : BandCall) (same : SameColourBytes k j) where
  own : (r : ℕ) → k.state.done ≤ r → r < end_of k → SameColours k.state.frame.width (own_rows (band_given k) k.source r)
      (own_rows (band_given k) j.source r)
  unfolding own_rows
  own r l m x i = same (r - k.state.done) x i (omega arith)

  -- a band sees its own rows, and the carried row, which is the same for both
  seen : SameSeen k.state.frame k.state.done (end_of k) (band_image (band_given k) k.source k.carried)
      (band_image (band_given k) j.source k.carried)
  seen =
      let b = band_given k in
      record {
        own = λ r l m x i h n. ap (λ (row : Pixels). row x i) (sym (band_own_rows b k.source k.carried r l)) ∙ own r l m x i h n
            ∙ ap (λ (row : Pixels). row x i) (band_own_rows b j.source k.carried r l);
        above = λ r f l x i _ _. ap (λ (row : Pixels). row x i) (sym (band_carried b k.source k.carried _ l) ∙ band_carried b j.source
            k.carried _ l);
      }

  -- the second call, as the first one's but for its source
  abbrev other : FrameAnswer → BandCall
  other r = band_call k.state k.rows k.stride j.source k.y k.u k.v k.carried r j.y' j.u' j.v' j.carried'

  left : (a : Result Unit YuvError) → k.result.answer ≡ a → BandPost k → BandPost (other k.result)
      → (k.y' ≡ j.y') × (k.u' ≡ j.u') × (k.v' ≡ j.v') × (k.carried' ≡ j.carried')
  left (Ok done) is p q =
      let s = k.state in
      let a = accepted_band s k.rows k.stride (lent_to k) (length k.carried) (finished_number (rules_of k) is p.answered) in
      let g = a.given in
      let x = Sharpened-like (omega (arith, g)) g.rows_most seen (rw is at p.planes) in
      let z = rw is at q.planes in
      let few = carried_few s.frame (end_of k) in
      let c = Painted-like (λ n l. own (end_of k - 1) (omega (arith, g)) (omega (arith, g)) (n / 3) (n % 3) (omega arith) (omega arith)) (rw is at p.carry) in
      (plane_unique x.luma z.luma, plane_unique x.cb z.cb, plane_unique x.cr z.cr, Painted-unique c (rw is at q.carry))
  left (Err e) is p q =
      let none : (n : ℕ) → taken k.result.answer n ≡ 0 = λ n. rw is in
      let x = refused_writes_nothing {k = k} none p in
      let z = refused_writes_nothing {k = other k.result} none q in
      (x.1 ∙ sym z.1, x.2 ∙ sym z.2, x.3 ∙ sym z.3, x.4 ∙ sym z.4)

pub alpha_and_padding : AlphaAndPadding
alpha_and_padding k j p q others same =
    let r : BandPost (other k j same j.result) = subst BandPost others.others q in
    let rules : ℕ → Numbers = λ (n : ℕ). first_numbers (band_rules k.state k.rows k.stride
    (record { source = n; y = length k.y; u = length k.u; v = length k.v }) (length k.carried)) in
    let answers : k.result.answer ≡ j.result.answer = same_answer _ _ (p.answered ∙ ap rules (sym others.size) ∙ sym r.answered) in
    let states : k.result.state ≡ j.result.state = p.state ∙ ap (λ (a : Result Unit YuvError). state_of k.state.frame
    (k.state.done + taken a k.rows)) answers ∙ sym r.state in
    let results : k.result ≡ j.result = λ i. record { state = states i; answer = answers i } in
    let lent = left k j same k.result.answer refl p (subst (λ (x : FrameAnswer). BandPost (other k j same x)) (sym results) r) in
    (results, lent.0, lent.1, lent.2, lent.3)
