-- A band can be served, whatever it is and whatever is lent: there are an answer and buffers that keep the promise of serving it.
-- Assumes nothing.
use Prim.Native.Nat.{ℕ, ◌+◌, ◌-◌, ◌/◌, ◌%◌}
use mathlib.Core.Path.{◌≡◌, refl, sym, ap, ◌∙◌}
use mathlib.Core.Bool.{true, false, cond, true≢false}
use mathlib.Core.List.{List, [], ◌∷◌, ◌++◌}
use native.Mathlib.Nat.{le_trans}
use borrow.Author.Tests.{eqb-true}
use lib.Dec.{eqb}
use lib.ListN.{length}
use Rattle.yuv_error.specs.declared.Lengths.{Lengths}
use Rattle.yuv_error.specs.declared.YuvError.{YuvError}
use Rattle.yuv_error.specs.declared.YuvError.TheVariants.{PartsMismatch}
use Rattle.std.specs.Prelude.{Result, Ok, Err}
use Rattle.yuv_error.specs.Numbers.{Numbers, numbers_of, answer_of}
use Rattle.yuv_error.specs.Rules.{Rule, first_numbers}
use Rattle.yuv_error.specs.Lent.{lengths_of, opening_rules, lent_rules}
use Rattle.definitions.specs.Bands.{own_rows, band_image}
use Rattle.band_calls.specs.declared.FrameState.{FrameState}
use Rattle.band_calls.specs.declared.FrameAnswer.{FrameAnswer}
use Rattle.band_calls.specs.BandCall.{state_of, band_of, row_rules, carried_rules, band_rules, band_call, BandPost}
use Rattle.band_calls.proofs.Accepted.{accepted_band, band_passes, carried_few}
use Rattle.band_calls.proofs.Post.{refused, finished}
use Rattle.band_lists.proofs.Repainted.{can_paint, can_sharpen}
use Rattle.buffer_parts.specs.Parts.{part_of}
use Rattle.buffer_parts.proofs.Parts.{part_length}
use Rattle.desk_places.specs.declared.OpenFrame.{OpenFrame}
use Rattle.desk_places.specs.declared.WaitingBand.{WaitingBand}
use Rattle.desk_bands.specs.Buffers.{Buffers, are_lent, ServePost}
use Rattle.desk_bands.proofs.Parts.{all_inside, with_parts, converted, serve_outside}

-- each rule says the numbers of some answer
abbrev pub Sayable : List Rule → Type 0
Sayable [] = Unit {0}
Sayable (r ∷ rs) = (numbers_of (answer_of r.says) ≡ r.says) × Sayable rs

pub said : (rs : List Rule) → Sayable rs → numbers_of (answer_of (first_numbers rs)) ≡ first_numbers rs
said [] s = refl
said (r ∷ rs) s = elim r.holds as (λ t. numbers_of (answer_of (cond t r.says (first_numbers rs))) ≡ cond t r.says (first_numbers rs)) [
  | true ↦ s.0
  | false ↦ said rs s.1
]

both_Sayable : (xs ys : List Rule) → Sayable xs → Sayable ys → Sayable (xs ++ ys)
both_Sayable [] ys s t = t
both_Sayable (x ∷ xs) ys s t = (s.0, both_Sayable xs ys s.1 t)

-- 2, 3, 4 and 14, then 5, then 6 to 12, then 13
band_Sayable : (s : FrameState) (rows stride : ℕ) (n : Lengths) (carried : ℕ) → Sayable (band_rules s rows stride n carried)
band_Sayable s rows stride n carried =
    let opening = opening_rules s.frame in
    let row = row_rules s.frame.height s.done rows in
    let lent = lent_rules s.frame rows stride n in
    both_Sayable (opening ++ row ++ lent) (carried_rules s.frame.width carried)
    (both_Sayable (opening ++ row) lent (both_Sayable opening row (refl, (refl, (refl, (refl, (refl, tt))))) (refl, tt))
    (refl, (refl, (refl, (refl, (refl, (refl, (refl, (refl, (refl, (refl, (refl, (refl, tt))))))))))))) (refl, tt)

is_refused : (a : Result Unit YuvError) → eqb (numbers_of a).number 0 ≡ false → (e : YuvError) × (a ≡ Err e)
is_refused (Ok done) none = absurd (true≢false none)
is_refused (Err e) some = (e, refl)

-- ---- a band call

pub record CanCall (s : FrameState) (rows stride : ℕ) (source y u v carried : List ℕ) : Type 0 where
  pub result : FrameAnswer
  pub y' : List ℕ
  pub u' : List ℕ
  pub v' : List ℕ
  pub carried' : List ℕ
  pub met : BandPost (band_call s rows stride source y u v carried result y' u' v' carried')

module _ (s : FrameState) (rows stride : ℕ) (source y u v carried : List ℕ) where
  abbrev rules : List Rule
  rules = band_rules s rows stride (lengths_of source y u v) (length carried)

  can_finish : eqb (first_numbers rules).number 0 ≡ true → CanCall s rows stride source y u v carried
  can_finish e =
      let a = accepted_band s rows stride (lengths_of source y u v) (length carried) (eqb-true _ 0 e) in
      let p = can_sharpen s.done (band_image (band_of s rows stride) source carried) a.planes a.given.rows_most in
      let few = le_trans (carried_few s.frame (s.done + rows)) a.carried_size in
      let c = can_paint _ (λ q. own_rows (band_of s rows stride) source (s.done + rows - 1) (q / 3) (q % 3)) carried few in
      record {
        result = record { state = state_of s.frame (s.done + rows); answer = Ok tt };
        y' = p.0;
        u' = p.1;
        v' = p.2;
        carried' = c.0;
        met = finished s rows stride source y u v carried (Ok tt) (sym (band_passes s rows stride _ _ a)) refl p.3 c.1;
      }

  can_refuse : eqb (first_numbers rules).number 0 ≡ false → CanCall s rows stride source y u v carried
  can_refuse e =
      let says = said rules (band_Sayable s rows stride (lengths_of source y u v) (length carried)) in
      let a = answer_of (first_numbers rules) in
      record {
        result = record { state = s; answer = a };
        y' = y;
        u' = u;
        v' = v;
        carried' = carried;
        met = refused s rows stride source y u v carried a says (is_refused a (ap (λ (x : Numbers). eqb x.number 0) says ∙ e)).1;
      }

  can_call : CanCall s rows stride source y u v carried
  can_call = (elim (eqb (first_numbers rules).number 0) as (λ t. eqb (first_numbers rules).number 0 ≡ t → CanCall s rows stride source y u v carried)
      [ true ↦ can_finish | false ↦ can_refuse ]) refl

-- ---- on parts of the buffers

pub record CanServe (f : OpenFrame) (b : WaitingBand) (p : Buffers) : Type 0 where
  pub call : FrameAnswer
  pub left : Buffers
  pub source : left.source ≡ p.source
  pub met : ServePost f b p call left

can_convert : (f : OpenFrame) (b : WaitingBand) (p : Buffers) → are_lent f b p ≡ true → CanServe f b p
can_convert f b p e =
    let w = f.parts in
    let all = all_inside f b p e in
    let c = can_call f.state b.rows b.stride (part_of b.source p.source) (part_of w.y p.y) (part_of w.u p.u)
    (part_of w.v p.v) (part_of w.carried p.carried) in
    record {
      call = c.result;
      left = with_parts f b p c.result c.y' c.u' c.v' c.carried' all;
      source = refl;
      met = rw e (converted f b p c.result c.y' c.u' c.v' c.carried' all
          (c.met.planes.luma.size ∙ part_length w.y p.y all.y)
          (c.met.planes.cb.size ∙ part_length w.u p.u all.u) (c.met.planes.cr.size ∙ part_length w.v p.v all.v)
          (c.met.carry.size ∙ part_length w.carried p.carried all.carried) c.met);
    }

pub can_serve : (f : OpenFrame) (b : WaitingBand) (p : Buffers) → CanServe f b p
can_serve f b p = (elim (are_lent f b p) as (λ t. are_lent f b p ≡ t → CanServe f b p) [
  | true ↦ can_convert f b p
  | false ↦ λ e. record { call = record { state = f.state; answer = Err PartsMismatch }; left = p; source = refl; met = serve_outside f b p e }
]) refl

-- ---- the same, so that 18 computes

abbrev pub serve_answer : OpenFrame → WaitingBand → Buffers → FrameAnswer
serve_answer f b p = cond (are_lent f b p) (can_serve f b p).call (record { state = f.state; answer = Err PartsMismatch })

abbrev pub serve_left : OpenFrame → WaitingBand → Buffers → Buffers
serve_left f b p = cond (are_lent f b p) (can_serve f b p).left p

pub record Served (f : OpenFrame) (b : WaitingBand) (p : Buffers) (r : FrameAnswer) (q : Buffers) : Type 0 where
  pub met : ServePost f b p r q
  pub source : q.source ≡ p.source

pub served : (f : OpenFrame) (b : WaitingBand) (p : Buffers) → Served f b p (serve_answer f b p) (serve_left f b p)
served f b p =
    (elim (are_lent f b p) as (λ t. are_lent f b p ≡ t
    → Served f b p (cond t (can_serve f b p).call (record { state = f.state; answer = Err PartsMismatch }))
    (cond t (can_serve f b p).left p)) [
      | true ↦ λ e. record { met = (can_serve f b p).met; source = (can_serve f b p).source }
      | false ↦ λ e. record { met = serve_outside f b p e; source = refl }
    ]) refl
