-- The promise of a band call, from what its two answers give: refused, the state is the one it got and no byte moved; finished, the band's rows
-- are in the planes and its last row is carried. And what the promise of a refused call comes to.
-- Assumes nothing.
use Prim.Native.Nat.{ℕ, ◌+◌, ◌-◌, ◌/◌, ◌%◌}
use mathlib.Core.Path.{◌≡◌, sym, ap, subst, ◌∙◌}
use mathlib.Core.List.{List}
use native.Mathlib.Nat.{le_of_eq, add-zero}
use lib.ListN.{length}
use Rattle.yuv_error.specs.declared.YuvError.{YuvError}
use Rattle.std.specs.Prelude.{Result, Ok, Err}
use Rattle.yuv_error.specs.Numbers.{numbers_of}
use Rattle.yuv_error.specs.Rules.{first_numbers}
use Rattle.definitions.specs.Painted.{Painted}
use Rattle.definitions.proofs.Painted.{Painted-none, painted_same}
use Rattle.definitions.specs.Image.{finished_of}
use Rattle.definitions.specs.Bands.{own_rows, band_image, Sharpened}
use Rattle.definitions.proofs.Planes.{plane_same}
use Rattle.definitions.proofs.Bands.{Sharpened-none}
use Rattle.yuv_error.specs.Lent.{lengths_of, taken}
use Rattle.band_calls.specs.declared.FrameState.{FrameState}
use Rattle.band_calls.specs.BandCall.{state_of, band_of, band_rules, carried_bytes, BandCall, band_call, BandPost, Untouched}

module _ (s : FrameState) (rows stride : ℕ) (source y u v carried : List ℕ) (answer : Result Unit YuvError)
    (numbers : numbers_of answer ≡ first_numbers (band_rules s rows stride (lengths_of source y u v) (length carried))) where
  pub refused : {e : YuvError} → answer ≡ Err e → BandPost (band_call s rows stride source y u v carried
      (record { state = s; answer = answer }) y u v carried)
  refused is =
      let none : (n : ℕ) → taken answer n ≡ 0 = λ n. rw is in
      let stays = sym (add-zero s.done) in
      let image = band_image (band_of s rows stride) source carried in
      record {
        answered = numbers;
        state = rw none (ap (state_of s.frame) stays);
        planes = rw none (subst (λ (n : ℕ). Sharpened s.frame s.done n image y u v y u v) stays (Sharpened-none s.frame s.done _ y u v));
        carry = rw none (Painted-none _ carried);
      }

  pub finished : {y' u' v' carried' : List ℕ} → answer ≡ Ok tt
      → Sharpened s.frame s.done (s.done + rows) (band_image (band_of s rows stride) source carried) y u v y' u' v'
      → Painted (carried_bytes s.frame (s.done + rows))
      (λ q. own_rows (band_of s rows stride) source (s.done + rows - 1) (q / 3) (q % 3)) carried carried'
      → BandPost (band_call s rows stride source y u v carried (record { state = state_of s.frame (s.done + rows); answer = answer }) y' u' v' carried')
  finished is planes carry = record { answered = numbers; state = rw is; planes = rw is planes; carry = rw is carry }

-- a refused call hands back the state that it was given, and writes no byte (RULES 7.2, 8.5)
pub refused_writes_nothing : {k : BandCall} → ((n : ℕ) → taken k.result.answer n ≡ 0) → BandPost k → Untouched k
refused_writes_nothing {k} none p =
    let d = k.state.frame in
    let stays = add-zero k.state.done in
    let rows = le_of_eq (ap (finished_of d) stays) in
    let planes = rw none at p.planes in (
      (rw none at p.state) ∙ ap (state_of d) stays,
      plane_same _ _ _ _ _ _ _ (le_of_eq stays) planes.luma,
      plane_same _ _ _ _ _ _ _ rows planes.cb,
      plane_same _ _ _ _ _ _ _ rows planes.cr,
      painted_same (rw none at p.carry),
    )
