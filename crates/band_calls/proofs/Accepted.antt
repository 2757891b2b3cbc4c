-- What a band call that was not refused was given and lent, and the other way round: no rule of its list holds.
-- Assumes nothing.
use Prim.Native.Nat.{ℕ, ◌+◌, ◌*◌, ◌-◌, ◌≤◌, zero-le}
use mathlib.Core.Path.{◌≡◌, refl}
use mathlib.Core.Bool.{true, false, cond}
use mathlib.Core.List.{◌++◌}
use native.Mathlib.Nat.{le_refl}
use native.Mathlib.Omega.{arith}
use borrow.Author.Tests.{ne_eqb, eqb-false, ltb-false, le-ltb}
use lib.Dec.{eqb, ltb}
use lib.ListN.{length}
use Rattle.yuv_error.specs.declared.Lengths.{Lengths}
use Rattle.yuv_error.specs.Numbers.{numbers}
use Rattle.yuv_error.specs.Rules.{first_numbers}
use Rattle.yuv_error.specs.Lent.{opening_rules, lent_rules}
use Rattle.yuv_error.specs.Known.{Sized, Given, PlanesLent}
use Rattle.definitions.specs.declared.FrameDescription.{FrameDescription}
use Rattle.yuv_error.proofs.First.{append_finished}
use Rattle.std.proofs.lemmas.Bool.{or_parts}
use Rattle.yuv_error.proofs.Accepted.{none_holds, opened, buffers}
use Rattle.yuv_error.proofs.Accepts.{both_pass, opening_passes, lent_passes}
use Rattle.band_calls.specs.declared.FrameState.{FrameState}
use Rattle.band_calls.specs.BandCall.{band_of, row_rules, carried_rules, band_rules, is_carried, carried_bytes, BandCall, lent_to}

-- 5: how many rows the band has
pub rows_given : (h done rows : ℕ) → (first_numbers (row_rules h done rows)).number ≡ 0 → (1 ≤ rows) × (done + rows ≤ h)
rows_given h done rows e =
    let none = or_parts (eqb rows 0) (ltb (h - done) rows) (or_parts _ _ (none_holds (row_rules h done rows) refl e 5)).0 in
    let some = eqb-false rows 0 none.0 in
    let few = ltb-false (h - done) rows none.1 in
    (omega arith, omega arith)

pub record AcceptedBand (s : FrameState) (rows stride : ℕ) (n : Lengths) (carried : ℕ) : Type 0 where
  pub sized : Sized s.frame
  pub given : Given (band_of s rows stride) n.source
  pub whole : n.source ≡ stride * rows
  pub planes : PlanesLent s.frame n.y n.u n.v
  pub carried_size : 3 * s.frame.width ≤ carried

module _ (s : FrameState) (rows stride : ℕ) (n : Lengths) (carried : ℕ) where
  pub accepted_band : (first_numbers (band_rules s rows stride n carried)).number ≡ 0 → AcceptedBand s rows stride n carried
  accepted_band e =
      let opening = opening_rules s.frame in
      let row = row_rules s.frame.height s.done rows in
      let lent = lent_rules s.frame rows stride n in
      let last = carried_rules s.frame.width carried in
      let a = append_finished (opening ++ row ++ lent) last refl e in
      let b = append_finished (opening ++ row) lent refl a.0 in
      let c = append_finished opening row refl b.0 in
      let r = rows_given s.frame.height s.done rows c.1 in
      let l = buffers s.frame rows stride n b.1 in
      record {
        sized = opened s.frame c.0;
        given = record { rows_least = r.0; rows_most = r.1; source_row = l.source_row; source_size = omega (arith, l.source_size) };
        whole = l.source_size;
        planes = l.planes;
        carried_size = ltb-false _ _ (or_parts _ _ (none_holds last refl a.1 13)).0;
      }

  pub band_passes : AcceptedBand s rows stride n carried → first_numbers (band_rules s rows stride n carried) ≡ numbers 0 0 0
  band_passes a =
      let opening = opening_rules s.frame in
      let row = row_rules s.frame.height s.done rows in
      let lent = lent_rules s.frame rows stride n in
      let few : first_numbers row ≡ numbers 0 0 0 =
      rw (ne_eqb rows 0 (λ e. omega (arith, a.given)), le-ltb (s.frame.height - s.done) rows (omega (arith, a.given))) in
      let passes = lent_passes {n = n} a.sized a.given.rows_least
      (record { source_row = a.given.source_row; source_size = a.whole; planes = a.planes }) in
      both_pass (opening ++ row ++ lent) (carried_rules s.frame.width carried) refl
      (both_pass (opening ++ row) lent refl (both_pass opening row refl (opening_passes a.sized) few) passes)
      (rw (le-ltb carried (3 * s.frame.width) a.carried_size))

-- what a call was given and lent
abbrev pub Accepted : BandCall → Type 0
Accepted k = AcceptedBand k.state k.rows k.stride (lent_to k) (length k.carried)

-- no more than a row is carried
pub carried_few : (d : FrameDescription) (end : ℕ) → carried_bytes d end ≤ 3 * d.width
carried_few d end = elim (is_carried d.settings.sampling d.height end) as (λ b. cond b
    (3 * d.width) 0 ≤ 3 * d.width) [ true ↦ le_refl _ | false ↦ zero-le ]
