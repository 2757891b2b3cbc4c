-- A call is refused or not by its arguments alone, so its answer is known from them.
-- Assumes nothing.
use Prim.Native.Nat.{ℕ}
use mathlib.Core.Logic.{◌↔◌}
use mathlib.Core.Path.{◌≡◌, refl, ap, ◌∙◌}
use mathlib.Core.Bool.{true, false, true≢false}
use borrow.Author.Tests.{eqb-true, eq-eqb}
use lib.Dec.{eqb}
use lib.ListN.{length}
use Rattle.std.specs.Prelude.{Result, Ok, Err}
use Rattle.yuv_error.specs.declared.YuvError.{YuvError}
use Rattle.yuv_error.specs.Numbers.{Numbers, numbers_of}
use Rattle.yuv_error.specs.Rules.{first_numbers}
use Rattle.yuv_error.specs.Lowest.{NoneHolds}
use Rattle.yuv_error.specs.Lent.{taken}
use Rattle.yuv_error.proofs.Numbers.{is_finished}
use Rattle.yuv_error.proofs.Lowest.{first_is_lowest}
use Rattle.band_calls.specs.BandCall.{BandCall, lent_to, rules_of}
use Rattle.band_calls.proofs.Accepted.{Accepted, accepted_band}
use Rattle.band_lists.specs.BandLists.{is_accepted}

-- accepted exactly when none of the conditions that it asks holds (RULES 7.1)
pub accepted_exactly : (k : BandCall) → (is_accepted k ≡ true) ↔ NoneHolds (rules_of k)
unfolding is_accepted
accepted_exactly k =
    let lowest = (first_is_lowest (rules_of k) (first_numbers (rules_of k)) refl).0 refl in
    (λ e. lowest.finished.0 (eqb-true _ 0 e), λ n. eq-eqb _ 0 (lowest.finished.1 n))

pub call_given : (k : BandCall) → is_accepted k ≡ true → Accepted k
unfolding is_accepted
call_given k e = accepted_band k.state k.rows k.stride (lent_to k) (length k.carried) (eqb-true _ 0 e)

pub call_finished : (k : BandCall) → numbers_of k.result.answer ≡ first_numbers (rules_of k) → is_accepted k ≡ true → k.result.answer ≡ Ok tt
unfolding is_accepted
call_finished k answered e = is_finished k.result.answer (ap (λ (x : Numbers). x.number) answered ∙ eqb-true _ 0 e)

takes_none : (a : Result Unit YuvError) → eqb (numbers_of a).number 0 ≡ false → (n : ℕ) → taken a n ≡ 0
takes_none (Ok done) e n = absurd (true≢false e)
takes_none (Err r) e n = refl

pub call_refused : (k : BandCall) → numbers_of k.result.answer ≡ first_numbers (rules_of k) → is_accepted k ≡ false → (n : ℕ) → taken k.result.answer n ≡ 0
unfolding is_accepted
call_refused k answered e = takes_none k.result.answer (ap (λ (x : Numbers). eqb x.number 0) answered ∙ e)
