-- What a convoy that came as numbers told is the answer that it kept its promise with.
-- Assumes nothing.
use Prim.Native.Nat.{ℕ}
use mathlib.Core.Path.{◌≡◌, sym, ap, subst, ◌∙◌}
use Rattle.std.specs.Prelude.{Result}
use Rattle.yuv_error.specs.declared.YuvError.{YuvError}
use Rattle.yuv_error.specs.Numbers.{numbers_of, answer_of}
use Rattle.yuv_error.proofs.Numbers.{found}
use Rattle.frame_calls.specs.Lists.{numbers_told, answer_told, done_told}
use Rattle.convoy.specs.Run.{ConvoyPost}
use Rattle.convoy_calls.specs.Calls.{ExportedConvoy, convoy_with, ConvoyKept}
use Rattle.demands.specs.Demands.{as_convoy}

module _ (k : ExportedConvoy) (p : ConvoyKept k) where
  told : numbers_told k.number k.told ≡ numbers_of p.result.answer
  told = rw (p.number, p.told)

  answer : answer_told k.number k.told ≡ p.result.answer
  answer = ap answer_of told ∙ found p.result.answer

  done : done_told k.told ≡ p.result.done
  done = rw p.told

  pub convoy_met : ConvoyPost (as_convoy k)
  convoy_met =
      subst (λ (a : Result Unit YuvError). ConvoyPost (convoy_with k (record { answer = a; done = done_told k.told }))) (sym answer)
      (subst (λ (n : ℕ). ConvoyPost (convoy_with k (record { answer = p.result.answer; done = n }))) (sym done) p.answered)

  pub convoy_told : numbers_of (as_convoy k).result.answer ≡ numbers_told k.number k.told
  convoy_told = ap numbers_of answer ∙ sym told
