-- A byte more was written: the two digits of the next three characters.
use Rattle.std.proofs.Common.{◌≡◌, ◌+◌, ◌*◌, ◌∷◌, ◌++◌, [], rules, arith, sym, ◌∙◌}
use Rattle.std.proofs.lemmas.List.{take_more_set}
use Rattle.std.proofs.lemmas.List.FromFn.{map-range_with_len_more}
use Rattle.replay_text.specs.Lines.{byte_at}
use Rattle.replay_text.proofs.read_bytes.Goals as goal

pub loop-n-preserved : goal.loop-n-preserved
loop-n-preserved c =
    let n = c.loop-n.n in
    let made = byte_at c.args.text.now in
    let written = c.digit.result * 16 + c.digit-in-loop-n.result in
    let is : written ≡ made n = (λ i. c.digit.ensures.value i * 16 + c.digit-in-loop-n.ensures.value i) in (
      search rules,
      take_more_set c.loop-n.room n written (omega (arith, c.loop-n.invariant.0, c.loop-n-test.true, c.min-count.ensures))
          ∙ (λ i. c.loop-n.invariant.1 i ++ is i ∷ []) ∙ sym (map-range_with_len_more made 0 n n (omega arith)),
    )
