-- `first_word` meets its contract: the first of the parts at the spaces is the first word. Assumes nothing.
use Rattle.std.proofs.Common.{rules, tests, eqb, ap, ◌∙◌}
use Rattle.std.proofs.lemmas.Iterator.Splits.{YieldsList-from_slice_split}
use Rattle.y4m_line.proofs.Chains.{next_some, now_of_first}
use Rattle.y4m_line.proofs.Words.{split_words, words-cons}
use Rattle.y4m_line.proofs.first_word.Goals as goal

pub returns : goal.returns
returns c =
    ap (λ w. w.now) c.unwrap_or.ensures
    ∙ now_of_first _ c.next.result c.args.line _
    (next_some _
    (YieldsList-from_slice_split _ (λ b. eqb b 32) c.args.line.now c.split.ensures.rest c.split.ensures.done c.split.ensures.closure
    (λ x r q k. search (rules, tests)))
    _ _ (split_words c.args.line.now ∙ words-cons c.args.line.now) c.next.result _ c.next.ensures.steps)
