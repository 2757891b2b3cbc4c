-- `all_filled` meets its contract: the parts at the spaces are the words. Assumes nothing.
use Rattle.std.proofs.Common.{rules, tests, length, eqb, not, ap, ◌∙◌}
use Rattle.std.specs.List.{list_all}
use Rattle.std.proofs.lemmas.Iterator.Search.{all_from_yields_List}
use Rattle.std.proofs.lemmas.Iterator.Splits.{YieldsList-from_slice_split}
use Rattle.y4m_line.proofs.Words.{split_words, all_filled}
use Rattle.y4m_line.proofs.all_filled.Goals as goal

pub returns : goal.returns
returns c =
    all_from_yields_List (λ w. not (eqb (length w) 0)) _ _ _ c.all.ensures.ran
    (YieldsList-from_slice_split _ (λ b. eqb b 32) c.args.line.now c.split.ensures.rest c.split.ensures.done c.split.ensures.closure
    (λ x r q k. search (rules, tests)))
    (λ x b q k. search (rules, tests))
    ∙ ap (list_all (λ w. not (eqb (length w) 0))) (split_words c.args.line.now)
    ∙ all_filled _
