-- `find_tag` meets its contract: of the words that begin with the letter, the first and whether another follows. Assumes nothing.
-- The chain of iterators stands in each answer: one lemma for the three was tried, and its type, which has to say the calls of both closures, was not found.
use Rattle.std.proofs.Common.{rules, tests, eqb, ap, ◌∙◌, ◌∷◌}
use Rattle.std.proofs.lemmas.Iterator.Consumers.{YieldsList-from_filter, YieldsList-at}
use Rattle.std.proofs.lemmas.Iterator.Splits.{YieldsList-from_slice_split}
use Rattle.y4m_line.proofs.Chains.{next_came, next_none}
use Rattle.y4m_line.proofs.Tags.{begins, no_tag, one_tag, more_tags}
use Rattle.y4m_line.proofs.find_tag.Goals as goal

pub returns-in_default : goal.returns-in_default
returns-in_default c =
    no_tag c.args.letter c.args.line.now
    (next_none _
    (YieldsList-from_filter _ (begins c.args.letter)
    (YieldsList-at c.filter-tags.ensures.source
    (YieldsList-from_slice_split _ (λ b. eqb b 32) c.args.line.now c.split.ensures.rest c.split.ensures.done c.split.ensures.closure (λ x r q k. search (rules, tests))))
    c.filter-tags.ensures.closure (λ x b q k. search (rules, tests)))
    c.next.result _ c.in_default.is c.next.ensures.steps)

pub returns-in-None : goal.returns-in-None
returns-in-None c =
    let first =
    next_came _
    (YieldsList-from_filter _ (begins c.args.letter)
    (YieldsList-at c.filter-tags.ensures.source
    (YieldsList-from_slice_split _ (λ b. eqb b 32) c.args.line.now c.split.ensures.rest c.split.ensures.done c.split.ensures.closure (λ x r q k. search (rules, tests))))
    c.filter-tags.ensures.closure (λ x b q k. search (rules, tests)))
    c.next.result c.in-Some.tag _ c.in-Some.is c.next.ensures.steps in
    one_tag c.args.letter c.args.line.now c.in-Some.tag.now
    (first.1.0 ∙ ap (λ ws. c.in-Some.tag.now ∷ ws) (next_none first.0 first.1.1 c.next-2.result _ c.in-None.is c.next-2.ensures.steps))

pub returns-in-Some-next : goal.returns-in-Some-next
returns-in-Some-next c =
    let first =
    next_came _
    (YieldsList-from_filter _ (begins c.args.letter)
    (YieldsList-at c.filter-tags.ensures.source
    (YieldsList-from_slice_split _ (λ b. eqb b 32) c.args.line.now c.split.ensures.rest c.split.ensures.done c.split.ensures.closure (λ x r q k. search (rules, tests))))
    c.filter-tags.ensures.closure (λ x b q k. search (rules, tests)))
    c.next.result c.in-Some.tag _ c.in-Some.is c.next.ensures.steps in
    let second = next_came first.0 first.1.1 c.next-2.result c.in-Some-next.field-0 _ c.in-Some-next.is c.next-2.ensures.steps in
    more_tags c.args.letter c.args.line.now c.in-Some.tag.now c.in-Some-next.field-0.now second.0
    (first.1.0 ∙ ap (λ ws. c.in-Some.tag.now ∷ ws) second.1.0)
