-- `reply_to` meets its contract: the line of the refusal, or the lines of the matrix and range that both codes mean.
-- Assumes nothing.
use Rattle.std.proofs.Common.{rules, sym, ◌∙◌}
use Rattle.counts_request.proofs.Puts.{Begins-first, Begins-as}
use Rattle.counts_request.proofs.Reply.{asked-reply, none-reply}
use Rattle.counts_request.proofs.reply_to.Goals as goal

pub returns-in-Some : goal.returns-in-Some
returns-in-Some c = Begins-as (sym (asked-reply c.args.input.now (sym c.in-Some.is ∙ c.asked.ensures))) c.put_counts.ensures

pub returns-in-None : goal.returns-in-None
returns-in-None c = Begins-as (sym (none-reply c.args.input.now (sym c.in-None.is ∙ c.asked.ensures))) (search (rules, Begins-first))
