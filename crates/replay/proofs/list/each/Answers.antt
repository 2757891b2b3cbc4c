-- `each` meets its contract: a call more was made, of the next number; and at the end as many as the list said, or the last gave the error.
use Rattle.std.proofs.Common.{◌≡◌, ◌+◌, ◌<◌, Err, rules, arith, of_calls}
use Rattle.std.proofs.lemmas.Fn.{FoldsTo-push}
use Rattle.replay.specs.Calls.{CallsAt}
use Rattle.replay.proofs.Made.{ends_at}
use Rattle.replay.proofs.Ranges.{from_one}
use Rattle.replay.proofs.list.each.Goals as goal

pub loop-place-preserved : goal.loop-place-preserved
loop-place-preserved g c = (
  search of_calls,
  rw (from_one c.loop-place.place) (FoldsTo-push (CallsAt g.F.FnMut) _ _ _ (c.loop-place.place + 1) _ c.loop-place.invariant.1
      (ends_at g.F.FnMut c.call.ensures c.in_ok-call.was)),
)

pub returns-clause-all : goal.returns-clause-all
returns-clause-all g c =
    let all : c.loop-place.place ≡ c.number-count.result = omega arith in
    (c.number-count.new.self, c.loop-place.call, c.number-count.result, c.number-count.ensures, rw (← all) c.loop-place.invariant.1)

pub returns-in_err-call-clause-stop : goal.returns-in_err-call-clause-stop
returns-in_err-call-clause-stop g c =
    let same : c.from_residual.result ≡ Err c.in_err-call.field-0.0 = search rules in
    let within : c.loop-place.place < c.number-count.result = omega arith in
    rw same (
      c.number-count.new.self,
      c.call.new.self,
      c.number-count.result,
      c.number-count.ensures,
      record {
        done = c.loop-place.place;
        within = within;
        stop = (c.loop-place.call, c.loop-place.list, c.loop-place.out);
        made = c.loop-place.invariant.1;
        failed = ends_at g.F.FnMut c.call.ensures c.in_err-call.was;
      },
    )
