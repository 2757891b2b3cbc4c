-- `replay` meets its contract: the next call was made between its number and a newline; and at the end as many as the list said.
use Rattle.std.proofs.Common.{◌≡◌, ◌+◌, arith, of_calls, OnOk, Result, Ok, Err}
use Rattle.std.proofs.lemmas.Fn.{FoldsTo-push}
use Rattle.replay.specs.Calls.{Prints}
use Rattle.replay.proofs.Made.{prints}
use Rattle.replay.proofs.Ranges.{from_one}
use Rattle.replay.proofs.slices.replay.Goals as goal

pub loop-place-preserved : goal.loop-place-preserved
loop-place-preserved g c = (
  search of_calls,
  rw (from_one c.loop-place.place) (FoldsTo-push (Prints g.F.FnMut g.W.Write.contents) _ _ _ (c.loop-place.place + 1) _ c.loop-place.invariant.1
      (prints g.F.FnMut g.W.Write.contents c.in_ok-write.ensures.bytes c.call.ensures c.in_ok-call.was c.in_ok-write_all.ensures.bytes)),
)

on_ok : {E P : Type 0} (r : Result Unit E) → P → OnOk r P
on_ok (Ok done) p = p
on_ok (Err e) p = tt

pub returns : goal.returns
returns g c =
    let all : c.loop-place.place ≡ c.number-count.result = omega arith in
    on_ok c.flush.result
    (c.number-count.new.list, c.loop-place.call, c.loop-place.out, c.number-count.ensures.1, rw (← c.number-count.ensures.0, ← all) c.loop-place.invariant.1, c.flush.ensures.bytes)
