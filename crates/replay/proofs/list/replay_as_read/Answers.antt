-- `replay_as_read` meets its contract: the next call was made between its number and a newline; and at the end as many as the list said.
use Rattle.std.proofs.Common.{◌≡◌, ◌+◌, arith, of_calls, OnOk, Result, Ok, Err}
use Rattle.std.proofs.lemmas.Fn.{FoldsTo-push}
use Rattle.std.proofs.KnownBytes.{Appends-kept}
use Rattle.replay.specs.Calls.{Prints}
use Rattle.replay.proofs.Made.{prints}
use Rattle.replay.proofs.Ranges.{from_one}
use Rattle.replay.proofs.list.replay_as_read.Goals as goal

pub loop-place-preserved : goal.loop-place-preserved
loop-place-preserved g c = (
  search of_calls,
  rw (from_one c.loop-place.place) (FoldsTo-push (Prints g.F.FnMut g.W.Write.contents) _ _ _ (c.loop-place.place + 1) _ c.loop-place.invariant.1
      (prints g.F.FnMut g.W.Write.contents (Appends-kept _ _ _ _ c.in_ok-write.ensures.bytes c.in_ok-flush.ensures.bytes)
      c.call.ensures c.in_ok-call.was (Appends-kept _ _ _ _ c.in_ok-write_all.ensures.bytes c.in_ok-flush-2.ensures.bytes))),
)

on_ok : {E P : Type 0} (r : Result Unit E) → P → OnOk r P
on_ok (Ok done) p = p
on_ok (Err e) p = tt

pub returns : goal.returns
returns g c =
    let begun = c.in_ok-begun.ensures in
    let checked = c.in_ok-check.ensures in
    let all : c.loop-place.place ≡ c.number-count.result = omega arith in
    on_ok c.flush-2.result (
      record { rest = c.check-begun.new.self; alloc = c.number-count.new.self.alloc },
      c.loop-place.call,
      c.loop-place.out,
      c.number-count.result,
      rw begun.kept c.number-count.ensures,
      begun.whole,
      rw (checked.kept, ← all) c.loop-place.invariant.1,
      checked.whole,
      c.flush-2.ensures.bytes,
    )
