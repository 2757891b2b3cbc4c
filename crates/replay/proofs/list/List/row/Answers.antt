-- `row` meets its contract: a place more holds what the next call gave.
use Rattle.std.proofs.Common.{◌≡◌, ◌++◌, [], ◌∷◌, ◌+◌, take, arith, of_calls, ap, ◌∙◌, add-one}
use lib.ListN.{set}
use lib.Seq.{take_all, take-suc-set}
use Rattle.replay.proofs.Made.{gives, pushed}
use Rattle.replay.proofs.list.List.row.Goals as goal

pub loop-place-preserved : goal.loop-place-preserved
loop-place-preserved g c =
    let xs = c.loop-place.place-items in
    let i = c.loop-place.place-index in
    let one : take (i + 1) (set xs i c.next.result) ≡ take i xs ++ (c.next.result ∷ []) =
    ap (λ n. take n (set xs i c.next.result)) (add-one i) ∙ take-suc-set xs i c.next.result (omega arith) in (
      search of_calls,
      pushed g.F.FnMut _ _ _ _ _ _ one c.loop-place.invariant.1 (gives g.F.FnMut c.next.ensures),
    )

pub returns : goal.returns
returns g c =
    let all : take c.loop-place.place-index c.loop-place.place-items ≡ c.loop-place.place-items =
    take_all c.loop-place.place-index c.loop-place.place-items (omega arith) in
    (c.loop-place.next, rw all at c.loop-place.invariant.1)
