-- The invariant is a walk under way. Each turn is one of its steps; after the last one the pairs are all. Assumes nothing.
use Rattle.std.proofs.Common.{rules, arith, sym, ◌+◌, ◌≤◌, length}
use lib.ListN.{length-map}
use Rattle.crossing_keys.specs.Keys.{number_of}
use Rattle.shift_reader.proofs.Files.{file_known}
use Rattle.crossing_keys.proofs.Places.{keys_counted}
use Rattle.shift_pairs.proofs.Walking.{Walking-none, so_far, next_ours, next_theirs, next_both}
use Rattle.shift_pairs.proofs.Walking.{all_ours, all_theirs, reported}
use Rattle.shift_pairs.proofs.pair_keys.Goals.{At-loop-i}
use Rattle.shift_pairs.proofs.pair_keys.Goals.{else-loop-i-test, then-loop-i-test+then-j-b}
use Rattle.shift_pairs.proofs.pair_keys.Goals as goal

-- no more pairs than keys on either side
pairs_few : (c : At-loop-i) → (c.loop-i.tally.equal + c.loop-i.tally.differing ≤ length c.args.ours.now.keys.now)
    × (c.loop-i.tally.equal + c.loop-i.tally.differing ≤ length c.args.theirs.now.keys.now)
pairs_few c =
    let pairs = so_far _ _ _ c.loop-i.i c.loop-i.j c.loop-i.tally c.loop-i.invariant.2 in
    (omega (arith, c.loop-i.invariant.2.few_ours), omega (arith, c.loop-i.invariant.2.few_theirs))

pub loop-i-init : goal.loop-i-init
loop-i-init c = (search rules, search rules, Walking-none _ _ _)

pub loop-i-preserved-then-our_crossing-their_crossing : goal.loop-i-preserved-then-our_crossing-their_crossing
loop-i-preserved-then-our_crossing-their_crossing c = (
  search rules,
  search rules,
  next_ours _ _ _ c.loop-i.i c.loop-i.j c.loop-i.tally _ _ _ _ c.loop-i.invariant.2 (omega arith) (omega arith) c.crossing-our_crossing.ensures
      c.crossing-their_crossing.ensures c.if-our_crossing-their_crossing.true,
)

pub loop-i-preserved-then-their_crossing-our_crossing : goal.loop-i-preserved-then-their_crossing-our_crossing
loop-i-preserved-then-their_crossing-our_crossing c = (
  search rules,
  search rules,
  next_theirs _ _ _ c.loop-i.i c.loop-i.j c.loop-i.tally _ _ _ _ c.loop-i.invariant.2 (omega arith) (omega arith) c.crossing-our_crossing.ensures
      c.crossing-their_crossing.ensures c.if-their_crossing-our_crossing.true,
)

pub with_pair-tally-requires : goal.with_pair-tally-requires
with_pair-tally-requires c =
    omega (arith, so_far _ _ _ c.loop-i.i c.loop-i.j c.loop-i.tally c.loop-i.invariant.2, c.loop-i.invariant.2.few_ours, keys_counted c.args.ours.now, c.args.ours.now.file.few)

pub loop-i-preserved : goal.loop-i-preserved
loop-i-preserved c = (
  search rules,
  search rules,
  next_both _ _ _ c.loop-i.i c.loop-i.j c.loop-i.tally _ _ _ _ c.loop-i.invariant.2 (omega arith) (omega arith) c.crossing-our_crossing.ensures
      c.crossing-their_crossing.ensures (omega arith) _ _ c.place.ensures c.place-else-their_crossing-our_crossing.ensures _
      (rw (c.record-our_record.ensures.0, c.record-our_record.ensures.1, c.record-their_record.ensures.0, c.record-their_record.ensures.1) at c.with_pair-tally.ensures),
)

pub overflow_add-pairs : goal.overflow_add-pairs
overflow_add-pairs c = omega (arith, pairs_few (goal.at.overflow_add-pairs c).At-loop-i)

pub overflow_sub-result : goal.overflow_sub-result
overflow_sub-result c = omega (arith, pairs_few (goal.at.overflow_sub-result c).At-loop-i)

pub overflow_sub-result-2 : goal.overflow_sub-result-2
overflow_sub-result-2 c = omega (arith, pairs_few (goal.at.overflow_sub-result-2 c).At-loop-i)

pub returns : goal.returns
returns c =
    let o = c.args.ours.now in
    let t = c.args.theirs.now in
    let long_a = length-map o.keys.now number_of in
    let long_b = length-map t.keys.now number_of in
    reported _ _ _ o.in_order t.in_order (file_known o.file).its.has (file_known t.file).its.has
    _ _ (sym long_a) (sym long_b) c.loop-i.tally c.loop-i.invariant.2.done
    c.loop-i.invariant.2.tallied (elim c.loop-i-test.branch [
      | else-loop-i-test w ↦ all_ours _ _ _ c.loop-i.i c.loop-i.j c.loop-i.tally c.loop-i.invariant.2 (omega arith)
      | then-loop-i-test+then-j-b w ↦ all_theirs _ _ _ c.loop-i.i c.loop-i.j c.loop-i.tally c.loop-i.invariant.2 (omega arith)
    ])
