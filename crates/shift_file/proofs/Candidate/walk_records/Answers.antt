use native.Mathlib.Omega.{arith}
use Prim.Native.Nat.{◌+◌, ◌*◌, ◌-◌, ◌≤◌}
use mathlib.Core.Path.{sym, ◌∙◌}
use lib.ListN.{length}
use Rattle.shift_file.proofs.Walk.{walk_none, walk_more, walk_end, next_inside}
use Rattle.shift_file.proofs.Candidate.walk_records.Goals as goal

pub overflow_add-at : goal.overflow_add-at
overflow_add-at c =
    let inside : c.loop-k.at + c.in-Some.size ≤ length c.args.self.now.bytes.now = next_inside _ _ _ _ _ (sym c.next_size.ensures ∙ c.in-Some.is) c.loop-k.invariant.inside in
    omega arith

pub loop-k-preserved : goal.loop-k-preserved
loop-k-preserved c = record {
  same = walk_more _ _ _ _ _ _ _ (sym c.next_size.ensures ∙ c.in-Some.is) c.loop-k-test.true ∙ c.loop-k.invariant.same;
  inside = next_inside _ _ _ _ _ (sym c.next_size.ensures ∙ c.in-Some.is) c.loop-k.invariant.inside;
}

pub returns-in-None : goal.returns-in-None
returns-in-None c = sym (walk_none _ _ _ _ _ (omega arith) (sym c.next_size.ensures ∙ c.in-None.is)) ∙ c.loop-k.invariant.same

pub returns : goal.returns
returns c = walk_end _ _ (c.args.first_pair + 12 * c.loop-k.k) _ (c.args.count - c.loop-k.k) (omega arith) ∙ c.loop-k.invariant.same
