use native.Mathlib.Omega.{arith}
use Prim.Native.Nat.{◌+◌, ◌*◌, ◌-◌, ◌≤◌}
use mathlib.Core.Path.{◌≡◌, sym, ap, ◌∙◌}
use native.Mathlib.Nat.{add-zero, sub-zero}
use lib.ListN.{length, drop}
use Rattle.shift_file.specs.Read.{size_at}
use Rattle.shift_writer.proofs.Count.{Next, next}
use Rattle.shift_writer.proofs.Lists.{list_count, list_Counted}
use Rattle.shift_writer.proofs.Pairs.{pairs_more, pairs_done}
use Rattle.shift_writer.proofs.list.RecordList.write_pairs.Goals.{In-loop-k}
use Rattle.shift_writer.proofs.list.RecordList.write_pairs.Goals as goal

this : (c : In-loop-k) → Next c.args.self.now.form c.args.self.now.bytes.now c.loop-k.at (c.args.self.now.count - c.loop-k.k - 1)
this c = next _ _ _ _ (omega arith) c.loop-k.invariant.counted

pub loop-k-init : goal.loop-k-init
loop-k-init c = record { same = rw (add-zero, add-zero, sub-zero, list_count c.args.self.now); inside = omega arith; counted = rw sub-zero (list_Counted c.args.self.now) }

pub size_at-size-requires : goal.size_at-size-requires
size_at-size-requires c = rw c.from_place.ensures (this (goal.at.size_at-size-requires c).In-loop-k).header

pub overflow_add-at : goal.overflow_add-at
overflow_add-at c =
    let inside : c.loop-k.at + c.size_at-size.result ≤ length c.args.self.now.bytes.now =
    rw (c.size_at-size.ensures, c.from_place.ensures) ((this (goal.at.overflow_add-at c).In-loop-k).inside c.loop-k.invariant.inside) in
    omega arith

pub loop-k-preserved : goal.loop-k-preserved
loop-k-preserved c =
    let n = this (goal.at.loop-k-preserved c).In-loop-k in
    let size_is : c.size_at-size.result ≡ size_at c.args.self.now.form (drop c.loop-k.at c.args.self.now.bytes.now) =
    c.size_at-size.ensures ∙ ap (size_at c.args.self.now.form) c.from_place.ensures in
    let pair : c.args.first_pair + 12 * (c.loop-k.k + 1) ≡ c.args.first_pair + 12 * c.loop-k.k + 12 = omega arith in
    let left : c.args.self.now.count - (c.loop-k.k + 1) ≡ c.args.self.now.count - c.loop-k.k - 1 = omega arith in record {
      same = rw (pair, left, c.write_pair.ensures, size_is)
          (pairs_more _ _ _ _ _ _ (c.args.self.now.count - c.loop-k.k) (omega arith) c.loop-k.invariant.counted ∙ c.loop-k.invariant.same);
      inside = rw size_is (n.inside c.loop-k.invariant.inside);
      counted = rw (left, size_is) n.later;
    }

pub returns : goal.returns
returns c = sym (pairs_done _ _ _ _ _ _ (c.args.self.now.count - c.loop-k.k) (omega arith)) ∙ c.loop-k.invariant.same
