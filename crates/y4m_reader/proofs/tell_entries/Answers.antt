-- Assumes nothing.
use native.Mathlib.Omega.{arith}
use Prim.Native.Nat.{◌+◌}
use mathlib.Core.Path.{◌≡◌, sym, ◌∙◌}
use Rattle.y4m_reader.proofs.Files.{Here, picture_here}
use Rattle.y4m_reader.proofs.Entries.{entry_more, entries_done}
use Rattle.y4m_reader.proofs.tell_entries.Goals.{After-past_line-y}
use Rattle.y4m_reader.proofs.tell_entries.Goals as goal

here : (c : After-past_line-y) → Here c.args.file.now.bytes.now c.plane_sizes-sizes.result (c.args.first + c.loop-i.i) c.past_line-y.result
here c =
    picture_here c.args.file.now _ c.plane_sizes-sizes.ensures (c.args.first + c.loop-i.i) c.loop-i.at _ (omega (arith, c.requires.pictures, c.loop-i-test.true))
    c.loop-i.invariant.2 c.past_line-y.ensures.place

pub numbers-requires : goal.numbers-requires
numbers-requires c =
    (omega (arith, (here (goal.at.numbers-requires c).After-past_line-y).inside), c.plane_sizes-sizes.ensures.luma_most_lem, c.plane_sizes-sizes.ensures.chroma_most)

pub loop-i-preserved : goal.loop-i-preserved
loop-i-preserved c =
    let h = here (goal.at.loop-i-preserved c).After-past_line-y in
    let one : c.args.first + (c.loop-i.i + 1) ≡ c.args.first + c.loop-i.i + 1 = omega arith in (
      rw c.put.ensures (entry_more _ _ _ c.args.first c.args.count c.loop-i.i (c.numbers.ensures ∙ h.entry) (omega arith) ∙ c.loop-i.invariant.0),
      c.put.auto.output ∙ c.loop-i.invariant.1,
      rw one h.next,
    )

pub returns : goal.returns
returns c = sym (entries_done _ _ _ _ _ (omega arith)) ∙ c.loop-i.invariant.0
