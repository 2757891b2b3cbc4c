use Rattle.std.proofs.Common.{◌≡◌, ℕ, get_or, refl, arith, rules}
use Rattle.frame_request.specs.Reply.{Begins}
use Rattle.counts_request.specs.declared.Text.{Text}
use Rattle.counts_request.specs.Reply.{lines}
use Rattle.counts_request.specs.Puts.{PutsInto}
use Rattle.counts_request.proofs.Lines.{line_size, lines_none, lines_more}
use Rattle.counts_request.proofs.Puts.{PutsInto-more, Puts-Begins}
use Rattle.counts_request.proofs.put_lines.Goals as goal

-- no line is put down yet
none_yet : (f : ℕ → ℕ) (text : Text) → text.at ≡ 0 → PutsInto (lines f 0) text text
none_yet f text e = rw (lines_none f) (record { size = refl; loan = refl; puts = rw e (record { size = refl; is = refl }) })

pub loop-luma-init : goal.loop-luma-init
loop-luma-init c = (omega arith, none_yet _ _ refl)

pub loop-luma-preserved : goal.loop-luma-preserved
loop-luma-preserved c =
    let n = get_or c.args.counts.now c.loop-luma.luma 0 in (
      omega (arith, line_size c.loop-luma.luma n (omega arith) (c.requires.by_index c.loop-luma.luma (omega arith)), c.put_line.ensures.puts.size),
      rw lines_more (PutsInto-more (omega arith) c.loop-luma.invariant.1 c.put_line.ensures),
    )

pub returns : goal.returns
returns c =
    let all : 256 ≡ c.loop-luma.luma = omega arith in
    let filled : Begins (lines (λ y. get_or c.args.counts.now y 0) 256) c.args.output.now c.loop-luma.text.at c.loop-luma.text.output.now =
    rw all (Puts-Begins c.loop-luma.invariant.1.puts) in
    search (rules, filled)
