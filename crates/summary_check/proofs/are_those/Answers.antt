-- The invariant: whether the entries from place i on are those that the keys name is what is asked. Assumes nothing.
use Rattle.std.proofs.Common.{arith, ap, ap₂, sym, ◌∙◌, ◌≡◌, ◌+◌, Bool, true, false, ◌&&◌, length}
use Rattle.summary_entry.specs.Entry.{entries_in, same_entry}
use Rattle.summary_entry.proofs.Entry.{length_read, entry_at}
use Rattle.shift_file.specs.Read.{records_in}
use Rattle.shift_summary.specs.Summary.{entries_of}
use Rattle.shift_summary.proofs.Loops.{ordered_entries}
use Rattle.summary_check.specs.Check.{same_entries}
use Rattle.summary_check.proofs.Tests.{same_from, same_step, same_done}
use Rattle.summary_check.proofs.are_those.Goals.{After-entry_at-of_file}
use Rattle.summary_check.proofs.are_those.Goals as goal

-- the test from place i on is this one, and the later ones
step : (c : After-entry_at-of_file) → let keys = c.args.ordered.now.keys.now in let f = c.args.ordered.now.file in
    let es = entries_in (length keys) c.args.summary.now in let fs = entries_of f.form (records_in f.form f.bytes.now) in
    same_from keys es fs 0 ≡ (same_entry c.read_entry-entry.result c.entry_at-of_file.result && same_from keys es fs (c.loop-i.i + 1))
step c =
    let keys = c.args.ordered.now.keys.now in
    let f = c.args.ordered.now.file in
    let n = length keys in
    let es = entries_in n c.args.summary.now in
    let fs = entries_of f.form (records_in f.form f.bytes.now) in
    sym c.loop-i.invariant
    ∙ same_step keys es fs c.loop-i.i _ (omega arith) (omega (arith, length_read n c.args.summary.now))
    ∙ ap (λ (b : Bool). b && same_from keys es fs (c.loop-i.i + 1))
    (sym (ap₂ same_entry (c.read_entry-entry.ensures ∙ sym (entry_at n c.loop-i.i c.args.summary.now (omega arith)))
    (rw (c.«record».ensures.0, c.«record».ensures.1, c.place-place.ensures) at c.entry_at-of_file.ensures)))

pub returns-then-not-is_same : goal.returns-then-not-is_same
returns-then-not-is_same c =
    let o = c.args.ordered.now in
    let differ : same_entry c.read_entry-entry.result c.entry_at-of_file.result ≡ false = sym c.is_same.ensures ∙ c.if-not-is_same.true in
    sym (rw differ at (step (goal.at.returns-then-not-is_same c).After-entry_at-of_file))
    ∙ ap (same_entries _) (ordered_entries o.file.form (records_in o.file.form o.file.bytes.now) o.keys.now o.in_order)

pub loop-i-preserved : goal.loop-i-preserved
loop-i-preserved c =
    let same : same_entry c.read_entry-entry.result c.entry_at-of_file.result ≡ true = sym c.is_same.ensures ∙ c.if-not-is_same.false in
    sym (rw same at (step (goal.at.loop-i-preserved c).After-entry_at-of_file))

pub returns : goal.returns
returns c =
    let o = c.args.ordered.now in
    let n = length o.keys.now in
    let rs = records_in o.file.form o.file.bytes.now in
    let es = entries_in n c.args.summary.now in
    sym (same_done o.keys.now es (entries_of o.file.form rs) c.loop-i.i (omega arith) (omega (arith, length_read n c.args.summary.now)))
    ∙ c.loop-i.invariant ∙ ap (same_entries es) (ordered_entries o.file.form rs o.keys.now o.in_order)
