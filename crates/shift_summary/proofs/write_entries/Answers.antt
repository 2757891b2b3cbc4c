-- The invariant: the entries that are left to write complete the whole. Each key names a record. Assumes nothing.
use Rattle.std.proofs.Common.{arith, sym, ap, ◌∙◌, List}
use lib.Seq.{sets}
use Rattle.summary_entry.specs.declared.SummaryEntry.{SummaryEntry}
use Rattle.summary_entry.specs.Entry.{entries_bytes}
use Rattle.shift_file.specs.Read.{records_in}
use Rattle.shift_summary.specs.Summary.{entries_of}
use Rattle.shift_summary.proofs.Loops.{ordered_entries, entry_more, entries_done}
use Rattle.shift_summary.proofs.write_entries.Goals as goal

pub loop-i-preserved : goal.loop-i-preserved
loop-i-preserved c =
    let o = c.args.ordered.now in
    let es = entries_of o.file.form (records_in o.file.form o.file.bytes.now) in
    entry_more es o.keys.now c.loop-i.summary _ c.loop-i.i _ _ (omega arith)
    (rw (c.«record».ensures.0, c.«record».ensures.1, c.place-place.ensures) at c.entry_at-entry.ensures) c.write_entry.ensures
    ∙ c.loop-i.invariant

pub returns : goal.returns
returns c =
    let o = c.args.ordered.now in
    let rs = records_in o.file.form o.file.bytes.now in
    sym (entries_done (entries_of o.file.form rs) o.keys.now c.loop-i.summary c.loop-i.i (omega arith)) ∙ c.loop-i.invariant
    ∙ ap (λ (es : List SummaryEntry). sets c.args.summary.now 0 (entries_bytes es)) (ordered_entries o.file.form rs o.keys.now o.in_order)
