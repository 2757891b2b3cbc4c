-- Assumes nothing.
use mathlib.Core.Path.{refl}
use native.Mathlib.Omega.{arith}
use Rattle.shift_file.specs.Read.{records_in}
use Rattle.shift_reader.specs.Entry.{entries_of}
use Rattle.shift_reader.proofs.Files.{file_known}
use Rattle.shift_reader.proofs.Entries.{entry_told}
use Rattle.shift_reader.proofs.tell_entries.Goals as goal

pub loop-i-init : goal.loop-i-init
unfolding entries_of
loop-i-init c = refl

pub loop-i-preserved : goal.loop-i-preserved
loop-i-preserved c =
    let f = c.args.file.now in
    let k = file_known f in
    entry_told c.args.kind f.form (records_in f.form f.bytes.now) c.args.entries.now c.loop-i.entries _ c.args.first c.loop-i.i c.args.count _ _ k.its.has.each
    (omega (arith, k.count, f.counted, c.requires.below)) c.loop-i-test.true c.requires.room c.loop-i.auto.entries (rw c.size-size.ensures.0) (omega arith)
    c.loop-i.invariant (rw (c.«record».ensures.0, c.«record».ensures.1) at c.tell_entry.ensures)
