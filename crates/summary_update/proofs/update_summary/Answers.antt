-- The new entry goes to its place at the front. Assumes nothing.
use Rattle.std.proofs.Common.{arith, ◌≡◌, ◌∙◌, sym, true, ℕ, ◌+◌, ◌*◌, ◌≤◌, ap, map, length}
use mathlib.Core.Bool.{and-eq-true_iff}
use borrow.Author.Tests.{leb-true}
use lib.Dec.{leb}
use lib.Seq.{sets}
use Rattle.summary_entry.specs.declared.SummaryEntry.{SummaryEntry}
use Rattle.summary_entry.specs.Entry.{entries_bytes, entries_in}
use Rattle.summary_entry.specs.Grown.{grown, place}
use Rattle.shift_file.specs.Read.{records_in}
use Rattle.shift_writer.proofs.Answers.{from_start}
use Rattle.crossing_keys.proofs.Places.{records_counted}
use Rattle.summary_check.specs.Check.{is_summary}
use Rattle.summary_update.specs.Update.{new_entry, updated}
use Rattle.summary_update.proofs.Grown.{offsets_short}
use Rattle.summary_update.proofs.Told.{length-updated}
use Rattle.summary_update.proofs.update_summary.Goals.{Else-not-may_take}
use Rattle.summary_update.proofs.update_summary.Goals as goal

-- what is lent is a summary, with room for one entry more
takes : (c : Else-not-may_take) → let f = c.in_ok-file.file in let rs = records_in f.form f.bytes.now in
    (13 * (length rs + 1) ≤ length c.args.summary.now) × (is_summary f.form rs c.args.summary.now ≡ true)
takes c =
    let rs = records_in c.in_ok-file.file.form c.in_ok-file.file.bytes.now in
    let p = (and-eq-true_iff (leb (13 * (length rs + 1)) (length c.args.summary.now)) _).0 (sym c.if-not-may_take.ensures) in
    (leb-true _ _ p.0, p.1)

pub place_entry-requires-clause-offsets_below : goal.place_entry-requires-clause-offsets_below
place_entry-requires-clause-offsets_below c =
    let f = c.in_ok-file.file in
    rw (records_counted f) at (offsets_short f.form f.bytes.now c.args.added.now f.are_bytes (λ i. omega (arith, c.type_inv.added i)) (sym c.if-not-may_grow.ensures)
    c.args.summary.now (takes (goal.at.place_entry-requires-clause-offsets_below c).Else-not-may_take).1)

pub returns : goal.returns
returns c =
    let f = c.in_ok-file.file in
    let s = c.in_ok-file.ensures.same in
    let rs = records_in f.form f.bytes.now in
    let summary = c.args.summary.now in
    let new = new_entry f.form f.bytes.now c.args.added.now in
    let written = updated f.form f.bytes.now c.args.added.now summary in
    let placed = c.place_entry.ensures
    ∙ ap (λ (e : SummaryEntry). sets summary 0 (entries_bytes (place e (map grown (entries_in f.count summary))))) c.new_entry-entry.ensures
    ∙ ap (λ (n : ℕ). sets summary 0 (entries_bytes (place new (map grown (entries_in n summary))))) (sym (records_counted f)) in
    rw (← s.0, ← s.1) (record {
      answered = rw (← c.if-not-may_grow.ensures, ← c.if-not-may_take.ensures);
      written = from_start written summary _ placed
          (omega (arith, length-updated f.form f.bytes.now c.args.added.now summary, (takes (goal.at.returns c).Else-not-may_take).0));
    })
