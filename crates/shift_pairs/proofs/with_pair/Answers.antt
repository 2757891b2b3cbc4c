-- By the comparison: an equal pair, one that differs after another, or the first that differs. Assumes nothing.
use Rattle.std.proofs.Common.{sym, ◌∙◌, ap, Some}
use Rattle.std.specs.Option.{is_none}
use Rattle.shift_pairs.specs.Pairs.{Files, Pair}
use Rattle.shift_pairs.specs.Report.{with_difference}
use Rattle.shift_pairs.specs.Pairing.{files_of}
use Rattle.shift_pairs.proofs.Tallied.{more_equal, more_differing, first_differing_lem}
use Rattle.shift_pairs.proofs.with_pair.Goals as goal

pub returns-in_default : goal.returns-in_default
returns-in_default c =
    more_equal (files_of c.args.ours.now.file.form c.args.ours.now.file.bytes.now c.args.theirs.now.file.form c.args.theirs.now.file.bytes.now) (record { ours = c.args.ours.now.k; theirs = c.args.theirs.now.k }) c.args.tally
    (sym (ap is_none c.compare_records.ensures) ∙ ap is_none c.in_default.is)

pub returns-then-tally-ne0 : goal.returns-then-tally-ne0
returns-then-tally-ne0 c =
    more_differing (files_of c.args.ours.now.file.form c.args.ours.now.file.bytes.now c.args.theirs.now.file.form c.args.theirs.now.file.bytes.now) (record { ours = c.args.ours.now.k; theirs = c.args.theirs.now.k }) c.args.tally
    (sym (ap is_none c.in-Some.ensures)) c.if-tally-ne0.true

pub returns : goal.returns
returns c =
    let files : Files = files_of c.args.ours.now.file.form c.args.ours.now.file.bytes.now c.args.theirs.now.file.form c.args.theirs.now.file.bytes.now in
    let pair : Pair = record { ours = c.args.ours.now.k; theirs = c.args.theirs.now.k } in
    first_differing_lem files pair c.args.tally (sym (ap is_none c.in-Some.ensures)) c.if-tally-ne0.false _
    ((λ i. Some (record { crossing = c.entry-entry.ensures.crossing i; ours = c.args.ours.now.k; theirs = c.args.theirs.now.k; difference = c.in-Some.difference }))
    ∙ ap (with_difference files pair) c.in-Some.ensures)
