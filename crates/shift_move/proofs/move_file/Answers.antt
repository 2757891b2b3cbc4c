-- `move_file` meets its contract: 15 by the check, 20 by the settings, 16 by the size, which is the moved file's; then the file is put.
-- Assumes nothing.
use native.Mathlib.Omega.{arith}
use mathlib.Core.Path.{◌≡◌, refl, sym, ◌∙◌}
use mathlib.Core.Bool.{true, false}
use lib.ListN.{length}
use borrow.Author.Tests.{lt-ltb, le-ltb}
use Rattle.shift_file.specs.Read.{records_in}
use Rattle.shift_writer.proofs.Answers.{from_start}
use Rattle.shift_move.specs.Move.{may_move, moved_file}
use Rattle.shift_move.proofs.Files.{file_records, moved_most, asked_in_order}
use Rattle.shift_move.proofs.move_file.Goals.{Else-not-may_move}
use Rattle.shift_move.proofs.move_file.Goals as goal

moves_on : (c : Else-not-may_move) → may_move c.in_ok-file.file.form (records_in c.in_ok-file.file.form c.in_ok-file.file.bytes.now) ≡ true
moves_on c = sym c.may_move.ensures ∙ search

pub returns-then-not-may_move : goal.returns-then-not-may_move
returns-then-not-may_move c =
    let f = c.in_ok-file.file in
    let s = c.in_ok-file.ensures.same in
    let no : may_move f.form (records_in f.form f.bytes.now) ≡ false = sym c.may_move.ensures ∙ search in
    rw (← s.0, ← s.1) (record {
      answered = rw (asked_in_order f.form f.bytes.now (length c.args.output.now), f.checked, no);
      size = refl;
      written = refl;
    })

pub file_size-size-requires : goal.file_size-size-requires
file_size-size-requires c =
    let f = c.in_ok-file.file in
    let h = file_records f in
    moved_most f.form f.bytes.now (records_in f.form f.bytes.now) h.is_file_lem (moves_on (goal.at.file_size-size-requires c).Else-not-may_move)

pub returns-then-output-size : goal.returns-then-output-size
returns-then-output-size c =
    let f = c.in_ok-file.file in
    let s = c.in_ok-file.ensures.same in
    let room = length c.args.output.now in
    let file = moved_file f.form f.bytes.now in
    let may = moves_on (goal.at.returns-then-output-size c).Else-not-may_move in
    rw (← s.0, ← s.1) (record {
      answered = rw (asked_in_order f.form f.bytes.now room, f.checked, may, lt-ltb room (length file) (omega (arith, c.file_size-size.ensures)));
      size = c.file_size-size.ensures;
      written = refl;
    })

pub returns : goal.returns
returns c =
    let f = c.in_ok-file.file in
    let s = c.in_ok-file.ensures.same in
    let room = length c.args.output.now in
    let file = moved_file f.form f.bytes.now in
    let may = moves_on (goal.at.returns c).Else-not-may_move in
    rw (← s.0, ← s.1) (record {
      answered = rw (asked_in_order f.form f.bytes.now room, f.checked, may, le-ltb room (length file) (omega (arith, c.file_size-size.ensures)));
      size = c.file_size-size.ensures;
      written = from_start file c.args.output.now _ c.put_file.ensures (omega (arith, c.file_size-size.ensures));
    })
