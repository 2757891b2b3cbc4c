-- `are_plain` meets its contract: the records left to look at decide as all of them do.
-- Assumes nothing.
use native.Mathlib.Omega.{arith}
use Prim.Native.Nat.{◌+◌}
use mathlib.Core.Path.{◌≡◌, sym, ap, ◌∙◌}
use mathlib.Core.Bool.{true, false, ◌&&◌}
use lib.ListN.{drop}
use Rattle.shift_file.specs.Read.{records_in}
use Rattle.shift_reader.specs.Entry.{record_of}
use Rattle.shift_move.specs.Move.{is_plain, are_plain}
use Rattle.shift_move.proofs.Files.{file_records}
use Rattle.shift_move.proofs.Steps.{told_with, plain_next, plain_last}
use Rattle.shift_move.proofs.are_plain.Goals.{After-is_plain}
use Rattle.shift_move.proofs.are_plain.Goals as goal

-- and so of all that are left
left_here : (c : After-is_plain) → let f = c.args.file.now in let rs = records_in f.form f.bytes.now in
    (c.is_plain.result && are_plain (drop (c.loop-k.k + 1) rs)) ≡ are_plain rs
left_here c =
    let f = c.args.file.now in
    let h = file_records f in
    let plain_here : c.is_plain.result ≡ is_plain (record_of f.form f.bytes.now c.loop-k.k).settings =
    c.is_plain.ensures ∙ ap is_plain ((rw (c.«record».ensures.0, c.«record».ensures.1) at c.settings.ensures) ∙ told_with f.form c.requires (record_of f.form f.bytes.now c.loop-k.k).settings) in
    rw plain_here (sym (plain_next (records_in f.form f.bytes.now) c.loop-k.k (omega (arith, h.count, c.loop-k-test.true))) ∙ c.loop-k.invariant)

pub returns-then-not-is_plain : goal.returns-then-not-is_plain
returns-then-not-is_plain c =
    let no : c.is_plain.result ≡ false = search in
    rw no at (left_here (goal.at.returns-then-not-is_plain c).After-is_plain)

pub loop-k-preserved : goal.loop-k-preserved
loop-k-preserved c =
    let yes : c.is_plain.result ≡ true = search in
    rw yes at (left_here (goal.at.loop-k-preserved c).After-is_plain)

pub returns : goal.returns
returns c =
    let f = c.args.file.now in
    let h = file_records f in
    sym (plain_last (records_in f.form f.bytes.now) c.loop-k.k (omega (arith, h.count, c.loop-k-test.false))) ∙ c.loop-k.invariant
