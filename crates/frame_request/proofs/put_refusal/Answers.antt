-- `put_refusal` meets its contract: 11 bytes hold the text, two digits and the newline.
-- Assumes nothing.
use Rattle.std.proofs.Common.{rules, arith, ap, ◌≡◌, ◌++◌, length, drop}
use lib.ListN.{length-append, length-drop}
use borrow.Rule.Slice.PartMut.{post_of}
use Rattle.frame_request.specs.Reply.{refused_text}
use Rattle.frame_request.proofs.Reply.{digits_most, line_Begins}
use Rattle.frame_request.proofs.put_refusal.Goals.{After-copy_from_slice}
use Rattle.frame_request.proofs.put_refusal.Goals as goal

-- the text stands at the start
text : (c : After-copy_from_slice) → c.copy_from_slice.new.self ++ post_of 0 8 c.args.output.now ≡ refused_text ++ drop 8 c.args.output.now
text c = search rules

room : (c : After-copy_from_slice) → length c.args.output.now ≡ 49152
room c = search rules

pub put_decimal-end-requires : goal.put_decimal-end-requires
put_decimal-end-requires c =
    let before = (goal.at.put_decimal-end-requires c).After-copy_from_slice in
    omega (
      arith,
      digits_most c.args.number c.requires,
      ap length (text before),
      length-append refused_text (drop 8 c.args.output.now),
      length-drop 8 c.args.output.now,
      room before,
    )

pub bounds-output-end : goal.bounds-output-end
bounds-output-end c = omega (arith, digits_most c.args.number c.requires, c.put_decimal-end.ensures.end)

pub overflow_add-result : goal.overflow_add-result
overflow_add-result c = omega (arith, digits_most c.args.number c.requires, c.put_decimal-end.ensures.end)

pub returns : goal.returns
returns c =
    let before = (goal.at.returns c).After-copy_from_slice in
    line_Begins c.args.number c.put_decimal-end.result c.args.output.now _ _ c.requires (omega (arith, room before)) (text before)
    c.put_decimal-end.ensures.end (rw c.put_decimal-end.ensures.written)
