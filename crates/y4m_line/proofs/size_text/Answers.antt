use Rattle.std.proofs.Common.{arith, ◌≡◌, ◌≤◌, ◌<◌, ◌+◌, ◌*◌, ap, sym, ◌∙◌, length, drop, get_or}
use borrow.Author.Tests.{eqb-false}
use Rattle.y4m_line.specs.Line.{digit, value}
use Rattle.y4m_line.specs.Found.{side_told}
use Rattle.y4m_line.proofs.Decimal.{digits_bad, digits_next, digits_end, value_next, value_grows, value_end, value_some}
use Rattle.y4m_line.proofs.Decimal.{size_bad, size_large, size_ok, told_size}
use Rattle.y4m_line.proofs.size_text.Goals as goal

pub returns-in_err-side : goal.returns-in_err-side
returns-in_err-side c =
    let none : 9 < digit (get_or c.args.text.now c.loop-byte.byte-index 0) = omega (arith, c.in_err-side.ensures.value) in
    let bad = digits_bad c.args.text.now c.loop-byte.byte-index (omega arith) none in
    c.from_residual.ensures ∙ sym (ap side_told (size_bad c.args.text.now (sym c.loop-byte.invariant.0 ∙ bad)))

pub returns-then-side-gt-MOST_SIDE : goal.returns-then-side-gt-MOST_SIDE
returns-then-side-gt-MOST_SIDE c =
    let is : c.in_ok-side.field-0 ≡ digit (get_or c.args.text.now c.loop-byte.byte-index 0) = c.in_ok-side.ensures.value in
    let next = value_next c.args.text.now c.loop-byte.byte-index (omega arith) c.loop-byte.side in
    let grows = value_grows (c.loop-byte.side * 10 + digit (get_or c.args.text.now c.loop-byte.byte-index 0)) (drop (c.loop-byte.byte-index + 1) c.args.text.now) in
    let large : 16384 < value 0 c.args.text.now = omega (arith, c.loop-byte.invariant.1, next, grows, is) in
    sym (ap side_told (size_large c.args.text.now large))

pub loop-byte-preserved : goal.loop-byte-preserved
loop-byte-preserved c =
    let is : c.in_ok-side.field-0 ≡ digit (get_or c.args.text.now c.loop-byte.byte-index 0) = c.in_ok-side.ensures.value in
    let below : digit (get_or c.args.text.now c.loop-byte.byte-index 0) ≤ 9 = omega (arith, is, c.in_ok-side.ensures.upper_bound) in (
      sym (digits_next c.args.text.now c.loop-byte.byte-index (omega arith) below) ∙ c.loop-byte.invariant.0,
      rw is (sym (value_next c.args.text.now c.loop-byte.byte-index (omega arith) c.loop-byte.side) ∙ c.loop-byte.invariant.1),
      omega arith,
    )

pub returns : goal.returns
returns c =
    let is : value 0 c.args.text.now ≡ c.loop-byte.side =
    sym c.loop-byte.invariant.1 ∙ value_end c.args.text.now c.loop-byte.byte-index c.loop-byte.side (omega arith) in
    let all = sym c.loop-byte.invariant.0 ∙ digits_end c.args.text.now c.loop-byte.byte-index (omega arith) in
    let filled : 0 < length c.args.text.now = omega (arith, eqb-false (length c.args.text.now) 0 (sym c.is_empty.ensures ∙ c.if-is_empty.false)) in
    let some = value_some c.args.text.now filled (λ z. omega arith) all in
    told_size _ _ (size_ok c.args.text.now filled (λ z. omega arith) all (omega arith) ∙ is) (omega arith)
