use Rattle.std.proofs.Common.{arith, ◌≡◌, ◌<◌, sym, ◌∙◌, length, length-drop}
use borrow.Author.Tests.{eqb-false, eqb-true}
use Rattle.std.proofs.lemmas.List.{take_rest}
use Rattle.y4m_file.specs.Check.{picture_size, count_of}
use Rattle.y4m_file.proofs.Count.{count_done, count_more, fewer_more, count_none, count_of_lem}
use Rattle.y4m_file.proofs.count_pictures.Goals as goal

pub returns-in_err-size : goal.returns-in_err-size
returns-in_err-size c =
    let some : 0 < length c.loop-rest.rest.now = omega (arith, eqb-false (length c.loop-rest.rest.now) 0 (sym c.is_empty.ensures ∙ c.loop-rest-test.true)) in
    rw c.from_residual.ensures
    (count_none c.args.planes c.args.bytes.now c.loop-rest.rest.now c.loop-rest.count c.loop-rest.invariant.0 some c.loop-rest.invariant.1
    (sym c.in_err-size.ensures.value) (count_of c.args.planes c.args.bytes.now))

pub loop-rest-preserved : goal.loop-rest-preserved
loop-rest-preserved c =
    let some : 0 < length c.loop-rest.rest.now = omega (arith, eqb-false (length c.loop-rest.rest.now) 0 (sym c.is_empty.ensures ∙ c.loop-rest-test.true)) in
    let size : c.in_ok-size.size ≡ picture_size c.args.planes c.loop-rest.rest.now = c.in_ok-size.ensures.value in
    rw (take_rest c.loop-rest.rest.now c.in_ok-size.size) (
      count_more c.args.planes c.args.bytes.now c.loop-rest.rest.now c.loop-rest.count c.loop-rest.invariant.0 c.in_ok-size.size size
          c.in_ok-size.ensures.inside.0,
      fewer_more c.args.planes c.args.bytes.now c.loop-rest.rest.now c.loop-rest.count c.loop-rest.invariant.0 some c.loop-rest.invariant.1,
      omega (arith, length-drop c.in_ok-size.size c.loop-rest.rest.now, c.in_ok-size.ensures.inside.0, c.in_ok-size.ensures.inside.1),
    )

pub returns : goal.returns
returns c =
    let none : length c.loop-rest.rest.now ≡ 0 = eqb-true (length c.loop-rest.rest.now) 0 (sym c.is_empty.ensures ∙ c.loop-rest-test.false) in
    let all = count_done c.args.planes c.args.bytes.now c.loop-rest.rest.now c.loop-rest.count c.loop-rest.invariant.0 none in
    (all, sym (count_of_lem c.args.planes c.loop-rest.count c.args.bytes.now all))
