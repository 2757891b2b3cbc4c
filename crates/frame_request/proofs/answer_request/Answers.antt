-- `answer_request` meets its contract: 1, 2 and 3 are refused first, with no byte written; the frame is the request's, so the frame call's promise is
-- that of the request.
-- Assumes nothing.
use Rattle.std.proofs.Common.{rules, ◌≡◌, false, drop, ap, arith, ◌∙◌}
use Rattle.std.specs.Prelude.{Err}
use Rattle.frame_request.specs.Request.{malformed, frame_of, luma_size, chroma_size}
use Rattle.frame_request.proofs.Checked.{checked, packed}
use Rattle.frame_request.proofs.Post.{opened, refused_size, called, posted, refused_late}
use Rattle.frame_request.proofs.answer_request.Goals as goal

pub returns-in_err-check_size : goal.returns-in_err-check_size
returns-in_err-check_size c =
    let sound : malformed c.args.input.now ≡ false = search rules in
    let frame : c.in_ok-frame.frame ≡ frame_of c.args.input.now = search rules in
    let same : c.from_residual-in_err-check_size.result ≡ Err c.in_err-check_size.field-0.0 = search rules in
    rw same (refused_size c.args.input.now c.args.output.now c.in_ok-frame.frame sound frame c.in_err-check_size.was c.check_size.ensures)

pub invariant_of-frame : goal.invariant_of-frame
invariant_of-frame c =
    let sound : malformed c.args.input.now ≡ false = search rules in
    let frame : c.in_ok-frame.frame ≡ frame_of c.args.input.now = search rules in
    let input = c.args.input.now in
    record { packed = rw frame (packed input (checked input (opened input c.in_ok-frame.frame sound frame c.in_ok-check_size.was c.check_size.ensures))) }

pub returns-in_err-convert : goal.returns-in_err-convert
returns-in_err-convert c =
    let input = c.args.input.now in
    let sound : malformed c.args.input.now ≡ false = search rules in
    let frame : c.in_ok-frame.frame ≡ frame_of c.args.input.now = search rules in
    let source : c.in_ok-frame.source.now ≡ drop 9 c.args.input.now = search rules in
    let same : c.from_residual-in_err-convert.result ≡ Err c.in_err-convert.field-0.0 = search rules in
    rw same (refused_late c.in_err-convert.was
    (called input c.args.output.now _ c.in_ok-frame.frame _ c.convert.result frame source
    (opened input c.in_ok-frame.frame sound frame c.in_ok-check_size.was c.check_size.ensures) c.convert.ensures.result_value c.convert.ensures.painted))

pub returns : goal.returns
returns c =
    let input = c.args.input.now in
    let sound : malformed c.args.input.now ≡ false = search rules in
    let frame : c.in_ok-frame.frame ≡ frame_of c.args.input.now = search rules in
    let source : c.in_ok-frame.source.now ≡ drop 9 c.args.input.now = search rules in
    let luma = c.luma_size.ensures ∙ ap luma_size frame in
    let chroma = c.chroma_size.ensures ∙ ap chroma_size frame in
    posted c.in_ok-convert.was (omega (arith, luma, chroma))
    (called input c.args.output.now _ c.in_ok-frame.frame _ c.convert.result frame source
    (opened input c.in_ok-frame.frame sound frame c.in_ok-check_size.was c.check_size.ensures) c.convert.ensures.result_value c.convert.ensures.painted)
