-- `read_header` meets its contract, test by test. Assumes nothing.
use Rattle.std.proofs.Common.{◌≡◌, sym, ◌∙◌, true}
use Rattle.y4m_line.specs.Line.{magic}
use Rattle.y4m_line.specs.Header.{width_of, height_of, sampling_of, is_line}
use Rattle.y4m_line.proofs.Decimal.{side_none, side_some, sampling_none, sampling_some}
use Rattle.y4m_line.proofs.Header.{not_line, no_width, no_height, no_code, header}
use Rattle.y4m_line.proofs.read_header.Goals as goal

pub returns-then-not-starts_stream : goal.returns-then-not-starts_stream
returns-then-not-starts_stream c = not_line _ (sym c.starts_stream.ensures ∙ c.if-not-starts_stream.true)

pub returns-in_err-width : goal.returns-in_err-width
unfolding width_of
returns-in_err-width c =
    let line : is_line magic c.args.line.now ≡ true = sym c.starts_stream.ensures ∙ c.if-not-starts_stream.false in
    rw c.from_residual.ensures (no_width _ line (side_none _ (sym c.one_size.ensures ∙ c.in_err-width.was)))

pub returns-in_err-height : goal.returns-in_err-height
unfolding height_of width_of
returns-in_err-height c =
    let line : is_line magic c.args.line.now ≡ true = sym c.starts_stream.ensures ∙ c.if-not-starts_stream.false in
    let wide = side_some _ _ (sym c.one_size.ensures ∙ c.in_ok-width.was) in
    rw c.from_residual-in_err-height.ensures (no_height _ line wide.0 (side_none _ (sym c.one_size-2.ensures ∙ c.in_err-height.was)))

pub returns-in_err-sampling : goal.returns-in_err-sampling
unfolding sampling_of width_of height_of
returns-in_err-sampling c =
    let line : is_line magic c.args.line.now ≡ true = sym c.starts_stream.ensures ∙ c.if-not-starts_stream.false in
    let wide = side_some _ _ (sym c.one_size.ensures ∙ c.in_ok-width.was) in
    let high = side_some _ _ (sym c.one_size-2.ensures ∙ c.in_ok-height.was) in
    rw c.from_residual-in_err-sampling.ensures (no_code _ line wide.0 high.0 (sampling_none _ (sym c.one_sampling.ensures ∙ c.in_err-sampling.was)))

pub returns : goal.returns
unfolding width_of height_of sampling_of
returns c =
    let line : is_line magic c.args.line.now ≡ true = sym c.starts_stream.ensures ∙ c.if-not-starts_stream.false in
    let wide = side_some _ _ (sym c.one_size.ensures ∙ c.in_ok-width.was) in
    let high = side_some _ _ (sym c.one_size-2.ensures ∙ c.in_ok-height.was) in
    let coded = sampling_some _ _ (sym c.one_sampling.ensures ∙ c.in_ok-sampling.was) in
    record { is_header_lem = header _ line wide.0 high.0 coded.0; width = wide.1; height = high.1; sampling = coded.1 }
