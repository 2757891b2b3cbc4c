-- `open` meets its contract: the header's line, then the pictures, as the check has them. Assumes nothing.
use Rattle.std.proofs.Common.{refl}
use Rattle.y4m_file.proofs.Whole.{said_sizes, no_line, no_header, file_read, file_malformed, not_some}
use Rattle.y4m_file.proofs.opened.Y4mRead.open.Goals as goal

pub returns-in_err-end-clause-is_file : goal.returns-in_err-end-clause-is_file
returns-in_err-end-clause-is_file c = not_some c.args.bytes.now (no_line c.args.bytes.now c.in_err-end.ensures.value) _ c.from_residual.ensures

pub returns-in_err-header-clause-is_file : goal.returns-in_err-header-clause-is_file
returns-in_err-header-clause-is_file c =
    not_some c.args.bytes.now
    (no_header c.args.bytes.now _ c.in_ok-end.ensures.value c.in_ok-end.ensures.upper_bound.0 c.in_err-header.ensures) _ c.from_residual-in_err-header.ensures

pub plane_bytes-planes-requires : goal.plane_bytes-planes-requires
plane_bytes-planes-requires c = said_sizes _ _ c.in_ok-header.ensures

pub returns-in_err-count-clause-is_file : goal.returns-in_err-count-clause-is_file
returns-in_err-count-clause-is_file c =
    not_some c.args.bytes.now
    (file_malformed c.args.bytes.now _ c.in_ok-end.ensures.value c.in_ok-end.ensures.upper_bound.0 _ c.in_ok-header.ensures
    c.plane_bytes-planes.result c.plane_bytes-planes.ensures.0 _ refl c.in_err-count.ensures)
    _ c.from_residual-in_err-count.ensures

pub invariant_of-result : goal.invariant_of-result
invariant_of-result c = record {
  is_read =
      file_read c.args.bytes.now _ c.in_ok-end.ensures.value c.in_ok-end.ensures.upper_bound.0 _ c.in_ok-header.ensures
      c.plane_bytes-planes.result c.plane_bytes-planes.ensures.0 _ refl _ c.in_ok-count.ensures.0 c.in_ok-count.ensures.1;
}
