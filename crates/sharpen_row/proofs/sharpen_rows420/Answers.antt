-- `sharpen_rows420` meets its contract: pixels in fours, and the rest.
-- Assumes nothing.
use Rattle.pixel_pairs.proofs.Pairs.{written420}
use Rattle.sharpen_row.proofs.sharpen_rows420.Goals as goal

pub returns : goal.returns
returns g c =
    let whole = written420 _ _ _ (c.rest420.ensures.further _ _ _ c.fours420.ensures) in
    record {
      lumas_written = whole.0;
      chroma_written = whole.1;
    }
