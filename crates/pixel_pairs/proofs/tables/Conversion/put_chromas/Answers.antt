-- `put_chromas` meets its contract: a colour's chroma, and the next one's.
-- Assumes nothing.
use Rattle.pixel_pairs.proofs.Pairs.{chroma_both}
use Rattle.pixel_pairs.proofs.tables.Conversion.put_chromas.Goals as goal

pub returns-clause-chroma_more : goal.returns-clause-chroma_more
returns-clause-chroma_more c =
    chroma_both c.put_chroma.ensures.chroma_more c.put_chroma-2.ensures.chroma_more
