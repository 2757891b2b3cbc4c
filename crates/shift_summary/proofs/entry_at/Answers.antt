-- The reader tells crossing, offset and luma plane of record k, and the mean is of that plane. Assumes nothing.
use Rattle.shift_file.specs.Read.{records_in}
use Rattle.shift_reader.proofs.Files.{record_allowed}
use Rattle.crossing_keys.proofs.Places.{record_below}
use Rattle.shift_summary.proofs.Entries.{luma_bounds, entry_told}
use Rattle.shift_summary.proofs.entry_at.Goals as goal

pub mean_luma-requires : goal.mean_luma-requires
mean_luma-requires c =
    let r = c.args.file_record.now in
    luma_bounds r.file.form (records_in r.file.form r.file.bytes.now) r.k (record_below r.file r.k r.below) (record_allowed r) _ c.planes.ensures.y

pub returns : goal.returns
returns c =
    let r = c.args.file_record.now in
    entry_told r.file.form (records_in r.file.form r.file.bytes.now) r.k (record_below r.file r.k r.below) (record_allowed r) _ _ _ _
    c.entry-entry.ensures.crossing c.entry-entry.ensures.offset c.planes.ensures.y c.mean_luma.ensures
