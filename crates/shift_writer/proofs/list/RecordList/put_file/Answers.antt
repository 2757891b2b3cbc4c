-- `put_file` meets its contract: mark and count, pairs and records, one after the other.
-- Assumes nothing.
use mathlib.Core.Path.{◌∙◌}
use Rattle.shift_writer.proofs.Lists.{list_count, list_Counted}
use Rattle.shift_writer.proofs.Pairs.{file_put}
use Rattle.shift_writer.proofs.list.RecordList.put_file.Goals as goal

pub returns : goal.returns
returns c =
    let l = c.args.self.now in
    c.put.ensures
    ∙ rw (c.write_pairs.ensures, c.write_front-pairs.ensures.written, c.write_front-pairs.ensures.value, list_count l)
    (file_put l.form l.bytes.now c.args.output.now l.count (list_Counted l))
