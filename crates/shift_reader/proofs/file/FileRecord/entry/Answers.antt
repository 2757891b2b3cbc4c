-- What stands from the offset of the pair on is the record, so its header is read there.
-- Assumes nothing.
use native.Mathlib.Omega.{arith}
use Prim.Native.Nat.{◌+◌}
use mathlib.Core.Path.{◌≡◌, sym, ◌∙◌}
use lib.ListN.{length, drop}
use Rattle.shift_file.specs.File.{header_size, bytes_of}
use Rattle.shift_file.specs.Read.{records_in}
use Rattle.shift_reader.specs.Entry.{record_of, offset_of}
use Rattle.shift_reader.proofs.Files.{its_place}
use Rattle.shift_reader.proofs.file.FileRecord.entry.Goals.{After-read_u64-offset, After-read_u32-length}
use Rattle.shift_reader.proofs.file.FileRecord.entry.Goals as goal

-- what the pair says
offset_is : (c : After-read_u64-offset) → c.read_u64-offset.result ≡ offset_of c.args.self.now.file.form (records_in c.args.self.now.file.form c.args.self.now.file.bytes.now) c.args.self.now.k
offset_is c = c.read_u64-offset.ensures ∙ rw c.mark_size.ensures.0 (its_place c.args.self.now).offset

size_is : (c : After-read_u32-length) → c.read_u32-length.result ≡ length (bytes_of (record_of c.args.self.now.file.form c.args.self.now.file.bytes.now c.args.self.now.k))
size_is c = c.read_u32-length.ensures ∙ rw c.mark_size.ensures.0 (its_place c.args.self.now).size

pub read_u64-offset-requires : goal.read_u64-offset-requires
read_u64-offset-requires c = omega (arith, (its_place c.args.self.now).pair, c.mark_size.ensures)

pub read_u32-length-requires : goal.read_u32-length-requires
read_u32-length-requires c = omega (arith, (its_place c.args.self.now).pair, c.mark_size.ensures)

pub from_place-requires : goal.from_place-requires
from_place-requires c = omega (arith, (its_place c.args.self.now).inside, offset_is (goal.at.from_place-requires c).After-read_u64-offset)

pub invariant_of-part : goal.invariant_of-part
invariant_of-part c =
    record { has_header = rw (c.from_place.ensures, offset_is (goal.at.invariant_of-part c).After-read_u64-offset) (its_place c.args.self.now).header }

pub returns : goal.returns
returns c =
    let f = c.args.self.now.file in
    let t = its_place c.args.self.now in
    let r = record_of f.form f.bytes.now c.args.self.now.k in
    let at = offset_of f.form (records_in f.form f.bytes.now) c.args.self.now.k in
    let offset = offset_is (goal.at.returns c).After-read_u64-offset in
    let size = size_is (goal.at.returns c).After-read_u32-length in
    let part : c.from_place.result.now ≡ drop at f.bytes.now = c.from_place.ensures ∙ rw offset in
    let luma : c.luma_size-luma.result ≡ length r.y = c.luma_size-luma.ensures.value ∙ rw part t.luma in
    let chroma : c.chroma_size-chroma.result ≡ length r.u = c.chroma_size-chroma.ensures.value ∙ rw part t.chroma in
    let again : c.chroma_size-chroma.result ≡ length r.v = chroma ∙ sym t.chroma_again in
    let y_at : c.read_u64-offset.result + c.header_size.result ≡ at + header_size f.form = omega (arith, offset, c.header_size.ensures.0) in
    let u_at : c.read_u64-offset.result + c.header_size.result + c.luma_size-luma.result ≡ at + header_size f.form + length r.y = omega (arith, y_at, luma) in
    let v_at : c.read_u64-offset.result + c.header_size.result + c.luma_size-luma.result + c.chroma_size-chroma.result
    ≡ at + header_size f.form + length r.y + length r.u = omega (arith, u_at, chroma) in
    record {
      crossing = c.crossing.ensures ∙ rw part t.crossing;
      width = c.width.ensures ∙ rw part t.width;
      height = c.height.ensures ∙ rw part t.height;
      offset = offset;
      size = size;
      y_offset = y_at;
      y_size = luma;
      u_offset = u_at;
      u_size = chroma;
      v_offset = v_at;
      v_size = again;
      inside = omega (arith, t.inside, offset, size);
      planes = omega (arith, t.planes, v_at, again);
      bytes = rw (offset, size) t.bytes;
      y = rw (y_at, luma) t.y;
      u = rw (u_at, chroma) t.u;
      v = rw (v_at, again) t.v;
    }
