-- `read_pictures` meets its contract: 19 by the check; then sides, sampling and count are the file's, and the entries are those from the first on
-- that fit.
-- Assumes nothing.
use Rattle.std.proofs.Common.{arith, ℕ, ◌≡◌, ◌-◌, ◌*◌, ◌/◌, ◌≤◌, min, refl, ap, sym, ◌∙◌, false, length}
use mathlib.Core.Bool.{true≢false}
use Rattle.std.proofs.lemmas.Bool.{false_from_ne_true}
use Rattle.std.proofs.lemmas.Result.{err_from_is_err_and, IfErr-at_err}
use Rattle.yuv_error.specs.declared.YuvError.{YuvError}
use Rattle.yuv_support.specs.Codes.{sampling_code}
use Rattle.y4m_file.specs.Check.{is_y4m}
use Rattle.y4m_file.specs.Read.{file_in}
use Rattle.y4m_file.specs.Known.{IsRead}
use Rattle.y4m_reader.specs.Entry.{entries_of}
use Rattle.y4m_reader.proofs.Entries.{told_entries}
use Rattle.y4m_reader.proofs.Said.{Said, said}
use Rattle.y4m_reader.proofs.read_pictures.Goals as goal

pub returns-in_err-read : goal.returns-in_err-read
unfolding entries_of
returns-in_err-read c =
    let p = err_from_is_err_and c.from_residual.result c.from_residual.ensures.1 in
    let none = c.in_err-read.ensures.ok_part in
    let refused : p.0 ≡ YuvError.MalformedY4m = p.2 ∙ IfErr-at_err (λ e. e ≡ YuvError.MalformedY4m) (sym c.in_err-read.ensures.value) (rw none refl) in
    let other : is_y4m c.args.file.now ≡ false = false_from_ne_true _ (λ file. true≢false (sym (rw none at (c.open.ensures.is_file.1 file)))) in
    rw (p.1, refused) (record { answered = rw other; width = refl; height = refl; sampling = refl; count = refl; told = refl; entries = refl })

pub returns : goal.returns
returns c =
    let bytes = rw c.in_ok-read.ensures.ok_part at c.open.ensures.bytes in
    let r : IsRead c.args.file.now c.in_ok-read.read.header c.in_ok-read.read.count = rw bytes at c.in_ok-read.read.is_read in
    let s : Said c.args.file.now c.in_ok-read.read.header c.in_ok-read.read.count = said r in
    let pictures = length (file_in c.args.file.now).pictures in
    let room = length c.args.entries.now / 6 in
    let from : c.min-from.result ≡ min c.args.first pictures = c.min-from.ensures ∙ ap (λ n. min c.args.first n) s.count in
    let left : c.in_ok-read.read.count - c.min-from.result ≡ pictures - c.args.first = omega (arith, s.count, from) in
    let told : c.min-told.result ≡ min (pictures - c.args.first) room = c.min-told.ensures ∙ ap (λ (n : ℕ). min n room) left in
    let few : c.min-told.result ≤ pictures - c.args.first = omega (arith, told) in
    let fit : 6 * c.min-told.result ≤ length c.args.entries.now = omega (arith, told) in
    let entries = c.tell_entries.ensures in
    record {
      answered = rw r.is_file_lem;
      width = s.width;
      height = s.height;
      sampling = ap sampling_code s.sampling;
      count = s.count;
      told = told;
      entries =
          (rw bytes at entries)
          ∙ told_entries (file_in c.args.file.now) c.args.entries.now c.args.first _ _ from few fit;
    }
