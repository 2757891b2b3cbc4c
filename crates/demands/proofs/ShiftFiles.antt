-- What is claimed of the shift file. A call asks the check, which says yes exactly where there are records, and these are the ones that it tells of or
-- writes; the rows of a plane without their padding have the plane's bytes at their places.
-- Assumes nothing.
use Prim.Native.Nat.{ℕ, ◌+◌, ◌*◌, ◌≤◌, ◌<◌}
use mathlib.Core.Path.{◌≡◌, refl, sym, ap, subst, ◌∙◌}
use mathlib.Core.Bool.{Bool, true, false, cond, not, true≢false}
use mathlib.Core.List.{List, ◌++◌}
use mathlib.Core.Logic.{◌↔◌}
use native.Mathlib.Omega.{arith}
use lib.Dec.{ltb, leb}
use lib.ListN.{length, get_or, take, drop}
use lib.Seq.{take_at, drop_at}
use borrow.Author.Tests.{le-leb, le-ltb}
use Rattle.std.proofs.lemmas.Bool.{and_from, and_parts}
use Rattle.yuv_support.specs.declared.YuvChromaSubsampling.{YuvChromaSubsampling}
use Rattle.yuv_support.specs.declared.YuvChromaSubsampling.TheVariants.{Yuv420, Yuv422}
use Rattle.yuv_support.specs.declared.YuvRange.{YuvRange}
use Rattle.yuv_support.specs.declared.YuvRange.TheVariants.{Limited, Full}
use Rattle.yuv_support.specs.declared.YuvStandardMatrix.{YuvStandardMatrix}
use Rattle.yuv_support.specs.declared.YuvStandardMatrix.TheVariants.{Bt601, Bt709, Bt2020, Smpte240, Bt470_6, Fcc, Custom}
use Rattle.sharp_gamma.specs.declared.SharpYuvGammaTransfer.{SharpYuvGammaTransfer}
use Rattle.sharp_gamma.specs.declared.SharpYuvGammaTransfer.TheVariants.{Srgb, Rec709, Gamma2p2, Gamma2p8}
use Rattle.setting_codes.specs.Codes.{sampling_code, range_code, matrix_code, transfer_code}
use Rattle.setting_codes.proofs.Codes.{sampling_there}
use Rattle.yuv_support.specs.Sampling.{chroma_height}
use Rattle.std.specs.Prelude.{Option, Result, Ok}
use Rattle.yuv_error.specs.declared.YuvError.{YuvError}
use Rattle.yuv_error.specs.Numbers.{Numbers, numbers, numbers_of}
use Rattle.yuv_error.specs.Rules.{Rule, first_numbers}
use Rattle.yuv_error.proofs.Numbers.{is_finished}
use Rattle.yuv_error.proofs.First.{append_finished}
use Rattle.yuv_error.proofs.Accepts.{both_pass, planes_pass}
use Rattle.definitions.specs.Image.{chroma_size, chroma_rows, luma_at, cb_at, cr_at}
use Rattle.definitions.specs.declared.FrameDescription.{FrameDescription}
use Rattle.definitions.specs.declared.YuvSettings.{YuvSettings}
use Rattle.sharp_rgba_to_yuv.specs.FrameCall.{FrameCall, image_of, FramePost}
use Rattle.little_endian.specs.Number.{Bytes}
use Rattle.shift_file.specs.declared.ShiftForm.{ShiftForm}
use Rattle.shift_file.specs.declared.ShiftForm.TheVariants.{WithSettings}
use Rattle.shift_file.specs.declared.SettingCodes.{SettingCodes}
use Rattle.shift_file.specs.File.{ShiftRecord, Allowed, is_code, codes_allowed, is_side, records_at, bytes_of, file_of, IsFileOf}
use Rattle.shift_file.specs.Read.{records_in}
use Rattle.shift_file.specs.Check.{is_file}
use Rattle.shift_file.proofs.File.{some_list, one_list, read_back, rewritten, one_form, form_of_file, some_form, form_of, its_records, is_checked, after_pairs}
use Rattle.shift_reader.specs.declared.ShiftReading.{ShiftReading}
use Rattle.shift_reader.specs.declared.EntryKind.{EntryKind}
use Rattle.shift_reader.specs.Entry.{entry_size, entries_of}
use Rattle.shift_reader.specs.Reading.{read_outcome, reading_of, ReadPost}
use Rattle.shift_writer.specs.declared.NotWritten.{NotWritten}
use Rattle.shift_writer.specs.Records.{BackToBack, are_records, file_made}
use Rattle.shift_writer.specs.Output.{outcome_of, size_of, output_rules}
use Rattle.shift_writer.specs.Writing.{WritePost}
use Rattle.shift_writer.proofs.Count.{some_records, these_records}
use Rattle.shift_record.specs.declared.RecordFrame.{RecordFrame}
use Rattle.shift_record.specs.Record.{unpadded, record_form, settings_of, frame_sampling, record_made, record_size, y_lent, u_lent, v_lent, lent_rules, frame_allowed, record_rules}
use Rattle.shift_record.specs.Record.{chroma_rows as rows_of_record, RecordPost}
use Rattle.shift_record.specs.Known.{PlanesFit}
use Rattle.shift_record.proofs.Rows.{length-unpadded, unpadded_at}
use Rattle.shift_record.proofs.Made.{length_made, planes_Fit, is_frame, made_Allowed, rows_bounds}
use Rattle.demands.specs.Demands.{OfFrame, codes_of, RecordBytes, ShiftFiles}
use Rattle.demands.proofs.Demands.{whole, bytes}

-- ---- 15 by a test that says whether there is something

-- the first rule is 15, and no other has its number
pub by_test : {B : List ShiftRecord → Type 0} (test : Bool) (rest : Numbers) {n : ℕ} → (test ≡ true) ↔ ((rs : List ShiftRecord) × B rs) → (rest.number ≡ 15 → ⊥)
    → n ≡ (cond (not test) (numbers 15 0 0) rest).number → (n ≡ 15) ↔ ((rs : List ShiftRecord) → B rs → ⊥)
by_test true rest is other e = (λ z. absurd (other (sym e ∙ z)), λ none. let some = is.0 refl in absurd (none some.0 some.1))
by_test false rest is other e = (λ z rs b. true≢false (sym (is.1 (rs, b))), λ none. e)

-- 16, or finished work, is not 15
short_is_not : (b : Bool) → (cond b (numbers 16 0 0) (numbers 0 0 0)).number ≡ 15 → ⊥
short_is_not true e = omega arith
short_is_not false e = omega arith

-- ---- reading

-- a call tells of the records of a file
told : (kind : EntryKind) (form : ShiftForm) (file : List ℕ) (first : ℕ) (before : List ℕ) (r : Result ShiftReading YuvError) (after : List ℕ) (rs : List ShiftRecord)
    → IsFileOf form file rs → ReadPost kind form file first before r after → records_in form file ≡ rs
    → ((reading_of r).count ≡ length rs) × (after ≡ entries_of kind form rs first (reading_of r).told ++ drop (entry_size kind * (reading_of r).told) before)
told kind form file first before r after rs f p is =
    let yes = is_checked form file rs f in
    let done = is_finished (read_outcome r) (ap (λ (x : Numbers). x.number) p.answered ∙ rw yes) in
    (p.count ∙ rw (done, is), p.entries ∙ rw is)

-- ---- writing

module _ (form : ShiftForm) (records before : List ℕ) (r : Result ℕ NotWritten) (after : List ℕ) (p : WritePost form records before r after) where
  -- the file at the front, and the rest
  front : outcome_of r ≡ Ok tt → (take (size_of r) after ≡ file_made form records) × (drop (size_of r) after ≡ drop (size_of r) before)
  front is =
      let size : size_of r ≡ length (file_made form records) = rw is at p.size in
      let made : after ≡ file_made form records ++ drop (length (file_made form records)) before = rw is at p.written in
      (rw (made, size) (take_at (file_made form records) _ _ refl), rw (made, size) (drop_at (file_made form records) _ _ refl))

  module _ (rs : List ShiftRecord) (b : BackToBack form records rs) where
    made_is : file_made form records ≡ file_of form rs
    made_is = ap (file_of form) (these_records form records rs b)

    pub its_file : outcome_of r ≡ Ok tt → IsFileOf form (take (size_of r) after) rs
    its_file is = record { has = b.has; same = sym ((front is).0 ∙ made_is) }

-- ---- one record

module _ (f : RecordFrame) (y u v before : List ℕ) (r : Result ℕ NotWritten) (after : List ℕ) (p : RecordPost f y u v before r after) (is : outcome_of r ≡ Ok tt) where
  abbrev last : List Rule
  last = output_rules (length (bytes_of (record_made f y u v))) (length before)

  passed : (t : Bool) (x : Numbers) → (cond (not t) (numbers 15 0 0) x).number ≡ 0 → (t ≡ true) × (x.number ≡ 0)
  passed true x e = (refl, e)
  passed false x e = absurd (omega arith)

  asked : (frame_allowed f ≡ true) × ((first_numbers (lent_rules f y u v ++ last)).number ≡ 0)
  asked = passed (frame_allowed f) (first_numbers (lent_rules f y u v ++ last)) (sym (ap (λ (x : Numbers). x.number) (sym (ap numbers_of is) ∙ p.answered)))

  record_made_lem : Bytes y → Bytes u → Bytes v → f.crossing < 4294967296
      → Allowed (record_form f) (record_made f y u v) × (take (size_of r) after ≡ bytes_of (record_made f y u v))
  record_made_lem by bu bv c =
      let width = and_parts (is_side f.width) _ asked.0 in
      let height = and_parts (is_side f.height) _ width.1 in
      let fit = planes_Fit f y u v (is_frame f asked.0) (append_finished (lent_rules f y u v) last refl asked.1).0 in
      let size : size_of r ≡ length (bytes_of (record_made f y u v)) = rw is at p.size in
      let made : after ≡ bytes_of (record_made f y u v) ++ drop (length (bytes_of (record_made f y u v))) before = rw is at p.written in
      (made_Allowed f y u v fit c width.0 height.0 by bu bv, rw (made, size) (take_at (bytes_of (record_made f y u v)) _ _ refl))

-- ---- the planes of a frame

-- the rows of a plane without padding: so many bytes, and which is which
pub plane_record : (n stride rows : ℕ) (plane : List ℕ) (byte : ℕ → ℕ → ℕ) → n ≤ stride → length plane ≡ stride * rows
    → ((i x : ℕ) → i < rows → x < n → get_or plane (i * stride + x) 0 ≡ byte i x)
    → (length (unpadded n stride rows plane) ≡ n * rows) × ((i x : ℕ) → i < rows → x < n → get_or (unpadded n stride rows plane) (i * n + x) 0 ≡ byte i x)
plane_record n stride rows plane byte wide size is =
    let all : stride * rows ≤ length plane = omega arith in
    (length-unpadded n stride wide rows plane all, λ i x k l. unpadded_at n stride wide rows plane all i x k l ∙ is i x k l)

pub side : (x : ℕ) → 1 ≤ x → x ≤ 16384 → is_side x ≡ true
side x l m = and_from (leb 1 x) (leb x 16384) (le-leb 1 x l) (le-leb x 16384 m)

-- the frame of a call, as that of a record with these settings or none
abbrev frame_of : FrameCall → (crossing : ℕ) → Option SettingCodes → RecordFrame
frame_of k crossing settings = record {
  crossing = crossing;
  width = k.frame.width;
  height = k.frame.height;
  settings = settings;
  y_stride = k.frame.y_stride;
  u_stride = k.frame.u_stride;
  v_stride = k.frame.v_stride;
}

module _ (k : FrameCall) (p : FramePost k) (is : k.answer ≡ Ok tt) (crossing : ℕ) (settings : Option SettingCodes)
    (e : k.frame.settings.sampling ≡ frame_sampling (frame_of k crossing settings)) where
  abbrev d : FrameDescription
  d = k.frame

  abbrev f : RecordFrame
  f = frame_of k crossing settings

  lengths : (length k.y' ≡ length k.y) × (length k.u' ≡ length k.u) × (length k.v' ≡ length k.v)
  lengths = (p.planes.luma.size, p.planes.cb.size, p.planes.cr.size)

  -- chroma rows of the frame are those of the record
  rows : chroma_rows d ≡ rows_of_record f
  rows = ap (λ (s : YuvChromaSubsampling). chroma_height s d.height) e

  of_frame : RecordBytes k (record_made f k.y' k.u' k.v')
  of_frame =
      let w = whole k p is in
      let b = bytes k p w in
      let l = lengths in
      let y = plane_record d.width d.y_stride d.height k.y' (luma_at d (image_of k)) w.y_rows.row (l.0 ∙ w.y_rows.size) b.luma in
      let u = plane_record (chroma_size d) d.u_stride (chroma_rows d) k.u' (cb_at d (image_of k)) w.u_rows.row (l.1 ∙ w.u_rows.size) b.cb in
      let v = plane_record (chroma_size d) d.v_stride (chroma_rows d) k.v' (cr_at d (image_of k)) w.v_rows.row (l.2 ∙ w.v_rows.size) b.cr in
      record {
        y_size = y.0;
        u_size = rw (← rows) u.0;
        v_size = rw (← rows) v.0;
        luma = y.1;
        cb = rw (← rows) u.1;
        cr = rw (← rows) v.1;
      }

  -- no condition of a record holds of them
  record_of_frame : (before : List ℕ) (r : Result ℕ NotWritten) (after : List ℕ) → codes_allowed (record_form f) (settings_of f) ≡ true
      → RecordPost f k.y' k.u' k.v' before r after → record_size f ≤ length before → outcome_of r ≡ Ok tt
  record_of_frame before r after codes q room =
      let w = whole k p is in
      let l = lengths in
      let some : 1 ≤ rows_of_record f = (rows_bounds (frame_sampling f) d.height w.height_least w.height_most).0 in
      let fit : PlanesFit f (length k.y') (length k.u') (length k.v') = record {
        frame = record {
          width_least = w.width_least;
          width_most = w.width_most;
          height_least = w.height_least;
          height_most = w.height_most;
          codes = codes;
        };
        y_row = w.y_rows.row;
        y_size = l.0 ∙ w.y_rows.size;
        u_row = w.u_rows.row;
        u_size = rw rows at (l.1 ∙ w.u_rows.size);
        v_row = w.v_rows.row;
        v_size = rw rows at (l.2 ∙ w.v_rows.size);
      } in
      let passes = planes_pass (y_lent f (length k.y')) (u_lent f (length k.u')) (v_lent f (length k.v')) w.height_least some some
      (record { wide = fit.y_row; exact = fit.y_size }) (record { wide = fit.u_row; exact = fit.u_size }) (record { wide = fit.v_row; exact = fit.v_size }) in
      let size = length_made f k.y' k.u' k.v' fit in
      let bytes = length (bytes_of (record_made f k.y' k.u' k.v')) in
      let fits : first_numbers (output_rules bytes (length before)) ≡ numbers 0 0 0 = rw (le-ltb (length before) bytes (omega arith)) in
      let allowed : frame_allowed f ≡ true =
      and_from (is_side d.width) _ (side d.width w.width_least w.width_most)
      (and_from (is_side d.height) _ (side d.height w.height_least w.height_most) codes) in
      let all : first_numbers (record_rules f k.y' k.u' k.v' (length before)) ≡ numbers 0 0 0 =
      rw allowed (both_pass (lent_rules f k.y' k.u' k.v') (output_rules bytes (length before)) refl passes fits) in
      is_finished (outcome_of r) (ap (λ (x : Numbers). x.number) (q.answered ∙ all))

frame_is : (k : FrameCall) (f : RecordFrame) → OfFrame k f → frame_of k f.crossing f.settings ≡ f
frame_is k f o = λ i. record {
  crossing = f.crossing;
  width = sym o.width i;
  height = sym o.height i;
  settings = f.settings;
  y_stride = sym o.y_stride i;
  u_stride = sym o.u_stride i;
  v_stride = sym o.v_stride i;
}

pub sampling_code_lem : (a : YuvChromaSubsampling) → ltb (sampling_code a) 2 ≡ true
sampling_code_lem Yuv420 = refl
sampling_code_lem Yuv422 = refl

range_code_lem : (a : YuvRange) → is_code 2 (range_code a) ≡ true
range_code_lem Limited = refl
range_code_lem Full = refl

matrix_code_lem : (a : YuvStandardMatrix) → is_code 7 (matrix_code a) ≡ true
matrix_code_lem Bt601 = refl
matrix_code_lem Bt709 = refl
matrix_code_lem Bt2020 = refl
matrix_code_lem Smpte240 = refl
matrix_code_lem Bt470_6 = refl
matrix_code_lem Fcc = refl
matrix_code_lem (Custom kr kb) = refl

transfer_code_lem : (a : SharpYuvGammaTransfer) → is_code 4 (transfer_code a) ≡ true
transfer_code_lem Srgb = refl
transfer_code_lem Rec709 = refl
transfer_code_lem Gamma2p2 = refl
transfer_code_lem Gamma2p8 = refl

codes_allowed_lem : (s : YuvSettings) → codes_allowed WithSettings (codes_of s) ≡ true
codes_allowed_lem s = rw (sampling_code_lem s.sampling, range_code_lem s.range, matrix_code_lem s.matrix, transfer_code_lem s.transfer)

pub shift_files : ShiftFiles
shift_files = record {
  some_list = some_list;
  one_list = one_list;
  read_back = read_back;
  rewritten = rewritten;
  one_form = one_form;
  form_of_file = form_of_file;
  some_form = some_form;
  either_form = λ file none form rs f. none rs (rw (form_of form file rs f) f);
  refused = λ kind form file first before r after bytes p.
      by_test (is_file form file) (numbers 0 0 0) (some_list form file bytes) (λ z. omega arith) (ap (λ (x : Numbers). x.number) p.answered);
  read = λ kind form file first before r after rs f p. told kind form file first before r after rs f p (its_records form file rs f);
  linked_reading = λ k p form rs f. rw (form_of form k.file rs f) at p.read;
  write_refused = λ form records before r after bytes p.
      by_test (are_records form records) (first_numbers (output_rules (length (file_made form records)) (length before))) (some_records form records bytes)
      (short_is_not (ltb (length before) (length (file_made form records)))) (ap (λ (x : Numbers). x.number) p.answered);
  written = λ form records before r after rs b p is. (its_file form records before r after p rs b is, (front form records before r after p is).1);
  written_again = λ form file before r after rs f p is.
      let tail : BackToBack form (drop (records_at form (length rs)) file) rs = record { has = f.has; same = sym (after_pairs form rs) ∙ rw f.same } in
      sym (its_file form _ before r after p rs tail is).same ∙ f.same;
  made = λ f y u v before r after by bu bv c p is. record_made_lem f y u v before r after p is by bu bv c;
  frame_accepted = λ k f before r after p is o.
      subst (λ (g : RecordFrame). RecordPost g k.y' k.u' k.v' before r after → record_size g ≤ length before → outcome_of r ≡ Ok tt)
      (frame_is k f o) (record_of_frame k p is f.crossing f.settings o.sampling before r after o.codes);
  frame = λ k f p is o.
      subst (λ (g : RecordFrame). RecordBytes k (record_made g k.y' k.u' k.v')) (frame_is k f o)
      (of_frame k p is f.crossing f.settings o.sampling);
  frame_codes = λ s. (codes_allowed_lem s, sampling_there s.sampling);
}
