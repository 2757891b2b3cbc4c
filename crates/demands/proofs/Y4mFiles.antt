-- What is claimed of Y4M files. Reading asks the check, which says yes exactly where there is a file, and this is the one that it tells of. Writing
-- asks whether the bytes are whole pictures, and one picture whether its planes are whole rows; what is written after a file makes a longer file.
-- Assumes nothing.
use Prim.Native.Nat.{ℕ, ◌+◌, ◌*◌, ◌-◌, ◌/◌, ◌%◌, ◌^◌, ◌≤◌, ◌<◌, min}
use mathlib.Core.Path.{◌≡◌, refl, sym, ap, subst, ◌∙◌}
use mathlib.Core.Bool.{Bool, true, false, cond, not, true≢false}
use mathlib.Core.List.{List, [], ◌∷◌, ◌++◌, append_assoc, append-nil}
use mathlib.Core.Logic.{◌↔◌}
use native.Mathlib.Nat.{zero-mul, suc-mul, mul-mod_left}
use native.Mathlib.Omega.{arith}
use lib.Dec.{ltb, leb}
use lib.ListN.{length, take, drop, length-append}
use lib.Seq.{take_at, drop_at}
use borrow.Author.Tests.{ltb-true, ltb-false, lt-ltb, le-leb, eq-eqb}
use Rattle.std.proofs.lemmas.Bool.{and_from, and_parts}
use Rattle.std.specs.Prelude.{Result, Ok}
use Rattle.yuv_error.specs.declared.YuvError.{YuvError}
use Rattle.yuv_error.specs.Numbers.{Numbers, numbers, numbers_of}
use Rattle.yuv_error.proofs.Numbers.{is_finished}
use Rattle.shift_file.specs.File.{is_side}
use Rattle.yuv_support.specs.declared.YuvChromaSubsampling.{YuvChromaSubsampling}
use Rattle.yuv_support.specs.Sampling.{chroma_width, chroma_height}
use Rattle.setting_codes.specs.Codes.{sampling_code}
use Rattle.setting_codes.proofs.Codes.{sampling_there}
use Rattle.definitions.specs.declared.FrameDescription.{FrameDescription}
use Rattle.definitions.specs.Image.{chroma_size, chroma_rows as frame_rows, luma_at, cb_at, cr_at}
use Rattle.sharp_rgba_to_yuv.specs.FrameCall.{FrameCall, image_of, FramePost}
use Rattle.y4m_line.specs.Line.{line_of, text_of, tag_bytes}
use Rattle.y4m_file.specs.File.{Y4mPicture, Y4mFile, EachAllowed, picture_bytes, pictures_bytes, file_bytes, IsFileOf}
use Rattle.y4m_file.specs.Check.{plane_bytes, is_y4m}
use Rattle.y4m_file.specs.Read.{file_in}
use Rattle.y4m_file.proofs.File.{some_file, one_file, read_back, rewritten, its_file}
use Rattle.y4m_reader.specs.declared.Y4mReading.{Y4mReading}
use Rattle.y4m_reader.specs.Entry.{entries_of}
use Rattle.y4m_reader.specs.Reading.{y4m_outcome, y4m_reading_of, ReadPost}
use Rattle.shift_writer.specs.declared.NotWritten.{NotWritten}
use Rattle.shift_writer.specs.Output.{outcome_of, size_of}
use Rattle.y4m_writer.specs.Text.{decimal}
use Rattle.y4m_writer.specs.Pictures.{sampling_of, is_shape, can_write, picture_from, pictures_of, file_from, file_made, planes_of}
use Rattle.y4m_writer.specs.Writing.{in_word, WritePost}
use Rattle.y4m_writer.proofs.Back as back
use Rattle.y4m_picture.specs.declared.PictureFrame.{PictureFrame}
use Rattle.y4m_picture.specs.Picture.{is_plane, planes_allowed, picture_allowed, chroma_rows, picture_made, PicturePost}
use Rattle.y4m_picture.specs.Means.{planes_made}
use Rattle.y4m_picture.proofs.Made.{planes_Fit}
use Rattle.y4m_picture.proofs.Append.{appended}
use Rattle.demands.specs.Demands.{WholeRows, NoY4m, Y4mTold, ShapeAllowed, PicturesIn, NoPictures, Y4mOf, WholePicture}
use Rattle.demands.specs.Demands.{PictureCall, PictureWritten, AllWritten, bytes_written, planes_given, PictureOfFrame, PlaneBytes, Y4mFiles}
use Rattle.demands.proofs.Demands as frames
use Rattle.demands.proofs.ShiftFiles.{side, plane_record, sampling_code_lem}
use Rattle.y4m_reader.proofs.Entries.{length_entries}
use Rattle.demands.proofs.Y4mParts.{names, entry_at}

-- ---- 19 by a test that says whether there is something

by_19 : {A : Type 0} (test : Bool) (rest : Numbers) {n : ℕ} → (test ≡ true) ↔ A → (rest.number ≡ 19 → ⊥)
    → n ≡ (cond (not test) (numbers 19 0 0) rest).number → (n ≡ 19) ↔ (A → ⊥)
by_19 true rest is other e = (λ z. absurd (other (sym e ∙ z)), λ none. absurd (none (is.0 refl)))
by_19 false rest is other e = (λ z a. true≢false (sym (is.1 a)), λ none. e)

-- none of them
each_none : {N A : Type 0} {B : A → Type 0} → N ↔ (((a : A) × B a) → ⊥) → N ↔ ((a : A) → B a → ⊥)
each_none is = (λ n a b. is.0 n (a, b), λ none. is.1 (λ some. none some.0 some.1))

-- 16, or finished work, is not 19
short_is_not : (b : Bool) → (cond b (numbers 16 0 0) (numbers 0 0 0)).number ≡ 19 → ⊥
short_is_not true e = omega arith
short_is_not false e = omega arith

-- ---- reading

module _ (file : List ℕ) (first : ℕ) (before : List ℕ) (r : Result Y4mReading YuvError) (after : List ℕ) (p : ReadPost file first before r after) where
  read_19 : ((numbers_of (y4m_outcome r)).number ≡ 19) ↔ NoY4m file
  read_19 = each_none (by_19 (is_y4m file) (numbers 0 0 0) (some_file file) (λ z. omega arith) (ap (λ (x : Numbers). x.number) p.answered))

  module _ (f : Y4mFile) (i : IsFileOf file f) where
    done : y4m_outcome r ≡ Ok tt
    done = is_finished (y4m_outcome r) (ap (λ (x : Numbers). x.number) p.answered ∙ rw ((some_file file).1 (f, i)))

    same : file_in file ≡ f
    same = its_file file f i

    -- so many entries of the file, and the rest as it was
    entries : after ≡ entries_of f first (y4m_reading_of r).told ++ drop (6 * (y4m_reading_of r).told) before
    entries = p.entries ∙ rw same

    few : (y4m_reading_of r).told ≤ length f.pictures - first
    few = let told : (y4m_reading_of r).told ≡ min (length f.pictures - first) (length before / 6) = p.told ∙ rw (done, same) in omega (arith, told)

    tells : Y4mTold file f first before (y4m_reading_of r) after
    tells = record {
      width = p.width ∙ rw (done, same);
      height = p.height ∙ rw (done, same);
      sampling = p.sampling ∙ rw (done, same);
      count = p.count ∙ rw (done, same);
      told = p.told ∙ rw (done, same);
      planes = λ j h.
          let e = entry_at f (y4m_reading_of r).told first j (drop (6 * (y4m_reading_of r).told) before) h in
          rw (entries, e.1, ← i.same) (names f (first + j) (omega (arith, few)) e.0);
      others = rw entries (drop_at (entries_of f first (y4m_reading_of r).told) _ _ (length_entries f first (y4m_reading_of r).told));
    }

-- ---- writing

-- the answer by its two tests
abbrev answer_by : (t s : Bool) → Numbers
answer_by t s = cond (not t) (numbers 19 0 0) (cond s (numbers 16 0 0) (numbers 0 0 0))

is_16 : (t s : Bool) {n : ℕ} → t ≡ true → n ≡ (answer_by t s).number → (n ≡ 16) ↔ (s ≡ true)
is_16 true true may e = (λ z. refl, λ q. e)
is_16 true false may e = (λ z. absurd (omega arith), λ q. absurd (true≢false (sym q)))
is_16 false s may e = absurd (true≢false (sym may))

passed : (t s : Bool) → 0 ≡ (answer_by t s).number → (t ≡ true) × (s ≡ false)
passed true true e = absurd (omega arith)
passed true false e = (refl, refl)
passed false s e = absurd (omega arith)

shape_test : (code w h : ℕ) → ShapeAllowed code w h → is_shape code w h ≡ true
unfolding is_shape
shape_test code w h s =
    and_from (ltb code 2) _ (lt-ltb code 2 s.code_is)
    (and_from (is_side w) (is_side h) (side w s.width_least (omega (arith, s.width_most))) (side h s.height_least (omega (arith, s.height_most))))

shape_is : (code w h : ℕ) → is_shape code w h ≡ true → ShapeAllowed code w h
shape_is code w h e =
    let s = back.shape code w h e in
    record { code_is = s.code_is; width_least = s.wide.0; width_most = s.wide.1; height_least = s.high.0; height_most = s.high.1 }

-- so many pictures of n plane bytes
length_planes : (luma chroma n : ℕ) → n ≡ luma + 2 * chroma → (ps : List Y4mPicture) → EachAllowed luma chroma ps
    → length (planes_of ps) ≡ length ps * n
unfolding planes_of
length_planes luma chroma n is [] e = sym (zero-mul n)
length_planes luma chroma n is (p ∷ ps) e =
    omega (
      arith,
      length-append (p.y ++ (p.u ++ p.v)) (planes_of ps),
      length-append p.y (p.u ++ p.v),
      length-append p.u p.v,
      e.0.y_size,
      e.0.u_size,
      e.0.v_size,
      length_planes luma chroma n is ps e.1,
      suc-mul (length ps) n,
    )

module _ (code w h : ℕ) (b : List ℕ) where
  made_pictures : can_write code w h (length b) ≡ true → PicturesIn code w h b (file_from code w h b).pictures
  unfolding can_write file_from
  made_pictures e =
      let read = back.read_back code w h b e in
      record {
        shape = shape_is code w h (and_parts (is_shape code w h) _ e).0;
        each = (back.is_written code w h b e).allowed.pictures;
        same = subst (λ (f : Y4mFile). planes_of f.pictures ≡ b) read.0 read.1;
      }

  can_be : (ps : List Y4mPicture) → PicturesIn code w h b ps → can_write code w h (length b) ≡ true
  unfolding can_write plane_bytes
  can_be ps q =
      let n = plane_bytes (sampling_of code) w h in
      let long : length b ≡ length ps * n = ap length (sym q.same) ∙ length_planes _ _ n refl ps q.each in
      and_from (is_shape code w h) _ (shape_test code w h q.shape)
      (eq-eqb (length b % n) 0 (ap (λ (x : ℕ). x % n) long ∙ mul-mod_left (length ps) n))

  some_pictures : (can_write code w h (length b) ≡ true) ↔ ((ps : List Y4mPicture) × PicturesIn code w h b ps)
  some_pictures = (λ e. ((file_from code w h b).pictures, made_pictures e), λ q. can_be q.0 q.1)

  its_planes : can_write code w h (length b) ≡ true → Y4mOf code w h b (file_made code w h b) (file_from code w h b)
  unfolding file_from
  its_planes e = record {
    is_file_lem = back.is_written code w h b e;
    width = refl;
    height = refl;
    sampling = refl;
    planes = (made_pictures e).same;
  }

-- what is at the front of an output, and the rest
at_front : (made before : List ℕ) {n : ℕ} {after : List ℕ} → n ≡ length made → after ≡ made ++ drop (length made) before
    → (take n after ≡ made) × (drop n after ≡ drop n before)
at_front made before size is = (rw (is, size) (take_at made _ _ refl), rw (is, size) (drop_at made _ _ refl))

module _ (code w h : ℕ) (b before : List ℕ) (r : Result ℕ NotWritten) (after : List ℕ) (p : WritePost code w h b before r after) where
  abbrev made : List ℕ
  made = file_made code w h b

  by_tests : (numbers_of (outcome_of r)).number ≡ (answer_by (can_write code w h (length b)) (ltb (length before) (length made))).number
  by_tests = ap (λ (x : Numbers). x.number) p.answered

  write_19 : ((numbers_of (outcome_of r)).number ≡ 19) ↔ NoPictures code w h b
  write_19 =
      each_none (by_19 (can_write code w h (length b)) _ (some_pictures code w h b) (short_is_not (ltb (length before) (length made))) by_tests)

  write_16 : (ps : List Y4mPicture) → PicturesIn code w h b ps → ((numbers_of (outcome_of r)).number ≡ 16) ↔ (length before < length made)
  write_16 ps q =
      let t = is_16 (can_write code w h (length b)) (ltb (length before) (length made)) (can_be code w h b ps q) by_tests in
      (λ z. ltb-true (length before) (length made) (t.0 z), λ l. t.1 (lt-ltb (length before) (length made) l))

  module _ (most : length before < 2 ^ 64) (is : outcome_of r ≡ Ok tt) where
    tests : (can_write code w h (length b) ≡ true) × (ltb (length before) (length made) ≡ false)
    tests =
        passed (can_write code w h (length b)) (ltb (length before) (length made)) (ap (λ (a : Result Unit YuvError). (numbers_of a).number) (sym is) ∙ by_tests)

    short : length made < 2 ^ 64
    short = omega (arith, ltb-false (length before) (length made) tests.1)

    front : (take (size_of r) after ≡ made) × (drop (size_of r) after ≡ drop (size_of r) before)
    front =
        let size : size_of r ≡ in_word (length made) = rw is at p.size in
        let out : after ≡ made ++ drop (length made) before = rw is at p.written in
        at_front made before (size ∙ rw (lt-ltb (length made) (2 ^ 64) short)) out

    written_is : Y4mOf code w h b (take (size_of r) after) (file_from code w h b)
    written_is = rw front.0 (its_planes code w h b tests.0)

-- ---- one picture

module _ (f : PictureFrame) (y u v : List ℕ) where
  rows_of : (n rows stride : ℕ) (plane : List ℕ) → WholeRows n rows stride plane → is_plane n rows stride (length plane) ≡ true
  rows_of n rows stride plane k = and_from (leb n stride) _ (le-leb n stride k.row) (eq-eqb (length plane) (stride * rows) k.size)

  allowed : WholePicture f y u v → picture_allowed f (length y) (length u) (length v) ≡ true
  unfolding picture_allowed planes_allowed
  allowed k =
      and_from (is_shape f.sampling f.width f.height) _ (shape_test _ _ _ k.shape)
      (and_from (is_plane f.width f.height f.y_stride (length y)) _ (rows_of _ _ _ y k.y_rows)
      (and_from (is_plane (chroma_width f.width) (chroma_rows f) f.u_stride (length u)) _ (rows_of _ _ _ u k.u_rows)
      (rows_of _ _ _ v k.v_rows)))

  whole : picture_allowed f (length y) (length u) (length v) ≡ true → WholePicture f y u v
  unfolding picture_allowed
  whole e =
      let k = planes_Fit f (length y) (length u) (length v) e in
      record {
        shape = shape_is _ _ _ (and_parts (is_shape f.sampling f.width f.height) _ e).0;
        y_rows = record { row = k.y_row; size = k.y_size };
        u_rows = record { row = k.u_row; size = k.u_size };
        v_rows = record { row = k.v_row; size = k.v_size };
      }

  module _ (before : List ℕ) (r : Result ℕ NotWritten) (after : List ℕ) (p : PicturePost f y u v before r after) where
    abbrev picture : List ℕ
    picture = picture_bytes (picture_made f y u v)

    by_both : (numbers_of (outcome_of r)).number
        ≡ (answer_by (picture_allowed f (length y) (length u) (length v)) (ltb (length before) (length picture))).number
    by_both = ap (λ (x : Numbers). x.number) p.answered

    picture_19 : ((numbers_of (outcome_of r)).number ≡ 19) ↔ (WholePicture f y u v → ⊥)
    picture_19 =
        by_19 (picture_allowed f (length y) (length u) (length v)) _ (whole, allowed) (short_is_not (ltb (length before) (length picture))) by_both

    picture_16 : WholePicture f y u v → ((numbers_of (outcome_of r)).number ≡ 16) ↔ (length before < length picture)
    picture_16 k =
        let t = is_16 (picture_allowed f (length y) (length u) (length v)) (ltb (length before) (length picture)) (allowed k) by_both in
        (λ z. ltb-true (length before) (length picture) (t.0 z), λ l. t.1 (lt-ltb (length before) (length picture) l))

    module _ (is : outcome_of r ≡ Ok tt) where
      picture_tests : picture_allowed f (length y) (length u) (length v) ≡ true
      picture_tests =
          (passed (picture_allowed f (length y) (length u) (length v)) (ltb (length before) (length picture))
          (ap (λ (a : Result Unit YuvError). (numbers_of a).number) (sym is) ∙ by_both)).0

      picture_front : (take (size_of r) after ≡ picture) × (drop (size_of r) after ≡ drop (size_of r) before)
      picture_front =
          let size : size_of r ≡ length picture = rw is at p.size in
          let out : after ≡ picture ++ drop (length picture) before = rw is at p.written in
          at_front picture before size out

-- ---- one by one

module _ (code w h : ℕ) where
  -- one more picture after a file
  one_more : (b : List ℕ) → can_write code w h (length b) ≡ true → (k : PictureCall) → PictureWritten code w h k
      → (can_write code w h (length (b ++ planes_made k.frame k.y k.u k.v)) ≡ true)
      × (file_made code w h b ++ take (size_of k.result) k.output' ≡ file_made code w h (b ++ planes_made k.frame k.y k.u k.v))
  one_more b can k q =
      let allowed = picture_tests k.frame k.y k.u k.v k.output k.result k.output' q.met q.finished in
      let out = (picture_front k.frame k.y k.u k.v k.output k.result k.output' q.met q.finished).0 in
      let more = appended k.frame k.y k.u k.v allowed b (rw (q.sampling, q.width, q.height) can) in
      rw (out, ← q.sampling, ← q.width, ← q.height) more

  all_more : (b : List ℕ) → can_write code w h (length b) ≡ true → (ks : List PictureCall) → AllWritten code w h ks
      → (can_write code w h (length (b ++ planes_given ks)) ≡ true) × (file_made code w h b ++ bytes_written ks ≡ file_made code w h (b ++ planes_given ks))
  all_more b can [] q = rw (append-nil b, append-nil (file_made code w h b)) (can, refl)
  all_more b can (k ∷ ks) q =
      let planes = planes_made k.frame k.y k.u k.v in
      let one = one_more b can k q.0 in
      let later = all_more (b ++ planes) one.0 ks q.1 in (
        rw (← append_assoc b planes (planes_given ks)) later.0,
        rw (
          ← append_assoc b planes (planes_given ks),
          ← append_assoc (file_made code w h b) (take (size_of k.result) k.output') (bytes_written ks),
          one.1,
        ) later.1,
      )

-- ---- the planes of a frame

-- the frame of a call, as that of a picture
abbrev picture_frame : FrameCall → PictureFrame
picture_frame k = record {
  width = k.frame.width;
  height = k.frame.height;
  sampling = sampling_code k.frame.settings.sampling;
  y_stride = k.frame.y_stride;
  u_stride = k.frame.u_stride;
  v_stride = k.frame.v_stride;
}

frame_is : (k : FrameCall) (f : PictureFrame) → PictureOfFrame k f → picture_frame k ≡ f
frame_is k f o = λ i. record {
  width = sym o.width i;
  height = sym o.height i;
  sampling = sym o.sampling i;
  y_stride = sym o.y_stride i;
  u_stride = sym o.u_stride i;
  v_stride = sym o.v_stride i;
}

module _ (k : FrameCall) (p : FramePost k) (is : k.answer ≡ Ok tt) where
  abbrev d : FrameDescription
  d = k.frame

  -- chroma rows of the frame are those of the picture
  rows : frame_rows d ≡ chroma_rows (picture_frame k)
  rows = ap (λ (s : YuvChromaSubsampling). chroma_height s d.height) (sym (sampling_there d.settings.sampling))

  whole_frame : WholePicture (picture_frame k) k.y' k.u' k.v'
  whole_frame =
      let w = frames.whole k p is in
      record {
        shape = record {
          code_is = ltb-true _ 2 (sampling_code_lem d.settings.sampling);
          width_least = w.width_least;
          width_most = w.width_most;
          height_least = w.height_least;
          height_most = w.height_most;
        };
        y_rows = record { row = w.y_rows.row; size = p.planes.luma.size ∙ w.y_rows.size };
        u_rows = record { row = w.u_rows.row; size = rw rows at (p.planes.cb.size ∙ w.u_rows.size) };
        v_rows = record { row = w.v_rows.row; size = rw rows at (p.planes.cr.size ∙ w.v_rows.size) };
      }

  of_frame : let q = picture_made (picture_frame k) k.y' k.u' k.v' in PlaneBytes k q.y q.u q.v
  of_frame =
      let w = whole_frame in
      let b = frames.bytes k p (frames.whole k p is) in
      let u_rows : length k.u' ≡ d.u_stride * frame_rows d = rw rows w.u_rows.size in
      let v_rows : length k.v' ≡ d.v_stride * frame_rows d = rw rows w.v_rows.size in
      let y = plane_record d.width d.y_stride d.height k.y' (luma_at d (image_of k)) w.y_rows.row w.y_rows.size b.luma in
      let u = plane_record (chroma_size d) d.u_stride (frame_rows d) k.u' (cb_at d (image_of k)) w.u_rows.row u_rows b.cb in
      let v = plane_record (chroma_size d) d.v_stride (frame_rows d) k.v' (cr_at d (image_of k)) w.v_rows.row v_rows b.cr in
      record {
        y_size = y.0;
        u_size = rw (← rows) u.0;
        v_size = rw (← rows) v.0;
        luma = y.1;
        cb = rw (← rows) u.1;
        cr = rw (← rows) v.1;
      }

-- ---- the line of a file of 4 × 2

the_line : file_made 0 4 2 []
    ≡ 89 ∷ 85 ∷ 86 ∷ 52 ∷ 77 ∷ 80 ∷ 69 ∷ 71 ∷ 50 ∷ 32 ∷ 87 ∷ 52 ∷ 32 ∷ 72 ∷ 50 ∷ 32 ∷ 70 ∷ 50 ∷ 53 ∷ 58 ∷ 49 ∷ 32 ∷ 73 ∷ 112 ∷ 32 ∷ 67 ∷ 52 ∷ 50 ∷ 48
    ∷ 106 ∷ 112 ∷ 101 ∷ 103 ∷ 10 ∷ []
unfolding file_made file_from file_bytes pictures_bytes pictures_of plane_bytes line_of text_of tag_bytes decimal
the_line = refl

-- ---- and of one of 1 × 1 with a picture

one_of_422 : file_made 1 1 1 (7 ∷ 8 ∷ 9 ∷ [])
    ≡ 89 ∷ 85 ∷ 86 ∷ 52 ∷ 77 ∷ 80 ∷ 69 ∷ 71 ∷ 50 ∷ 32 ∷ 87 ∷ 49 ∷ 32 ∷ 72 ∷ 49 ∷ 32 ∷ 70 ∷ 50 ∷ 53 ∷ 58 ∷ 49 ∷ 32 ∷ 73 ∷ 112 ∷ 32 ∷ 67 ∷ 52 ∷ 50
    ∷ 50 ∷ 10 ∷ 70 ∷ 82 ∷ 65 ∷ 77 ∷ 69 ∷ 10 ∷ 7 ∷ 8 ∷ 9 ∷ []
unfolding file_made file_from file_bytes pictures_bytes picture_bytes pictures_of picture_from plane_bytes line_of text_of tag_bytes decimal
one_of_422 = refl

-- ---- for who links the library

-- the number is that of the answer
same_19 : {A : Type 0} {n m : ℕ} → n ≡ m → (m ≡ 19) ↔ A → (n ≡ 19) ↔ A
same_19 e is = (λ z. is.0 (sym e ∙ z), λ a. e ∙ is.1 a)

pub y4m_files : Y4mFiles
y4m_files = record {
  some_file = some_file;
  one_file = one_file;
  read_back = read_back;
  rewritten = rewritten;
  line = the_line;
  line_422 = one_of_422;
  refused = read_19;
  read = λ file first before r after p f i. (done file first before r after p f i, tells file first before r after p f i);
  write_refused = write_19;
  write_short = write_16;
  write_size = λ code w h b before r after p. (λ z. p.size ∙ rw z, λ z. p.size ∙ rw z);
  written = λ code w h b before r after p most is.
      let there = front code w h b before r after p most is in
      (there.0, (file_from code w h b, written_is code w h b before r after p most is), there.1);
  written_read = λ code w h b before r after p most is first before₂ r₂ after₂ q.
      let f = file_from code w h b in
      let o = written_is code w h b before r after p most is in
      (done _ first before₂ r₂ after₂ q f o.is_file_lem, (f, o, tells _ first before₂ r₂ after₂ q f o.is_file_lem));
  picture_refused = picture_19;
  picture_short = picture_16;
  picture_size = λ f y u v before r after p. (λ z. p.size ∙ rw z, λ z. p.size ∙ rw z);
  picture_written = picture_front;
  one_by_one = λ code w h b before r after p most is ks q.
      let all = all_more code w h b (tests code w h b before r after p most is).0 ks q in
      let more = b ++ planes_given ks in
      (file_from code w h more, rw ((front code w h b before r after p most is).0, all.1) (its_planes code w h more all.0));
  frame_whole = λ k f p is o. subst (λ (g : PictureFrame). WholePicture g k.y' k.u' k.v') (frame_is k f o) (whole_frame k p is);
  frame = λ k f p is o.
      subst (λ (g : PictureFrame). let q = picture_made g k.y' k.u' k.v' in PlaneBytes k q.y q.u q.v) (frame_is k f o)
      (of_frame k p is);
  linked_refused = λ k p. same_19 p.number (read_19 k.file k.first k.entries p.reading k.entries' p.read);
  linked_read = λ k p f i.
      let t = tells k.file k.first k.entries p.reading k.entries' p.read f i in
      let finished = done k.file k.first k.entries p.reading k.entries' p.read f i in
      (p.number ∙ rw finished, p.told ∙ rw (t.width, t.height, t.sampling, t.count), t);
  linked_write_refused = λ k p. same_19 p.number (write_19 _ _ _ k.pictures k.output p.written k.output' p.wrote);
  linked_written = λ k p z. (is_finished (outcome_of p.written) (sym p.number ∙ z), p.told);
  linked_picture_refused = λ k p. same_19 p.number (picture_19 _ k.y k.u k.v k.output p.written k.output' p.wrote);
  linked_picture_written = λ k p z. (is_finished (outcome_of p.written) (sym p.number ∙ z), p.told);
}
