-- A record made of planes: its size, that it is allowed, its bytes as they are put, and the answer by the checks. Assumes nothing.
use Prim.Native.Nat.{ℕ, ◌+◌, ◌*◌, ◌^◌, ◌≤◌, ◌<◌}
use mathlib.Core.Path.{◌≡◌, refl, ap, sym, ◌∙◌}
use mathlib.Core.Bool.{Bool, true, false, cond, not, ◌&&◌}
use mathlib.Core.List.{List, [], ◌∷◌, ◌++◌, append_assoc}
use native.Mathlib.Omega.{arith}
use lib.Dec.{eqb}
use borrow.Author.Tests.{not-true}
use lib.ListN.{length, length-append}
use lib.Seq.{sets}
use Rattle.std.proofs.lemmas.Bool.{and_parts}
use Rattle.yuv_support.specs.declared.YuvChromaSubsampling.{YuvChromaSubsampling}
use Rattle.yuv_support.specs.declared.YuvChromaSubsampling.TheVariants.{Yuv420, Yuv422}
use Rattle.yuv_support.specs.Sampling.{chroma_width, chroma_height}
use Rattle.std.specs.Prelude.{Option, Some, None, Err}
use Rattle.yuv_error.specs.declared.YuvError.{YuvError}
use Rattle.yuv_error.specs.Numbers.{Numbers, numbers_of}
use Rattle.yuv_error.specs.Rules.{Rule, first_numbers}
use Rattle.yuv_error.proofs.Numbers.{refused_number}
use Rattle.yuv_error.specs.Known.{PlanesWhole}
use Rattle.yuv_error.proofs.Accepted.{shape_accepted}
use Rattle.little_endian.specs.Number.{Bytes, low_bytes}
use Rattle.little_endian.proofs.Number.{length_low}
use Rattle.little_endian.proofs.Stores.{sets-append}
use native.Mathlib.Nat.{zero-add}
use Rattle.shift_file.specs.declared.SettingCodes.{SettingCodes}
use Rattle.shift_file.specs.File.{Allowed, settings_size, header_size, is_side, chroma_bytes, bytes_of}
use Rattle.shift_file.proofs.Record.{side_bounds}
use Rattle.shift_writer.specs.Output.{size_told}
use Rattle.shift_writer.proofs.Pairs.{sets_four}
use Rattle.shift_record.specs.declared.RecordFrame.{RecordFrame}
use Rattle.shift_record.specs.Record.{unpadded_planes, form_with, codes_in, record_form, settings_of, record_shape, chroma_rows, record_made, header, record_size, lent_rules, frame_allowed, opening_rules}
use Rattle.shift_record.specs.Known.{IsFrame, PlanesFit}
use Rattle.shift_record.proofs.Rows.{Bytes-unpadded}
use Rattle.shift_record.proofs.Unpadded.{length-y, length-u, length-v, length-planes}

-- ---- the settings

pub length_codes : (settings : Option SettingCodes) → length (codes_in settings) ≡ settings_size (form_with settings)
length_codes None = refl
length_codes (Some c) = refl

pub length-header : (f : RecordFrame) → length (header f) ≡ header_size (record_form f)
length-header f = simp (length-append, length_low) (omega (arith, length_codes f.settings))

-- a frame has chroma rows, and no more than rows
pub rows_bounds : (s : YuvChromaSubsampling) (h : ℕ) → 1 ≤ h → h ≤ 16384 → (1 ≤ chroma_height s h) × (chroma_height s h ≤ 16384)
rows_bounds Yuv420 h l m = (omega arith, omega arith)
rows_bounds Yuv422 h l m = (l, m)

-- ---- the record

module _ (f : RecordFrame) (y u v : List ℕ) where
  abbrev Fit : Type 0
  Fit = PlanesFit f (length y) (length u) (length v)

  pub whole : Fit → PlanesWhole (record_shape f) (length y) (length u) (length v)
  whole p = record {
    y_rows = record { wide = p.y_row; exact = p.y_size };
    u_rows = record { wide = p.u_row; exact = p.u_size };
    v_rows = record { wide = p.v_row; exact = p.v_size };
  }

  y_size : Fit → length (record_made f y u v).y ≡ f.width * f.height
  y_size p = length-y (record_shape f) y u v (whole p)

  u_size : Fit → length (record_made f y u v).u ≡ chroma_width f.width * chroma_rows f
  u_size p = length-u (record_shape f) y u v (whole p)

  v_size : Fit → length (record_made f y u v).v ≡ chroma_width f.width * chroma_rows f
  v_size p = length-v (record_shape f) y u v (whole p)

  pub length_made : Fit → length (bytes_of (record_made f y u v)) ≡ record_size f
  unfolding bytes_of
  length_made p = simp (length-append, length_low) (omega (arith, length_codes f.settings, y_size p, u_size p, v_size p))

  pub length_parts : Fit → length (bytes_of (record_made f y u v)) ≡ header_size (record_form f) + length (unpadded_planes (record_shape f) y u v)
  length_parts p = omega (arith, length_made p, length-planes (record_shape f) y u v (whole p))

  pub made_Allowed : Fit → f.crossing < 256 ^ 4 → is_side f.width ≡ true → is_side f.height ≡ true → Bytes y → Bytes u → Bytes v
      → Allowed (record_form f) (record_made f y u v)
  unfolding chroma_bytes
  made_Allowed p c w h by bu bv = record {
    crossing = c;
    width = w;
    height = h;
    settings = length_codes f.settings;
    codes = p.frame.codes;
    y_size = y_size p;
    u_size = u_size p;
    v_size = v_size p;
    y_bytes = Bytes-unpadded _ _ _ y by;
    u_bytes = Bytes-unpadded _ _ _ u bu;
    v_bytes = Bytes-unpadded _ _ _ v bv;
  }

  -- header and planes put one after the other
  pub record_put : (d : List ℕ) (at : ℕ) → at ≡ header_size (record_form f)
      → sets (sets d 0 (header f)) at (unpadded_planes (record_shape f) y u v) ≡ sets d 0 (bytes_of (record_made f y u v))
  unfolding bytes_of unpadded_planes
  record_put d at e =
      let r = record_made f y u v in
      let planes = r.y ++ (r.u ++ r.v) in
      let same : header f ++ planes ≡ bytes_of r = simp append_assoc in
      let top : at ≡ length (header f) = e ∙ sym (length-header f) in
      rw (top, ← same, sets-append (header f) planes d 0, zero-add (length (header f)))

  -- what the checks say
  pub planes_Fit : IsFrame f → (first_numbers (lent_rules f y u v)).number ≡ 0 → Fit
  planes_Fit is e =
      let a = shape_accepted (record_shape f) (length y) (length u) (length v) e in
      record {
        frame = is;
        y_row = a.y_rows.wide;
        y_size = a.y_rows.exact;
        u_row = a.u_rows.wide;
        u_size = a.u_rows.exact;
        v_row = a.v_rows.wide;
        v_size = a.v_rows.exact;
      }

pub header_put : (f : RecordFrame) (d : List ℕ)
    → sets (sets (sets (sets d 0 (low_bytes 4 f.crossing)) 4 (low_bytes 2 f.width)) 6 (low_bytes 2 f.height)) 8 (settings_of f) ≡ sets d 0 (header f)
header_put f d =
    sets_four (low_bytes 4 f.crossing) (low_bytes 2 f.width) (low_bytes 2 f.height) (settings_of f) d 4 6 8
    (length_low 4 f.crossing) (rw length_low) (rw length_low)

pub is_frame : (f : RecordFrame) → frame_allowed f ≡ true → IsFrame f
is_frame f e =
    let p = and_parts (is_side f.width) _ e in
    let q = and_parts (is_side f.height) _ p.1 in
    let w = side_bounds _ p.0 in
    let h = side_bounds _ q.0 in
    record { width_least = w.0; width_most = w.1; height_least = h.0; height_most = h.1; codes = q.1 }

-- ---- a refusal that is not 16 tells no size

-- no rule says this number
abbrev none_says : ℕ → List Rule → Bool
none_says n [] = true
none_says n (r ∷ rs) = not (eqb r.says.number n) && none_says n rs

either_says : (b : Bool) (n : ℕ) (x y : Numbers) → not (eqb x.number n) ≡ true → not (eqb y.number n) ≡ true → not (eqb (cond b x y).number n) ≡ true
either_says true n x y p q = p
either_says false n x y p q = q

not_said : (n : ℕ) (rs : List Rule) → not (eqb 0 n) ≡ true → none_says n rs ≡ true → not (eqb (first_numbers rs).number n) ≡ true
not_said n [] z e = z
not_said n (r ∷ rs) z e =
    let p = and_parts (not (eqb r.says.number n)) _ e in
    either_says r.holds n r.says (first_numbers rs) p.0 (not_said n rs z p.1)

pub refused_size : (f : RecordFrame) (y u v : List ℕ) (e : YuvError) (n : ℕ) → numbers_of (Err e) ≡ first_numbers (opening_rules f y u v) → 0 ≡ size_told (Err e) n
refused_size f y u v e n is =
    rw (refused_number e, ap (λ (k : Numbers). eqb k.number 16) is ∙ not-true _ (not_said 16 (opening_rules f y u v) refl refl))
