-- A record from planes with strides: docs/RULES.md, 11.6; with settings 11.7.
-- Assumes nothing.
use Rattle.std.specs.Prelude.{ℕ, zero, suc, ◌+◌, ◌*◌, ◌≡◌, Bool, not, ◌&&◌, List, [], ◌∷◌, ◌++◌, Option, Some, None, length, take, drop, Result}
use Rattle.yuv_support.specs.declared.YuvChromaSubsampling.{YuvChromaSubsampling}
use Rattle.yuv_support.specs.Sampling.{chroma_width, chroma_height}
use Rattle.yuv_error.specs.declared.LentBuffer.{LentBuffer}
use Rattle.yuv_error.specs.declared.PlaneShape.{PlaneShape}
use Rattle.yuv_error.specs.Numbers.{numbers_of}
use Rattle.yuv_error.specs.Rules.{Rule, rule, first_numbers}
use Rattle.yuv_error.specs.Shape.{luma_lent, chroma_lent, shape_rules}
use Rattle.little_endian.specs.Number.{low_bytes}
use Rattle.shift_file.specs.declared.ShiftForm.{ShiftForm}
use Rattle.shift_file.specs.declared.ShiftForm.TheVariants.{WithoutSettings, WithSettings}
use Rattle.shift_file.specs.declared.SettingCodes.{SettingCodes}
use Rattle.shift_file.specs.File.{ShiftRecord, header_size, code_list, codes_allowed, sampling_of, is_side, bytes_of}
use Rattle.shift_writer.specs.declared.NotWritten.{NotWritten}
use Rattle.shift_writer.specs.Output.{outcome_of, size_of, overwritten, size_told, output_rules}
use Rattle.shift_record.specs.declared.RecordFrame.{RecordFrame}

-- RULES 11.6: the first n bytes of each of so many rows, one row after the other
unfoldable pub unpadded : (n stride rows : ℕ) → (plane : List ℕ) → List ℕ
unpadded n stride zero plane = []
unpadded n stride (suc rows) plane = take n plane ++ unpadded n stride rows (drop stride plane)

-- RULES 11.6: Y, U and V without their padding, one after the other
unfoldable pub unpadded_planes : PlaneShape → (y u v : List ℕ) → List ℕ
unpadded_planes s y u v =
    let cw = chroma_width s.width in
    let ch = chroma_height s.sampling s.height in
    unpadded s.width s.y_stride s.height y ++ (unpadded cw s.u_stride ch u ++ unpadded cw s.v_stride ch v)

-- RULES 11.7: the form of a record with these settings, or with none
abbrev pub form_with : Option SettingCodes → ShiftForm
form_with None = WithoutSettings
form_with (Some c) = WithSettings

-- RULES 11.7: four codes, or none in the form without settings
abbrev pub codes_in : Option SettingCodes → List ℕ
codes_in None = []
codes_in (Some c) = code_list c

-- RULES 11.7
abbrev pub record_form : RecordFrame → ShiftForm
record_form f = form_with f.settings

-- RULES 11.7
abbrev pub settings_of : RecordFrame → List ℕ
settings_of f = codes_in f.settings

-- RULES 11.6: 4:2:0. RULES 11.7: the recorded sampling
abbrev pub frame_sampling : RecordFrame → YuvChromaSubsampling
frame_sampling f = sampling_of (record_form f) (settings_of f)

-- RULES 11.6, 11.7: the shape of its planes
abbrev pub record_shape : RecordFrame → PlaneShape
record_shape f = record {
  width = f.width;
  height = f.height;
  sampling = frame_sampling f;
  y_stride = f.y_stride;
  u_stride = f.u_stride;
  v_stride = f.v_stride;
}

-- RULES 11.6: ch
abbrev pub chroma_rows : RecordFrame → ℕ
chroma_rows f = chroma_height (frame_sampling f) f.height

-- RULES 11.6: the record of these planes
abbrev pub record_made : RecordFrame → (y u v : List ℕ) → ShiftRecord
record_made f y u v = record {
  crossing = f.crossing;
  width = f.width;
  height = f.height;
  settings = settings_of f;
  y = unpadded f.width f.y_stride f.height y;
  u = unpadded (chroma_width f.width) f.u_stride (chroma_rows f) u;
  v = unpadded (chroma_width f.width) f.v_stride (chroma_rows f) v;
}

-- RULES 11.2: its bytes before the planes
abbrev pub header : RecordFrame → List ℕ
header f = low_bytes 4 f.crossing ++ (low_bytes 2 f.width ++ (low_bytes 2 f.height ++ settings_of f))

-- RULES 11.2: 8 + w × h + 2 × cw × ch. RULES 11.7: and 4 for the settings
abbrev pub record_size : RecordFrame → ℕ
record_size f = header_size (record_form f) + (f.width * f.height + 2 * (chroma_width f.width * chroma_rows f))

-- ---- the conditions

-- RULES 7.6, 11.6: the planes, as a frame call is lent them
abbrev pub y_lent : RecordFrame → (len : ℕ) → LentBuffer
y_lent f len = luma_lent (record_shape f) len

-- RULES 7.6, 11.6
abbrev pub u_lent : RecordFrame → (len : ℕ) → LentBuffer
u_lent f len = chroma_lent (record_shape f) f.u_stride len

-- RULES 7.6, 11.6
abbrev pub v_lent : RecordFrame → (len : ℕ) → LentBuffer
v_lent f len = chroma_lent (record_shape f) f.v_stride len

-- RULES 11.6: 8 to 12
abbrev pub lent_rules : RecordFrame → (y u v : List ℕ) → List Rule
lent_rules f y u v = shape_rules (record_shape f) (length y) (length u) (length v)

-- RULES 11.6: the sides are those of a frame. RULES 11.7: the settings have such codes
abbrev pub frame_allowed : RecordFrame → Bool
frame_allowed f = is_side f.width && (is_side f.height && codes_allowed (record_form f) (settings_of f))

-- RULES 11.6: 15, then 8 to 12: what is asked before the output is measured
abbrev pub opening_rules : RecordFrame → (y u v : List ℕ) → List Rule
opening_rules f y u v = rule 15 (not (frame_allowed f)) 0 0 ∷ lent_rules f y u v

-- RULES 11.6: 15, then 8 to 12, then 16
abbrev pub record_rules : RecordFrame → (y u v : List ℕ) → (room : ℕ) → List Rule
record_rules f y u v room =
    rule 15 (not (frame_allowed f)) 0 0 ∷ (lent_rules f y u v ++ output_rules (length (bytes_of (record_made f y u v))) room)

-- RULES 11.6: everything of a call: its answer, the record's size, and each byte lent to it
pub record RecordPost (f : RecordFrame) (y u v before : List ℕ) (r : Result ℕ NotWritten) (after : List ℕ) : Type 0 where
  pub answered : numbers_of (outcome_of r) ≡ first_numbers (record_rules f y u v (length before))
  pub size : size_of r ≡ size_told (outcome_of r) (length (bytes_of (record_made f y u v)))
  pub written : after ≡ overwritten (outcome_of r) (bytes_of (record_made f y u v)) before
