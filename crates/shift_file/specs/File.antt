-- The shift file: its records, which lists of records have a file, and the file's bytes. docs/RULES.md, 11.1 and 11.2; with settings 11.7.
-- Assumes nothing.
use Rattle.std.specs.Prelude.{ℕ, suc, ◌+◌, ◌*◌, ◌^◌, ◌≤◌, ◌<◌, ◌≡◌, Bool, true, ◌&&◌, ◌||◌, List, [], ◌∷◌, ◌++◌, ltb, leb, eqb, length, get_or}
use Rattle.yuv_support.specs.declared.YuvChromaSubsampling.{YuvChromaSubsampling}
use Rattle.yuv_support.specs.declared.YuvChromaSubsampling.TheVariants.{Yuv420}
use Rattle.yuv_support.specs.Sampling.{chroma_width, chroma_height}
use Rattle.setting_codes.specs.Codes.{sampling_codes, range_codes, transfer_codes, custom_code}
use Rattle.little_endian.specs.Number.{Bytes, low_bytes}
use Rattle.shift_file.specs.declared.ShiftForm.{ShiftForm}
use Rattle.shift_file.specs.declared.ShiftForm.TheVariants.{WithoutSettings, WithSettings}
use Rattle.shift_file.specs.declared.SettingCodes.{SettingCodes}

-- RULES 11.2: a frame of a crossing, and its planes without padding. RULES 11.7: the settings are four bytes, or none in the form without
pub record ShiftRecord : Type 0 where
  pub crossing : ℕ
  pub width : ℕ
  pub height : ℕ
  pub settings : List ℕ
  pub y : List ℕ
  pub u : List ℕ
  pub v : List ℕ

-- ---- the two forms

-- RULES 11.7: what stands before the count
abbrev pub mark : ShiftForm → List ℕ
mark WithoutSettings = []
mark WithSettings = low_bytes 4 4294967295

-- RULES 11.7
abbrev pub mark_size : ShiftForm → ℕ
mark_size WithoutSettings = 0
mark_size WithSettings = 4

-- RULES 11.7
abbrev pub settings_size : ShiftForm → ℕ
settings_size WithoutSettings = 0
settings_size WithSettings = 4

-- RULES 11.7: a code below n, or 255 for not recorded
abbrev pub is_code : (n code : ℕ) → Bool
is_code n code = ltb code n || eqb code 255

-- RULES 11.7: sampling, range, matrix and transfer, by the program's codes (1.2)
abbrev pub codes_allowed : ShiftForm → (settings : List ℕ) → Bool
codes_allowed WithoutSettings s = true
codes_allowed WithSettings s =
    ltb (get_or s 0 0) (length sampling_codes)
    && (is_code (length range_codes) (get_or s 1 0) && (is_code (suc custom_code) (get_or s 2 0) && is_code (length transfer_codes) (get_or s 3 0)))

-- RULES 11.7: 4:2:0, and range, matrix and transfer not recorded
abbrev pub not_recorded : List ℕ
not_recorded = 0 ∷ 255 ∷ 255 ∷ 255 ∷ []

-- RULES 11.7: the settings that are told of a record: its own, or that nothing is recorded where the form has none
abbrev pub settings_told : ShiftForm → (settings : List ℕ) → List ℕ
settings_told WithoutSettings s = not_recorded
settings_told WithSettings s = s

-- RULES 11.7: the four bytes of settings
abbrev pub code_list : SettingCodes → List ℕ
code_list c = c.sampling ∷ c.range ∷ c.matrix ∷ c.transfer ∷ []

-- RULES 11.2: 4:2:0. RULES 11.7: the recorded sampling
abbrev pub sampling_of : ShiftForm → (settings : List ℕ) → YuvChromaSubsampling
sampling_of WithoutSettings s = Yuv420
sampling_of WithSettings s = get_or sampling_codes (get_or s 0 0) Yuv420

-- ---- a record

-- RULES 11.2: cw × ch, the bytes of a chroma plane
unfoldable pub chroma_bytes : ShiftForm → (settings : List ℕ) → (w h : ℕ) → ℕ
chroma_bytes form s w h = chroma_width w * chroma_height (sampling_of form s) h

-- RULES 11.2: a side of a frame
abbrev pub is_side : ℕ → Bool
is_side x = leb 1 x && leb x 16384

-- RULES 11.2: which records are allowed
pub record Allowed (form : ShiftForm) (r : ShiftRecord) : Type 0 where
  pub crossing : r.crossing < 256 ^ 4
  pub width : is_side r.width ≡ true
  pub height : is_side r.height ≡ true
  pub settings : length r.settings ≡ settings_size form
  pub codes : codes_allowed form r.settings ≡ true
  pub y_size : length r.y ≡ r.width * r.height
  pub u_size : length r.u ≡ chroma_bytes form r.settings r.width r.height
  pub v_size : length r.v ≡ chroma_bytes form r.settings r.width r.height
  pub y_bytes : Bytes r.y
  pub u_bytes : Bytes r.u
  pub v_bytes : Bytes r.v

-- RULES 11.2: crossing, w, h, Y, U, V
unfoldable pub bytes_of : ShiftRecord → List ℕ
bytes_of r = low_bytes 4 r.crossing ++ (low_bytes 2 r.width ++ (low_bytes 2 r.height ++ (r.settings ++ (r.y ++ (r.u ++ r.v)))))

-- RULES 11.2: the bytes of a record before its planes
abbrev pub header_size : ShiftForm → ℕ
header_size form = 8 + settings_size form

-- ---- a file

-- RULES 11.1: the pairs of records that stand back to back from `at` on
unfoldable pub pairs_of : (at : ℕ) → List ShiftRecord → List ℕ
pairs_of at [] = []
pairs_of at (r ∷ rs) = low_bytes 8 at ++ (low_bytes 4 (length (bytes_of r)) ++ pairs_of (at + length (bytes_of r)) rs)

-- RULES 11.1: records back to back
unfoldable pub record_bytes : List ShiftRecord → List ℕ
record_bytes [] = []
record_bytes (r ∷ rs) = bytes_of r ++ record_bytes rs

-- RULES 11.1: where the pairs stand, after the count
abbrev pub pairs_at : ShiftForm → ℕ
pairs_at form = mark_size form + 4

-- RULES 11.1: where the first of n records stands
abbrev pub records_at : ShiftForm → (n : ℕ) → ℕ
records_at form n = pairs_at form + 12 * n

-- RULES 11.1: count, pairs, records
unfoldable pub file_of : ShiftForm → List ShiftRecord → List ℕ
file_of form rs = mark form ++ (low_bytes 4 (length rs) ++ (pairs_of (records_at form (length rs)) rs ++ record_bytes rs))

-- RULES 11.2
abbrev pub EachAllowed : ShiftForm → List ShiftRecord → Type 0
EachAllowed form [] = Unit {0}
EachAllowed form (r ∷ rs) = Allowed form r × EachAllowed form rs

-- RULES 11.1: which lists of records have a file
pub record HasFile (form : ShiftForm) (rs : List ShiftRecord) : Type 0 where
  pub few : length rs ≤ 4096
  pub each : EachAllowed form rs

-- RULES 11.3: these bytes are the file of these records
pub record IsFileOf (form : ShiftForm) (file : List ℕ) (rs : List ShiftRecord) : Type 0 where
  pub has : HasFile form rs
  pub same : file_of form rs ≡ file
