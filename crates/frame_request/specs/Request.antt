-- A request of the program: the frame that it describes, the refusals, and the bytes that answer it. docs/RULES.md, chapter 9.
-- Where a request has fewer bytes than are asked of it here, 0 stands for the others: refusal 1 is first, so no answer turns on them.
-- Assumes nothing.
use Rattle.std.specs.Prelude.{ℕ, ◌+◌, ◌*◌, ◌-◌, ◌/◌, ◌%◌, ◌≡◌, Bool, cond, ◌||◌, List, [], ◌∷◌, ◌++◌, ltb, leb, length, get_or, drop, Result, Ok, Err}
use Rattle.yuv_support.specs.declared.YuvSourceChannels.TheVariants.{Rgb}
use Rattle.yuv_support.specs.declared.YuvChromaSubsampling.TheVariants.{Yuv420}
use Rattle.yuv_support.specs.declared.YuvRange.TheVariants.{Limited}
use Rattle.yuv_support.specs.declared.YuvStandardMatrix.TheVariants.{Bt601}
use Rattle.yuv_support.specs.Channels.{channels_count}
use Rattle.yuv_support.specs.Sampling.{chroma_width, chroma_height}
use Rattle.sharp_gamma.specs.declared.SharpYuvGammaTransfer.TheVariants.{Srgb}
use Rattle.sharp_gamma.specs.declared.TableRounding.TheVariants.{Truncated}
use Rattle.setting_codes.specs.Codes.{channels_codes, sampling_codes, range_codes, matrix_codes, transfer_codes}
use Rattle.definitions.specs.declared.YuvSettings.{YuvSettings}
use Rattle.definitions.specs.Painted.{Painted}
use Rattle.yuv_error.specs.declared.YuvError.{YuvError}
use Rattle.yuv_error.specs.Numbers.{Numbers, numbers, error_numbers}
use Rattle.yuv_error.specs.Rules.{Rule, rule, first_numbers, size_rules, matrix_rules}
use Rattle.definitions.specs.declared.FrameDescription.{FrameDescription}
use Rattle.definitions.specs.Image.{whole_source, Image, frame_image, luma_at, cb_at, cr_at}
use Rattle.yuv_error.specs.declared.Lengths.{Lengths}
use Rattle.yuv_error.specs.Lent.{lent_rules}

-- ---- what a request says

-- RULES 9.1: two bytes, the low one first
abbrev pub word_at : List ℕ → ℕ → ℕ
word_at input i = get_or input i 0 + 256 * get_or input (i + 1) 0

-- RULES 1.2, 9.1: the five codes; the rounding has none
unfoldable pub settings_of : List ℕ → YuvSettings
settings_of input = record {
  channels = get_or channels_codes (get_or input 4 0) Rgb;
  sampling = get_or sampling_codes (get_or input 5 0) Yuv420;
  range = get_or range_codes (get_or input 6 0) Limited;
  matrix = get_or matrix_codes (get_or input 7 0) Bt601;
  transfer = get_or transfer_codes (get_or input 8 0) Srgb;
  rounding = Truncated;
}

-- RULES 9.1: the frame of a request, a whole source, its planes without padding
unfoldable pub frame_of : List ℕ → FrameDescription
frame_of input = record {
  width = word_at input 0;
  height = word_at input 2;
  window = whole_source (word_at input 0) (word_at input 2);
  settings = settings_of input;
  y_stride = word_at input 0;
  u_stride = chroma_width (word_at input 0);
  v_stride = chroma_width (word_at input 0);
}

-- RULES 9.1: rows without padding
abbrev pub source_stride : FrameDescription → ℕ
source_stride d = d.width * channels_count d.settings.channels

-- RULES 9.3: the bytes of Y
abbrev pub luma_size : FrameDescription → ℕ
luma_size d = d.width * d.height

-- RULES 9.3: the bytes of U, and of V
abbrev pub chroma_size : FrameDescription → ℕ
chroma_size d = chroma_width d.width * chroma_height d.settings.sampling d.height

-- ---- which requests are refused

-- RULES 9.2: a code without a value
abbrev pub has_unknown : List ℕ → Bool
has_unknown input =
    leb (length channels_codes) (get_or input 4 0)
    || leb (length sampling_codes) (get_or input 5 0)
    || leb (length range_codes) (get_or input 6 0)
    || leb (length matrix_codes) (get_or input 7 0)
    || leb (length transfer_codes) (get_or input 8 0)

-- RULES 9.2
unfoldable pub malformed : List ℕ → Bool
malformed input = ltb (length input) 9 || has_unknown input

-- RULES 9.2: 1
abbrev pub header_rules : List ℕ → List Rule
header_rules input = rule 1 (malformed input) 0 0 ∷ []

-- RULES 9.2: 3, of w × h
abbrev pub area_rules : (w h : ℕ) → List Rule
area_rules w h = rule 3 (ltb 16384 (w * h)) 0 0 ∷ []

-- RULES 9.2: 1, 2, 3
abbrev pub opening_rules : List ℕ → List Rule
opening_rules input = let d = frame_of input in header_rules input ++ (size_rules d.width d.height ++ area_rules d.width d.height)

-- RULES 9.2: the lengths of a source and of planes without padding
abbrev pub packed_lengths : FrameDescription → (source : ℕ) → Lengths
packed_lengths d source = record { source = source; y = luma_size d; u = chroma_size d; v = chroma_size d }

-- RULES 9.2: 4 and 6 to 12, of which 6 and 12 alone can hold
abbrev pub buffer_rules : List ℕ → List Rule
buffer_rules input =
    let d = frame_of input in
    matrix_rules d.settings.matrix ++ lent_rules d d.height (source_stride d) (packed_lengths d (length (drop 9 input)))

-- RULES 9.2
abbrev pub request_rules : List ℕ → List Rule
request_rules input = opening_rules input ++ buffer_rules input

-- ---- what is answered

-- RULES 7.1
abbrev pub response_numbers : Result ℕ YuvError → Numbers
response_numbers (Ok n) = numbers 0 0 0
response_numbers (Err e) = error_numbers e

-- RULES 9.3: how many bytes are answered, of a frame with n bytes in its planes
abbrev pub bytes_of : Result ℕ YuvError → ℕ → ℕ
bytes_of (Ok k) n = n
bytes_of (Err e) n = 0

-- RULES 9.3: how many the answer says
abbrev pub bytes_said : Result ℕ YuvError → ℕ
bytes_said (Ok k) = k
bytes_said (Err e) = 0

-- RULES 9.3: byte p of rows of n bytes, without padding
abbrev pub byte_in : (ℕ → ℕ → ℕ) → (n p : ℕ) → ℕ
byte_in rows n p = rows (p / n) (p % n)

-- RULES 9.3: byte p of Y, U, V without padding
unfoldable pub output_at : FrameDescription → Image → (p : ℕ) → ℕ
output_at d image p =
    cond (ltb p (luma_size d)) (byte_in (luma_at d image) d.width p)
    (cond (ltb p (luma_size d + chroma_size d)) (byte_in (cb_at d image) (chroma_width d.width) (p - luma_size d))
    (byte_in (cr_at d image) (chroma_width d.width) (p - (luma_size d + chroma_size d))))

-- RULES 9.3
abbrev pub output_size : FrameDescription → ℕ
output_size d = luma_size d + 2 * chroma_size d

-- RULES 9.3: the bytes that answer a request
abbrev pub answer_at : List ℕ → (p : ℕ) → ℕ
answer_at input = let d = frame_of input in output_at d (frame_image d (source_stride d) (drop 9 input))

-- RULES 9.2, 9.3: everything of a request, by its bytes, the answer, and the output as it was left
pub record RequestPost (input output : List ℕ) (response : Result ℕ YuvError) (output' : List ℕ) : Type 0 where
  pub answered : response_numbers response ≡ first_numbers (request_rules input)
  pub said : bytes_said response ≡ bytes_of response (output_size (frame_of input))
  pub written : Painted (bytes_said response) (answer_at input) output output'
