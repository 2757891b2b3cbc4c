-- Y4M files for C and Rust: what the calls `segvartin_call_y4m_pictures`, `_write` and `_picture` answer and leave, which is the promise of the call
-- under each. docs/RULES.md, 10.8.
-- Assumes nothing.
use Rattle.std.specs.Prelude.{ℕ, ◌≡◌, List, [], ◌∷◌, length, get_or, Result}
use Rattle.yuv_support.specs.Codes.{sampling_code}
use Rattle.yuv_error.specs.declared.YuvError.{YuvError}
use Rattle.yuv_error.specs.Numbers.{numbers_of}
use Rattle.yuv_error.specs.Rules.{Rule}
use Rattle.y4m_reader.specs.declared.Y4mReading.{Y4mReading}
use Rattle.y4m_reader.specs.Reading.{y4m_outcome, y4m_reading_of, file_rules, ReadPost}
use Rattle.shift_writer.specs.declared.NotWritten.{NotWritten}
use Rattle.shift_writer.specs.Output.{outcome_of, size_of}
use Rattle.y4m_writer.specs.Writing.{write_rules, WritePost}
use Rattle.y4m_picture.specs.declared.PictureFrame.{PictureFrame}
use Rattle.y4m_picture.specs.Picture.{picture_rules, PicturePost}

-- ---- `segvartin_call_y4m_pictures`

-- RULES 10.8: what a call was given, the number that it returned, and what it was lent as it left it
pub record ExportedY4mReading : Type 0 where
  pub file : List ℕ
  pub first : ℕ
  pub entries : List ℕ
  pub number : ℕ
  pub told : List ℕ
  pub entries' : List ℕ

-- RULES 10.8
abbrev pub exported_y4m_reading : (file : List ℕ) (first : ℕ) (entries : List ℕ) (number : ℕ) (told entries' : List ℕ) → ExportedY4mReading
exported_y4m_reading file first entries number told entries' =
    record { file = file; first = first; entries = entries; number = number; told = told; entries' = entries' }

-- RULES 10.8: 19
abbrev pub rules_of_y4m_reading : ExportedY4mReading → List Rule
rules_of_y4m_reading k = file_rules k.file

-- RULES 10.8: what is told of a reading
abbrev pub y4m_told : Y4mReading → List ℕ
y4m_told reading =
    reading.header.width ∷ reading.header.height ∷ sampling_code reading.header.sampling ∷ reading.count ∷ reading.told ∷ []

-- RULES 10.8: the promise of `read_pictures`; told are width, height, the sampling's code, the file's count and how many entries were written
pub record Y4mReadingKept (k : ExportedY4mReading) : Type 0 where
  pub reading : Result Y4mReading YuvError
  pub number : k.number ≡ (numbers_of (y4m_outcome reading)).number
  pub told : k.told ≡ y4m_told (y4m_reading_of reading)
  pub read : ReadPost k.file k.first k.entries reading k.entries'

-- ---- `segvartin_call_y4m_write`

-- RULES 10.8
pub record ExportedY4mWriting : Type 0 where
  pub numbers : List ℕ
  pub pictures : List ℕ
  pub output : List ℕ
  pub number : ℕ
  pub told : List ℕ
  pub output' : List ℕ

-- RULES 10.8
abbrev pub exported_y4m_writing : (numbers pictures output : List ℕ) (number : ℕ) (told output' : List ℕ) → ExportedY4mWriting
exported_y4m_writing numbers pictures output number told output' =
    record { numbers = numbers; pictures = pictures; output = output; number = number; told = told; output' = output' }

-- RULES 10.8: width, height, and the sampling's code
abbrev pub width_given : (numbers : List ℕ) → ℕ
width_given numbers = get_or numbers 0 0

abbrev pub height_given : (numbers : List ℕ) → ℕ
height_given numbers = get_or numbers 1 0

abbrev pub sampling_given : (numbers : List ℕ) → ℕ
sampling_given numbers = get_or numbers 2 0

-- RULES 10.8: 19, 16
abbrev pub rules_of_y4m_writing : ExportedY4mWriting → List Rule
rules_of_y4m_writing k =
    write_rules (sampling_given k.numbers) (width_given k.numbers) (height_given k.numbers) k.pictures (length k.output)

-- RULES 10.8: the promise of `write_pictures`; told is the file's size
pub record Y4mWritingKept (k : ExportedY4mWriting) : Type 0 where
  pub written : Result ℕ NotWritten
  pub number : k.number ≡ (numbers_of (outcome_of written)).number
  pub told : k.told ≡ size_of written ∷ []
  pub wrote : WritePost (sampling_given k.numbers) (width_given k.numbers) (height_given k.numbers) k.pictures k.output written k.output'

-- ---- `segvartin_call_y4m_picture`

-- RULES 10.8
pub record ExportedY4mPicture : Type 0 where
  pub numbers : List ℕ
  pub y : List ℕ
  pub u : List ℕ
  pub v : List ℕ
  pub output : List ℕ
  pub number : ℕ
  pub told : List ℕ
  pub output' : List ℕ

-- RULES 10.8
abbrev pub exported_y4m_picture : (numbers y u v output : List ℕ) (number : ℕ) (told output' : List ℕ) → ExportedY4mPicture
exported_y4m_picture numbers y u v output number told output' =
    record { numbers = numbers; y = y; u = u; v = v; output = output; number = number; told = told; output' = output' }

-- RULES 10.8: width, height, the sampling's code, and the strides of Y, U and V
abbrev pub frame_of_picture : (numbers : List ℕ) → PictureFrame
frame_of_picture numbers = record {
  width = width_given numbers;
  height = height_given numbers;
  sampling = sampling_given numbers;
  y_stride = get_or numbers 3 0;
  u_stride = get_or numbers 4 0;
  v_stride = get_or numbers 5 0;
}

-- RULES 10.8: 19, 16
abbrev pub rules_of_y4m_picture : ExportedY4mPicture → List Rule
rules_of_y4m_picture k = picture_rules (frame_of_picture k.numbers) k.y k.u k.v (length k.output)

-- RULES 10.8: the promise of `write_picture`; told is the picture's size
pub record Y4mPictureKept (k : ExportedY4mPicture) : Type 0 where
  pub written : Result ℕ NotWritten
  pub number : k.number ≡ (numbers_of (outcome_of written)).number
  pub told : k.told ≡ size_of written ∷ []
  pub wrote : PicturePost (frame_of_picture k.numbers) k.y k.u k.v k.output written k.output'
