-- The tables of sums, which are made once a call and lent to its rows. This serves contracts: no meaning stands here.
-- Assumes nothing.
use Rattle.std.specs.Prelude.{◌≡◌, List, ℕ, zero, suc, ◌+◌, ◌*◌, ◌<◌, nat_abs, length, get_or}
use Rattle.definitions.specs.declared.YuvSettings.{YuvSettings}
use Rattle.definitions.specs.Pixel.{bias_y}
use Rattle.definitions.specs.Row.{linear}
use Rattle.pixel_pairs.specs.declared.tables.Conversion.{Conversion}
use Rattle.pixel_pairs.specs.declared.tables.Weights.{Weights}
use Rattle.pixel_pairs.specs.Weights.{luma_weights, Converts}

-- the entry of a left pixel's byte, and of a right one's: what it adds to luma, and its linear value
abbrev pub left_entry : (luma linear : ℕ) → ℕ
left_entry luma linear = 17592186044416 * (3 * linear + 2) + luma

abbrev pub right_entry : (luma linear : ℕ) → ℕ
right_entry luma linear = 17592186044416 * linear + 2097152 * luma

-- what byte x at place i of a pixel adds to a sum; the first byte brings what the sum starts from
abbrev pub part_of : Weights → (start i x : ℕ) → ℕ
part_of w start zero x = x * nat_abs w.first + start
part_of w start (suc zero) x = x * nat_abs w.second + 0
part_of w start (suc (suc i)) x = x * nat_abs w.third + 0

-- to luma
unfoldable pub luma_part : YuvSettings → (i x : ℕ) → ℕ
luma_part s i x = part_of (luma_weights s) (bias_y s * 8192 + 4095) i x

-- both tables, as far as their first n places
pub record Places (n : ℕ) (s : YuvSettings) (sums : List ℕ) : Type 0 where
  pub size : length sums ≡ 1536
  pub left : (i x : ℕ) → i < n → x < 256 → get_or sums (256 * i + x) 0 ≡ left_entry (luma_part s i x) (linear s x)
  pub right : (i x : ℕ) → i < n → x < 256 → get_or sums (768 + 256 * i + x) 0 ≡ right_entry (luma_part s i x) (linear s x)

abbrev pub SumTables : YuvSettings → List ℕ → Type 0
SumTables s sums = Places 3 s sums

-- what is worked out once a call for luma: the conversion is the frame's, and so are the tables of sums
pub record Summed (rows : Conversion) (sums : List ℕ) : Type 0 where
  pub converts : Converts rows
  pub tables : SumTables rows.frame.settings sums
