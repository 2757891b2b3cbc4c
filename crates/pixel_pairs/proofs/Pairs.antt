-- What a row function owes to `pair` and `put_luma`, and what it gets of them; and one block more of what is begun.
-- Assumes nothing.
use mathlib.Core.Path.{◌≡◌, refl, ◌∙◌}
use mathlib.Core.List.{List}
use Prim.Native.Nat.{ℕ, ◌+◌, ◌*◌, ◌-◌, ◌<◌, min}
use native.Mathlib.Omega.{arith}
use lib.ListN.{length, set, length-set}
use Rattle.forward_transform.specs.Shape.{Shape}
use Rattle.sharp_gamma.specs.Entry.{TableOf}
use Rattle.definitions.specs.declared.FrameDescription.{FrameDescription}
use Rattle.definitions.specs.Pixel.{weights_of, cb_of, cr_of}
use Rattle.definitions.specs.Row.{Pixels, gamma_of, of_colour, luma_row, cb_row, cr_row, input420, input422}
use Rattle.definitions.specs.Image.{chroma_size}
use Rattle.pixel_pairs.specs.declared.tables.Conversion.{Conversion}
use Rattle.pixel_pairs.specs.declared.Sums.{Sums}
use Rattle.pixel_pairs.specs.declared.Bytes.{Bytes}
use Rattle.pixel_pairs.specs.declared.Block.{Block}
use Rattle.pixel_pairs.specs.Weights.{conversion_of}
use Rattle.pixel_pairs.specs.Tables.{SumTables, Summed}
use Rattle.pixel_pairs.specs.Pixels.{Paired, Light, total, left_luma, right_luma, first_three, byte_at, sixteenths_of, quarters_of, corrected_by, Over}
use Rattle.pixel_pairs.specs.Pixels.{Linears, ColourAt}
use Rattle.pixel_pairs.specs.Rows.{lumas, inputs420, inputs422, RowOf, InRow, Rows420, Row422, put_pair}
use Rattle.pixel_pairs.specs.Rows.{put_block422, block_at}
use Rattle.pixel_pairs.specs.Rows.{LumaWritten, LumasPainted, LumasWritten, Lumas422, ChromaWritten}
use Rattle.pixel_pairs.specs.Rows.{LumaMore, ChromaMore, Begun, Begun420, Begun422, Stepped}
use Rattle.definitions.proofs.Painted.{Painted-more}
use Rattle.definitions.proofs.SameRows.{colour_same}
use Rattle.pixel_pairs.proofs.TwoRows.{two_to, two_pairs, Painted-to, Painted-pair, length_as}
use Rattle.pixel_pairs.proofs.Weights.{shaped, shape_of, three_same, colour_read}
use Rattle.pixel_pairs.proofs.TableSums.{in_row, light, total_fits, lumas_are, over, linears420, mixed420, linears422, mixed422}

-- the tables of a frame, as its luma asks for them
pub summed_of : (d : FrameDescription) {rows : Conversion} {sums : List ℕ} → Shape d.settings.range (weights_of d.settings) → rows ≡ conversion_of d
    → SumTables d.settings sums → Summed rows sums
summed_of d shape e tables = rw e (record { converts = record { cb = refl; cr = refl; shape = shaped shape }; tables = tables })

pub pair_inside : {d : FrameDescription} {count : ℕ} {row : List ℕ} → RowOf d count row → (x next : ℕ) → x < d.width → next < d.width
    → (x * count + 2 < length row) × (next * count + 2 < length row)
pair_inside r x next hx hn = (in_row r x hx, in_row r next hn)

module _ {rows : Conversion} {sums : List ℕ} (summed : Summed rows sums) where
  pub light_ready : Light sums
  light_ready = light rows.frame.settings (shape_of summed.converts) summed.tables

  module _ (row : Pixels) (x next : ℕ) {t : Sums} (q : Paired sums (row x) (row next) t) where
    pub fits_ready : total t < 18446744073709551616
    fits_ready = total_fits rows.frame.settings (shape_of summed.converts) summed.tables q

    pub lumas_is : (left_luma t ≡ luma_row rows.frame row x) × (right_luma t ≡ luma_row rows.frame row next)
    unfolding luma_row
    lumas_is = lumas_are rows.frame.settings (shape_of summed.converts) summed.tables q

-- ---- chroma

module _ {rows : Conversion} {sums gamma : List ℕ} (summed : Summed rows sums) (corrects : TableOf 65536 (gamma_of rows.frame.settings) gamma)
    (j next : ℕ) (inside : 2 * j < rows.frame.width) (is : next ≡ min (2 * j + 1) (rows.frame.width - 1)) where
  -- of a pair over another
  module _ (row below : Pixels) {a b : Sums} (q : Paired sums (row (2 * j)) (row next) a) (r : Paired sums (below (2 * j)) (below next) b) where
    pub Over-ready : Over a b
    Over-ready = over rows.frame (shape_of summed.converts) summed.tables corrects j next inside is row below q r

    pub linears420_ready : {l : Sums} → l ≡ sixteenths_of a b → Linears l
    linears420_ready e = rw e (linears420 rows.frame (shape_of summed.converts) summed.tables corrects j next inside is row below q r)

    pub colour420_is : {l : Sums} {c : Bytes} → l ≡ sixteenths_of a b → c ≡ first_three (corrected_by gamma l)
        → c ≡ first_three (input420 rows.frame row below j)
    colour420_is e f =
        rw e at f ∙ three_same (mixed420 rows.frame (shape_of summed.converts) summed.tables corrects j next inside is row below q r)

  -- of a pair alone
  module _ (row : Pixels) {a : Sums} (q : Paired sums (row (2 * j)) (row next) a) (right : next ≡ 2 * j + 1) where
    pub linears422_ready : {l : Sums} → l ≡ quarters_of a → Linears l
    linears422_ready e = rw e (linears422 rows.frame (shape_of summed.converts) summed.tables corrects j next inside is row q right)

    pub colour422_is : {l : Sums} {c : Bytes} → l ≡ quarters_of a → c ≡ first_three (corrected_by gamma l) → c ≡ first_three (input422 rows.frame row j)
    colour422_is e f =
        rw e at f ∙ three_same (mixed422 rows.frame (shape_of summed.converts) summed.tables corrects j next inside is row q right)

-- ---- chroma rows

-- a byte more of each
pub chroma_more : (d : FrameDescription) (b : Bytes) (j : ℕ) {u v : List ℕ} {cb cr : ℕ} → j < length u → j < length v
    → cb ≡ of_colour d.settings (cb_of d.settings) (byte_at b)
    → cr ≡ of_colour d.settings (cr_of d.settings) (byte_at b) → ChromaMore d (λ input. ColourAt input j b) j (j + 1) u v (set u j cb) (set v j cr)
unfolding cb_row cr_row
chroma_more d b j {u} {v} {cb} {cr} hu hv eb er = record {
  in_u = length-set u j cb;
  in_v = length-set v j cr;
  further = λ input is u₀ v₀ p.
      let same = colour_read (input j) is in
      record {
        cb = Painted-more cb hu (eb ∙ colour_same d.settings (cb_of d.settings) _ _ same) p.cb;
        cr = Painted-more cr hv (er ∙ colour_same d.settings (cr_of d.settings) _ _ same) p.cr;
      };
}

-- and another
pub chroma_both : {d : FrameDescription} {b c : Bytes} {j : ℕ} {u v u₁ v₁ u₂ v₂ : List ℕ} → ChromaMore d (λ input. ColourAt input j b) j (j + 1) u v u₁ v₁
    → ChromaMore d (λ input. ColourAt input (j + 1) c) (j + 1) (j + 1 + 1) u₁ v₁ u₂ v₂
    → ChromaMore d (λ input. ColourAt input j b × ColourAt input (j + 1) c) j (j + 2) u v u₂ v₂
chroma_both {j = j} p q =
    let two : j + 1 + 1 ≡ j + 2 = omega arith in
    record {
      in_u = q.in_u ∙ p.in_u;
      in_v = q.in_v ∙ p.in_v;
      further = λ input is u₀ v₀ r. rw two at
          (q.further input is.1 u₀ v₀ (p.further input is.0 u₀ v₀ r));
    }

-- ---- luma rows

-- a block more: of both rows of 4:2:0, and of the row of 4:2:2
module _ (d : FrameDescription) (count : ℕ) {block : Block} (in_row : InRow d block) where
  pub luma420_more : {this below y y' : List ℕ} → Rows420 d count this below y
      → y' ≡ put_pair d.y_stride (2 * block.j) block.next (lumas d count below) (put_pair 0 (2 * block.j) block.next (lumas d count this) y)
      → LumaMore (LumasPainted d count this below) d block.j (block.j + 1) y y'
  luma420_more {y = y} rows e = record {
    size = length_as y e (simp length-set);
    further = λ y₀ p.
        rw e (two_to (omega (arith, in_row.inside, in_row.next))
        (two_pairs in_row.inside in_row.next (omega (arith, rows.luma.apart, in_row.inside)) (omega (arith, rows.luma.size))
        (two_to (omega (arith, in_row.inside)) p)));
  }

  pub luma422_more : {this y y' : List ℕ} {a b : ℕ} → Row422 d count this y → a ≡ lumas d count this (2 * block.j) → b ≡ lumas d count this block.next
      → y' ≡ set (set y (0 + 2 * block.j) a) (0 + block.next) b → LumaMore (Lumas422 d count this) d block.j (block.j + 1) y y'
  luma422_more {y = y} row ea eb e = record {
    size = length_as y e (simp length-set);
    further = λ y₀ p.
        rw (e, ea, eb) (Painted-to (omega (arith, in_row.inside, in_row.next))
        (Painted-pair in_row.inside in_row.next row.luma (Painted-to (omega (arith, in_row.inside)) p)));
  }

-- the lumas of a block, by their values
pub block_put : (d : FrameDescription) (count : ℕ) (j : ℕ) {this y y' : List ℕ} {a b : ℕ} → Row422 d count this y → a ≡ lumas d count this (2 * j)
    → b ≡ lumas d count this (2 * j + 1) → y' ≡ set (set y (0 + 2 * j) a) (0 + (2 * j + 1)) b → y' ≡ put_block422 d count this (block_at j) y
block_put d count j room ea eb e = e ∙ rw (ea, eb)

-- and another
pub luma_both : (L : ℕ → List ℕ → List ℕ → Type 0) (d : FrameDescription) (j : ℕ) {y y₁ y₂ : List ℕ} → LumaMore L d j (j + 1) y y₁
    → LumaMore L d (j + 1) (j + 1 + 1) y₁ y₂
    → LumaMore L d j (j + 2) y y₂
luma_both L d j p q =
    let two : j + 1 + 1 ≡ j + 2 = omega arith in
    record { size = q.size ∙ p.size; further = λ y₀ r. rw two at (q.further y₀ (p.further y₀ r)) }

pub rows_room : {d : FrameDescription} {count : ℕ} {this below y : List ℕ} (y₀ : List ℕ) → length y ≡ length y₀ → Rows420 d count this below y₀
    → Rows420 d count this below y
rows_room y₀ e room =
    record { upper_row = room.upper_row; lower_row = room.lower_row; luma = record { apart = room.luma.apart; size = rw e room.luma.size } }

pub row_room : {d : FrameDescription} {count : ℕ} {this y : List ℕ} (y₀ : List ℕ) → length y ≡ length y₀ → Row422 d count this y₀ → Row422 d count this y
row_room y₀ e room = record { row = room.row; luma = rw e room.luma }

-- ---- both

-- the blocks of four pixels that are all there
pub four_InRow : (d : FrameDescription) (j : ℕ) → 2 * j + 3 < d.width
    → InRow d (record { j = j; next = 2 * j + 1 }) × InRow d (record { j = j + 1; next = 2 * (j + 1) + 1 })
four_InRow d j h = (record { inside = omega arith; next = omega arith }, record { inside = omega arith; next = omega arith })

module _ (L : ℕ → List ℕ → List ℕ → Type 0) (d : FrameDescription) (input : ℕ → ℕ → ℕ) where
  pub begun_to : {i j : ℕ} {y₀ u₀ v₀ y u v : List ℕ} → i ≡ j → Begun L d input i y₀ u₀ v₀ y u v → Begun L d input j y₀ u₀ v₀ y u v
  begun_to e p = rw e at p

  module _ {Is : (ℕ → ℕ → ℕ) → Type 0} {j k : ℕ} {y u v y' u' v' : List ℕ} (luma : LumaMore L d j k y y') (chroma : ChromaMore d Is j k u v u' v')
      (is : Is input) where
    pub begun_more : {y₀ u₀ v₀ : List ℕ} → Begun L d input j y₀ u₀ v₀ y u v → Begun L d input k y₀ u₀ v₀ y' u' v'
    begun_more {y₀} {u₀} {v₀} p = record { luma = luma.further y₀ p.luma; chroma = chroma.further input is u₀ v₀ p.chroma }

    pub Stepped-more : {i : ℕ} {y₀ u₀ v₀ : List ℕ} → Stepped (Begun L d input) i j y₀ u₀ v₀ y u v → Stepped (Begun L d input) i k y₀ u₀ v₀ y' u' v'
    Stepped-more s = record {
      in_y = luma.size ∙ s.in_y;
      in_u = chroma.in_u ∙ s.in_u;
      in_v = chroma.in_v ∙ s.in_v;
      further = λ _ _ _ p. begun_more (s.further _ _ _ p);
    }

-- ---- all of it

module _ {d : FrameDescription} {y u v y' u' v' : List ℕ} where
  pub written420 : (count : ℕ) (this below : List ℕ) → Begun420 d count this below (chroma_size d) y u v y' u' v'
      → LumasWritten d count this below y y' × ChromaWritten d (inputs420 d count this below) u v u' v'
  written420 count this below p = (two_to (omega arith) p.luma, p.chroma)

  pub written422 : (count : ℕ) (this : List ℕ) → Begun422 d count this (chroma_size d) y u v y' u' v'
      → LumaWritten d count this y y' × ChromaWritten d (inputs422 d count this) u v u' v'
  written422 count this p = (Painted-to (omega arith) p.luma, p.chroma)
