-- What is lent to a row function, and what it leaves there. This serves contracts: the meaning of a row stands in definitions.
-- Assumes nothing.
use Rattle.std.specs.Prelude.{◌≡◌, List, ℕ, ◌+◌, ◌*◌, ◌-◌, ◌≤◌, ◌<◌, min, length, get_or, set}
use Rattle.definitions.specs.declared.FrameDescription.{FrameDescription}
use Rattle.definitions.specs.Painted.{Painted}
use Rattle.definitions.specs.Row.{pixels_of, luma_row, input420, input422, cb_row, cr_row}
use Rattle.definitions.specs.Image.{chroma_size}
use Rattle.pixel_pairs.specs.declared.Block.{Block}

-- ---- what is lent

-- a row of the frame's width, count bytes a pixel
pub record RowOf (d : FrameDescription) (count : ℕ) (row : List ℕ) : Type 0 where
  pub wide : 3 ≤ count
  pub size : d.width * count ≤ length row

pub record ChromaRoom (d : FrameDescription) (u v : List ℕ) : Type 0 where
  pub in_u : chroma_size d ≤ length u
  pub in_v : chroma_size d ≤ length v

-- room for two luma rows, a stride apart
pub record LumaRoom (d : FrameDescription) (y : List ℕ) : Type 0 where
  pub apart : d.width ≤ d.y_stride
  pub size : d.y_stride + d.width ≤ length y

-- rows of count bytes a pixel, and room for their luma
pub record Rows420 (d : FrameDescription) (count : ℕ) (this below y : List ℕ) : Type 0 where
  pub upper_row : RowOf d count this
  pub lower_row : RowOf d count below
  pub luma : LumaRoom d y

pub record Row422 (d : FrameDescription) (count : ℕ) (this y : List ℕ) : Type 0 where
  pub row : RowOf d count this
  pub luma : d.width ≤ length y

-- the same, and room for their chroma
pub record Lent420 (d : FrameDescription) (count : ℕ) (this below y u v : List ℕ) : Type 0 where
  pub rows : Rows420 d count this below y
  pub chroma : ChromaRoom d u v

pub record Lent422 (d : FrameDescription) (count : ℕ) (this y u v : List ℕ) : Type 0 where
  pub row : Row422 d count this y
  pub chroma : ChromaRoom d u v

-- pixel 2j of a row, and the pixel that stands for its right neighbour: an odd last pixel is its own
pub record InRow (d : FrameDescription) (at : Block) : Type 0 where
  pub inside : 2 * at.j < d.width
  pub next : at.next ≡ min (2 * at.j + 1) (d.width - 1)

-- ---- what is left there

-- a row that begins at `start`, with bytes f x and f next at columns x and next
abbrev pub put_pair : (start x next : ℕ) → (ℕ → ℕ) → List ℕ → List ℕ
put_pair start x next f y = set (set y (start + x) (f x)) (start + next) (f next)

-- the lumas of a block, in two rows and in one
abbrev pub put_block420 : FrameDescription → (count : ℕ) → (this below : List ℕ) → Block → List ℕ → List ℕ
put_block420 d count this below b y =
    put_pair d.y_stride (2 * b.j) b.next (luma_row d (pixels_of count below)) (put_pair 0 (2 * b.j) b.next (luma_row d (pixels_of count this)) y)

abbrev pub put_block422 : FrameDescription → (count : ℕ) → (this : List ℕ) → Block → List ℕ → List ℕ
put_block422 d count this b y = put_pair 0 (2 * b.j) b.next (luma_row d (pixels_of count this)) y

-- block j where pixel 2j + 1 is there
abbrev pub block_at : (j : ℕ) → Block
block_at j = record { j = j; next = 2 * j + 1 }

-- `after` is `before` with n bytes f 0, f 1, .. from `upper` on and n bytes g 0, g 1, .. from `lower` on, and no other byte changed
pub record TwoPainted (upper lower n : ℕ) (f g : ℕ → ℕ) (before after : List ℕ) : Type 0 where
  pub size : length after ≡ length before
  pub in_upper : (k : ℕ) → k < n → get_or after (upper + k) 0 ≡ f k
  pub in_lower : (k : ℕ) → k < n → get_or after (lower + k) 0 ≡ g k
  pub other : (p : ℕ) → (upper ≤ p → p < upper + n → ⊥) → (lower ≤ p → p < lower + n → ⊥) → get_or after p 0 ≡ get_or before p 0

-- luma and chroma input of rows of bytes, count bytes a pixel
abbrev pub lumas : FrameDescription → (count : ℕ) → (row : List ℕ) → ℕ → ℕ
lumas d count row = luma_row d (pixels_of count row)

abbrev pub inputs420 : FrameDescription → (count : ℕ) → (row below : List ℕ) → ℕ → ℕ → ℕ
inputs420 d count row below = input420 d (pixels_of count row) (pixels_of count below)

abbrev pub inputs422 : FrameDescription → (count : ℕ) → (row : List ℕ) → ℕ → ℕ → ℕ
inputs422 d count row = input422 d (pixels_of count row)

-- luma of a row, and of two whose luma rows begin a Y stride apart
abbrev pub LumaWritten : FrameDescription → (count : ℕ) → (row y y' : List ℕ) → Type 0
LumaWritten d count row y y' = Painted d.width (lumas d count row) y y'

abbrev pub LumasPainted : FrameDescription → (count : ℕ) → (row below : List ℕ) → (n : ℕ) → (y y' : List ℕ) → Type 0
LumasPainted d count row below n y y' = TwoPainted 0 d.y_stride n (lumas d count row) (lumas d count below) y y'

abbrev pub LumasWritten : FrameDescription → (count : ℕ) → (row below y y' : List ℕ) → Type 0
LumasWritten d count row below y y' = LumasPainted d count row below d.width y y'

-- both chroma rows, as far as their first n bytes
pub record ChromaPainted (d : FrameDescription) (input : ℕ → ℕ → ℕ) (n : ℕ) (u v u' v' : List ℕ) : Type 0 where
  pub cb : Painted n (cb_row d input) u u'
  pub cr : Painted n (cr_row d input) v v'

abbrev pub ChromaWritten : FrameDescription → (input : ℕ → ℕ → ℕ) → (u v u' v' : List ℕ) → Type 0
ChromaWritten d input u v u' v' = ChromaPainted d input (chroma_size d) u v u' v'

-- ---- a step further: what was painted as far as chroma byte i and its pixels is painted as far as j and its pixels

-- luma, where L n says that it is painted as far as pixel n
pub record LumaMore (L : ℕ → List ℕ → List ℕ → Type 0) (d : FrameDescription) (i j : ℕ) (y y' : List ℕ) : Type 0 where
  pub size : length y' ≡ length y
  pub further : (y₀ : List ℕ) → L (min (2 * i) d.width) y₀ y → L (min (2 * j) d.width) y₀ y'

-- chroma of every input of which `Is` holds
pub record ChromaMore (d : FrameDescription) (Is : (ℕ → ℕ → ℕ) → Type 0) (i j : ℕ) (u v u' v' : List ℕ) : Type 0 where
  pub in_u : length u' ≡ length u
  pub in_v : length v' ≡ length v
  pub further : (input : ℕ → ℕ → ℕ) → Is input → (u₀ v₀ : List ℕ) → ChromaPainted d input i u₀ v₀ u v → ChromaPainted d input j u₀ v₀ u' v'

-- both, as far as chroma byte j
pub record Begun (L : ℕ → List ℕ → List ℕ → Type 0) (d : FrameDescription) (input : ℕ → ℕ → ℕ) (j : ℕ) (y u v y' u' v' : List ℕ) : Type 0 where
  pub luma : L (min (2 * j) d.width) y y'
  pub chroma : ChromaPainted d input j u v u' v'

abbrev pub Lumas422 : FrameDescription → (count : ℕ) → (this : List ℕ) → (n : ℕ) → (y y' : List ℕ) → Type 0
Lumas422 d count this n y y' = Painted n (lumas d count this) y y'

abbrev pub Begun420 : FrameDescription → (count : ℕ) → (this below : List ℕ) → (j : ℕ) → (y u v y' u' v' : List ℕ) → Type 0
Begun420 d count this below = Begun (LumasPainted d count this below) d (inputs420 d count this below)

abbrev pub Begun422 : FrameDescription → (count : ℕ) → (this : List ℕ) → (j : ℕ) → (y u v y' u' v' : List ℕ) → Type 0
Begun422 d count this = Begun (Lumas422 d count this) d (inputs422 d count this)

pub record Stepped (B : ℕ → List ℕ → List ℕ → List ℕ → List ℕ → List ℕ → List ℕ → Type 0) (i j : ℕ) (y u v y' u' v' : List ℕ) : Type 0 where
  pub in_y : length y' ≡ length y
  pub in_u : length u' ≡ length u
  pub in_v : length v' ≡ length v
  pub further : (y₀ u₀ v₀ : List ℕ) → B i y₀ u₀ v₀ y u v → B j y₀ u₀ v₀ y' u' v'
