-- A frame of one colour, each channel of which is 0 or 255, has that colour's luma and chroma in every byte: interpolating a constant gives it
-- back, and both tables keep their ends.
-- Assumes nothing.
use Prim.Native.Nat.{ℕ, ◌+◌, ◌*◌, ◌-◌, ◌/◌, ◌<◌, min}
use mathlib.Core.Path.{◌≡◌, sym, ap, ◌∙◌}
use mathlib.Core.Logic.{◌⊎◌, inl, inr}
use native.Mathlib.Omega.{arith}
use Rattle.yuv_support.specs.declared.YuvChromaSubsampling.{YuvChromaSubsampling}
use Rattle.yuv_support.specs.declared.YuvChromaSubsampling.TheVariants.{Yuv420, Yuv422}
use Rattle.yuv_support.specs.Channels.{r_offset, g_offset, b_offset}
use Rattle.yuv_support.specs.Sampling.{chroma_height}
use Rattle.sharp_gamma.proofs.Worked.{ends}
use Rattle.definitions.specs.declared.YuvSettings.{YuvSettings}
use Rattle.definitions.specs.declared.FrameDescription.{FrameDescription}
use Rattle.definitions.specs.Pixel.{luma_of, cb_of, cr_of}
use Rattle.definitions.specs.Row.{Pixels, linear, gamma_of, corrected, of_colour, luma_row, input420, input422, cb_row, cr_row}
use Rattle.definitions.proofs.Inputs.{input420_pair, input420_last, input422_pair, input422_last}
use Rattle.definitions.specs.Image.{Image, luma_at, chroma_input, cb_at, cr_at, chroma_size, chroma_rows}
use Rattle.definitions.proofs.Planes.{below?}

abbrev pub End : ℕ → Type 0
End v = (v ≡ 0) ⊎ (v ≡ 255)

-- sixteen sixteenths of an end, through both tables
back : (s : YuvSettings) (v sum : ℕ) → End v → sum ≡ 16 * linear s v → corrected s sum ≡ v
back s v sum (inl e) h =
    let t = ends s.transfer s.rounding in
    ap (λ (n : ℕ). gamma_of s ((n + 8) / 16)) (h ∙ ap (λ (v : ℕ). 16 * linear s v) e ∙ ap (λ (n : ℕ). 16 * n) t.linear_0) ∙ t.gamma_0 ∙ sym e
back s v sum (inr e) h =
    let t = ends s.transfer s.rounding in
    ap (λ (n : ℕ). gamma_of s ((n + 8) / 16)) (h ∙ ap (λ (v : ℕ). 16 * linear s v) e ∙ ap (λ (n : ℕ). 16 * n) t.linear_255)
    ∙ t.gamma_65535 ∙ sym e

module _ (d : FrameDescription) (row below : Pixels) (j i v : ℕ) (end : End v) (wide : 2 * j < d.width)
    (this : (x : ℕ) → x < d.width → row x i ≡ v) (under : (x : ℕ) → x < d.width → below x i ≡ v) where
  abbrev s : YuvSettings
  s = d.settings

  lin : (p : Pixels) → ((x : ℕ) → x < d.width → p x i ≡ v) → (x : ℕ) → x < d.width → linear s (p x i) ≡ linear s v
  lin p h x l = ap (linear s) (h x l)

  flat420 : input420 d row below j i ≡ v
  flat420 = below? (2 * j + 1) d.width
      (λ l. sym (input420_pair d row below j i l) ∙ back s v _ end (omega (
        arith,
        lin row this (2 * j) wide,
        lin row this (2 * j + 1) l,
        lin below under
            (2 * j) wide,
        lin below under (2 * j + 1) l,
      )))
      (λ l. sym (input420_last d row below j i l) ∙ back s v _ end (omega (arith, lin row this (2 * j) wide, lin below under (2 * j) wide)))

  flat422 : input422 d row j i ≡ v
  flat422 = below? (2 * j + 1) d.width
      (λ l. sym (input422_pair d row j i l) ∙ back s v _ end (omega (arith, lin row this (2 * j) wide, lin row this (2 * j + 1) l)))
      (λ l. sym (input422_last d row j i l) ∙ this (2 * j) wide)

-- every pixel of the frame has the colour r, g, b
pub record OneColour (d : FrameDescription) (image : Image) (r g b : ℕ) : Type 0 where
  pub red : (y x : ℕ) → y < d.height → x < d.width → image y x (r_offset d.settings.channels) ≡ r
  pub green : (y x : ℕ) → y < d.height → x < d.width → image y x (g_offset d.settings.channels) ≡ g
  pub blue : (y x : ℕ) → y < d.height → x < d.width → image y x (b_offset d.settings.channels) ≡ b

flat_input : (m : YuvChromaSubsampling) (d : FrameDescription) (image : Image) (k j i v : ℕ) → End v → k < chroma_height m d.height → j < chroma_size d
    → ((y x : ℕ) → y < d.height → x < d.width → image y x i ≡ v) → chroma_input m d image k j i ≡ v
flat_input Yuv420 d image k j i v end a b same =
    flat420 d (image (2 * k)) (image (min (2 * k + 1) (d.height - 1))) j i v end (omega arith) (λ x. same (2 * k) x (omega arith))
    (λ x. same (min (2 * k + 1) (d.height - 1)) x (omega arith))
flat_input Yuv422 d image k j i v end a b same =
    flat422 d (image k) (image k) j i v end (omega arith) (λ x. same k x a) (λ x. same k x a)

-- three bytes of a colour, put into a function of r, g, b
colour : (f : ℕ → ℕ → ℕ → ℕ) (r g b r' g' b' : ℕ) → r ≡ r' → g ≡ g' → b ≡ b' → f r g b ≡ f r' g' b'
colour f r g b r' g' b' p q u = ap (λ (x : ℕ). f x g b) p ∙ ap (λ (x : ℕ). f r' x b) q ∙ ap (f r' g') u

-- the bytes of a frame of one colour
pub record FlatFrame (d : FrameDescription) (image : Image) (y u v : ℕ) : Type 0 where
  pub luma : (r x : ℕ) → r < d.height → x < d.width → luma_at d image r x ≡ y
  pub cb : (k j : ℕ) → k < chroma_rows d → j < chroma_size d → cb_at d image k j ≡ u
  pub cr : (k j : ℕ) → k < chroma_rows d → j < chroma_size d → cr_at d image k j ≡ v

pub flat_frame : (d : FrameDescription) (image : Image) (r g b : ℕ) → End r → End g → End b → OneColour d image r g b → let s = d.settings in
    FlatFrame d image (luma_of s r g b) (cb_of s r g b) (cr_of s r g b)
unfolding luma_row cb_at cr_at cb_row cr_row
flat_frame d image r g b er eg eb one = record {
  luma = λ y x a c. colour (luma_of d.settings) _ _ _ r g b (one.red y x a c) (one.green y x a c) (one.blue y x a c);
  cb = λ k j a c. chroma (cb_of d.settings) k j a c;
  cr = λ k j a c. chroma (cr_of d.settings) k j a c;
}
  where
    chroma : (f : ℕ → ℕ → ℕ → ℕ) (k j : ℕ) → k < chroma_rows d → j < chroma_size d
        → of_colour d.settings f (chroma_input d.settings.sampling d image k j) ≡ f r g b
    chroma f k j a c =
        let m = d.settings.sampling in
        colour f _ _ _ r g b (flat_input m d image k j _ r er a c one.red) (flat_input m d image k j _ g eg a c one.green)
        (flat_input m d image k j _ b eb a c one.blue)
