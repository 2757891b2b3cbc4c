-- A grey image has grey luma and chroma, and its planes are grey, as far as they are finished.
-- Assumes nothing.
use Prim.Native.Nat.{ℕ, ◌≤◌, ◌<◌}
use mathlib.Core.Path.{◌≡◌, sym, ap, subst, ◌∙◌}
use mathlib.Core.List.{List}
use native.Mathlib.Omega.{arith}
use Rattle.yuv_support.specs.Channels.{r_offset, g_offset, b_offset}
use Rattle.yuv_error.specs.Known.{Sized, PlanesLent}
use Rattle.definitions.specs.declared.YuvSettings.{YuvSettings}
use Rattle.definitions.specs.declared.FrameDescription.{FrameDescription}
use Rattle.definitions.specs.Pixel.{luma_of, cb_of, cr_of}
use Rattle.definitions.specs.Row.{of_colour, luma_row, cb_row, cr_row}
use Rattle.definitions.specs.Image.{Image, chroma_input, luma_at, cb_at, cr_at, chroma_size, finished_of}
use Rattle.definitions.specs.Bands.{Sharpened}
use Rattle.definitions.proofs.Planes.{below?, plane_at}
use Rattle.definitions.proofs.SameImages.{input_Alike}
use Rattle.definitions.proofs.Finished.{finished_none, between}
use Rattle.grey.specs.Grey.{grey_of, GreyPixel, GreyRows, LumaOfGrey, GreyPlanes}
use Rattle.grey.proofs.Pixel.{luma_grey, cb_grey, cr_grey}
use Rattle.grey.proofs.Inputs.{input_byte}

-- a function of r, g, b, of a grey pixel
of_grey : (s : YuvSettings) (f : ℕ → ℕ → ℕ → ℕ) (pixel : ℕ → ℕ) → GreyPixel s pixel → let v = grey_of s pixel in of_colour s f pixel ≡ f v v v
of_grey s f pixel g = rw (g.red, g.blue)

module _ (d : FrameDescription) (n : ℕ) (image : Image) (sized : Sized d) (most : n ≤ d.height) (grey : GreyRows d n image) where
  -- the chroma input of a finished row
  input_grey : (k j : ℕ) → k < finished_of d n → j < chroma_size d → GreyPixel d.settings (chroma_input d.settings.sampling d image k j)
  input_grey k j l m =
      let s = d.settings in
      let none = finished_none d sized.height_least in
      let some : 0 < n = below? 0 n (λ p. p) (λ p. let z : n ≡ 0 = omega arith in absurd (omega (arith, ap (finished_of d) z))) in
      let rows = between s.sampling d.height 0 n k some most (omega arith) l in
      record {
        red = input_Alike d image image s.sampling k j (r_offset s.channels) (g_offset s.channels) m
            (λ x p. (grey _ x rows.first p).red) (λ x p. (grey _ x rows.below_most p).red);
        blue = input_Alike d image image s.sampling k j (b_offset s.channels) (g_offset s.channels) m
            (λ x p. (grey _ x rows.first p).blue) (λ x p. (grey _ x rows.below_most p).blue);
        byte = input_byte d image k j m s.sampling (g_offset s.channels) (λ x p. (grey _ x rows.first p).byte);
      }

  pub luma_at_lem : (r x : ℕ) → r < n → x < d.width → LumaOfGrey d.settings.range (grey_of d.settings (image r x)) (luma_at d image r x)
  unfolding luma_row
  luma_at_lem r x l m =
      let g = grey r x l m in
      subst (LumaOfGrey d.settings.range (grey_of d.settings (image r x))) (sym (of_grey d.settings (luma_of d.settings) (image r x) g))
      (luma_grey d.settings sized.matrix _ g.byte)

  pub cb_at_lem : (k j : ℕ) → k < finished_of d n → j < chroma_size d → cb_at d image k j ≡ 128
  unfolding cb_at cb_row
  cb_at_lem k j l m = let g = input_grey k j l m in of_grey d.settings (cb_of d.settings) _ g ∙ cb_grey d.settings sized.matrix _ g.byte

  pub cr_at_lem : (k j : ℕ) → k < finished_of d n → j < chroma_size d → cr_at d image k j ≡ 128
  unfolding cr_at cr_row
  cr_at_lem k j l m = let g = input_grey k j l m in of_grey d.settings (cr_of d.settings) _ g ∙ cr_grey d.settings sized.matrix _ g.byte

  pub planes_grey : {y u v y' u' v' : List ℕ} {a b c : ℕ} → PlanesLent d a b c → Sharpened d 0 n image y u v y' u' v' → GreyPlanes d n image y' u' v'
  planes_grey lent p =
      let start = finished_none d sized.height_least in
      record {
        luma = λ r x l m. subst (LumaOfGrey d.settings.range (grey_of d.settings (image r x)))
            (sym (plane_at _ _ _ _ _ _ _ lent.y_row p.luma r x (omega arith) l m)) (luma_at_lem r x l m);
        cb = λ k j l m. plane_at _ _ _ _ _ _ _ lent.u_row p.cb k j (omega arith) l m ∙ cb_at_lem k j l m;
        cr = λ k j l m. plane_at _ _ _ _ _ _ _ lent.v_row p.cr k j (omega arith) l m ∙ cr_at_lem k j l m;
      }
