-- What a band sees and leaves: its own rows, and the carried row above them; nothing, when it takes no row; one band after another; and for a band
-- that is the whole frame, its source.
-- Assumes nothing.
use Prim.Native.Nat.{ℕ, ◌-◌, ◌≤◌, ◌<◌}
use mathlib.Core.Path.{◌≡◌, sym, ap, fun_ext, ◌∙◌}
use mathlib.Core.Bool.{Bool, cond}
use mathlib.Core.List.{List}
use native.Mathlib.Nat.{le_refl}
use native.Mathlib.Omega.{arith}
use borrow.Author.Tests.{lt-ltb, le-ltb}
use Rattle.definitions.specs.declared.FrameDescription.{FrameDescription}
use Rattle.definitions.specs.declared.Band.{Band}
use Rattle.definitions.specs.Row.{pixels_of}
use Rattle.definitions.specs.Image.{Image, source_image}
use Rattle.definitions.specs.Bands.{own_rows, band_image, Sharpened}
use Rattle.definitions.proofs.Planes.{plane_none, plane_then}
use Rattle.definitions.proofs.Finished.{finished_rise}

module _ (b : Band) (source carried : List ℕ) where
  pub band_own_rows : (i : ℕ) → b.done ≤ i → own_rows b source i ≡ band_image b source carried i
  unfolding band_image
  band_own_rows i h = sym (ap (λ (t : Bool). cond t (pixels_of 3 carried) (own_rows b source i)) (le-ltb i b.done h))

  pub band_carried : (i : ℕ) → i < b.done → pixels_of 3 carried ≡ band_image b source carried i
  unfolding band_image
  band_carried i h = sym (ap (λ (t : Bool). cond t (pixels_of 3 carried) (own_rows b source i)) (lt-ltb i b.done h))

  -- with no row done, a band's own rows are those of its source, and nothing is above them
  pub all_rows_image : b.done ≡ 0 → band_image b source carried ≡ source_image b.frame b.stride source
  unfolding own_rows
  all_rows_image first =
      fun_ext (λ r. sym (band_own_rows r (omega arith)) ∙ ap (source_image b.frame b.stride source) (let e : r - b.done ≡ r = omega arith in e))

pub Sharpened-none : (d : FrameDescription) (done : ℕ) (image : Image) (y u v : List ℕ) → Sharpened d done done image y u v y u v
Sharpened-none d done image y u v = record {
  luma = plane_none _ _ _ _ _ _ (le_refl _);
  cb = plane_none _ _ _ _ _ _ (le_refl _);
  cr = plane_none _ _ _ _ _ _
      (le_refl _);
}

-- one band after another
pub Sharpened-then : {d : FrameDescription} {start done end : ℕ} {image : Image} {y u v y' u' v' y'' u'' v'' : List ℕ} → start ≤ done → done ≤ end
    → end ≤ d.height
    → Sharpened d start done image y u v y' u' v' → Sharpened d done end image y' u' v' y'' u'' v'' → Sharpened d start end image y u v y'' u'' v''
Sharpened-then {d} l m n p q =
    let before = finished_rise d l (omega arith) in
    let after = finished_rise d m n in
    record {
      luma = plane_then _ _ _ _ _ _ _ _ _ l m p.luma q.luma;
      cb = plane_then _ _ _ _ _ _ _ _ _ before after p.cb q.cb;
      cr = plane_then _ _ _ _ _ _ _ _ _ before after p.cr q.cr;
    }
