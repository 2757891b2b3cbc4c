-- Rows of a band, a step after the other: what each leaves is composed, and the planes keep their sizes, so that the next step has its room.
-- Assumes nothing.
use Prim.Native.Nat.{ℕ, ◌+◌, ◌≤◌}
use mathlib.Core.Path.{◌≡◌, subst, ◌∙◌}
use mathlib.Core.List.{List, []}
use native.Mathlib.Nat.{le_refl}
use native.Mathlib.Omega.{arith}
use lib.ListN.{length}
use Rattle.definitions.specs.declared.FrameDescription.{FrameDescription}
use Rattle.definitions.specs.declared.Band.{Band}
use Rattle.definitions.specs.Image.{Image}
use Rattle.definitions.specs.Bands.{band_image, Sharpened}
use Rattle.definitions.proofs.Bands.{Sharpened-none, Sharpened-then}
use Rattle.yuv_error.specs.Known.{Lent}
use Rattle.band_steps.specs.Steps.{Sees}
use Rattle.band_steps.proofs.Steps.{Sees-own}

-- what is lent, after rows were written
pub Lent-after : {b : Band} {source : ℕ} {d : FrameDescription} {from to : ℕ} {image : Image} {y u v y' u' v' : List ℕ}
    → Sharpened d from to image y u v y' u' v'
    → Lent b source (length y) (length u) (length v) → Lent b source (length y') (length u') (length v')
Lent-after p l =
    let w = l.planes in
    record {
      sized = l.sized;
      given = l.given;
      planes = record {
        y_row = w.y_row;
        y_size = p.luma.size ∙ w.y_size;
        u_row = w.u_row;
        u_size = p.cb.size ∙ w.u_size;
        v_row = w.v_row;
        v_size = p.cr.size ∙ w.v_size;
      };
    }

pub Sharpened-to : {d : FrameDescription} {from to end : ℕ} {image : Image} {y u v y' u' v' : List ℕ} → to ≡ end → Sharpened d from to image y u v y' u' v'
    → Sharpened d from end image y u v y' u' v'
Sharpened-to {d} {from} {image = image} {y} {u} {v} {y'} {u'} {v'} e p = subst (λ (n : ℕ). Sharpened d from n image y u v y' u' v') e p

-- rows `from` up to `row` of a band, for every image that has the band's own rows
pub record Walked (b : Band) (from row : ℕ) (source y u v y' u' v' : List ℕ) : Type 0 where
  pub least : from ≤ row
  pub most : row ≤ b.done + b.rows
  pub sharpened : (image : Image) → Sees b source image → Sharpened b.frame from row image y u v y' u' v'

pub walked_none : (b : Band) (from : ℕ) (source y u v : List ℕ) → from ≤ b.done + b.rows → Walked b from from source y u v y u v
walked_none b from source y u v most = record { least = le_refl from; most = most; sharpened = λ image sees. Sharpened-none b.frame from image y u v }

pub walked_then : {b : Band} {from row next : ℕ} {source y u v y' u' v' y'' u'' v'' : List ℕ} → b.done + b.rows ≤ b.frame.height
    → Walked b from row source y u v y' u' v'
    → row ≤ next → next ≤ b.done + b.rows → ((image : Image) → Sees b source image → Sharpened b.frame row next image y' u' v' y'' u'' v'')
    → Walked b from next source y u v y'' u'' v''
walked_then inside p rise most step =
    record {
      least = omega (arith, p.least);
      most = most;
      sharpened = λ image sees. Sharpened-then p.least rise (omega arith) (p.sharpened image sees)
          (step image sees);
    }

pub Walked-to : {b : Band} {from row next : ℕ} {source y u v y' u' v' : List ℕ} → row ≡ next → Walked b from row source y u v y' u' v'
    → Walked b from next source y u v y' u' v'
Walked-to e p = rw e at p

-- any image serves for the planes' sizes
pub Walked-some : {b : Band} {from row : ℕ} {source y u v y' u' v' : List ℕ} → Walked b from row source y u v y' u' v'
    → Sharpened b.frame from row (band_image b source []) y u v y' u' v'
Walked-some {b} {source = source} p = p.sharpened _ (Sees-own b source [])
