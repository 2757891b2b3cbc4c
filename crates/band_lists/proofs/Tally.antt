-- The tally's rows, and the images that begin with them: an accepted band's rows stand behind those before it.
-- Assumes nothing.
use Prim.Native.Nat.{ℕ, zero, suc, ◌+◌, ◌-◌, ◌≤◌, ◌<◌}
use mathlib.Core.Path.{◌≡◌, refl, sym, ap, ◌∙◌}
use mathlib.Core.List.{List, [], ◌∷◌}
use native.Mathlib.Nat.{mul_comm}
use native.Mathlib.Omega.{arith}
use lib.ListN.{length, get_or, length-append, length-take, length-drop, get_or-append}
use lib.Seq.{get_or-append-add, get_or_at}
use Rattle.definitions.specs.Row.{pixels_of}
use Rattle.definitions.specs.declared.FrameDescription.{FrameDescription}
use Rattle.definitions.specs.Image.{Image, row_bytes, pixel_size, row_size, source_image}
use Rattle.definitions.specs.Bands.{own_rows}
use Rattle.yuv_error.specs.Known.{Sized, Given}
use Rattle.definitions.proofs.Numbers.{row_end, columns_inside}
use Rattle.definitions.proofs.Planes.{below?}
use Rattle.band_calls.specs.BandCall.{state_of, band_of, BandCall}
use Rattle.band_lists.specs.BandLists.{Tally, no_rows, tabulate, counted}

pub length-tabulate : {A : Type 0} (m : ℕ) (f : ℕ → A) → length (tabulate m f) ≡ m
length-tabulate zero f = refl
length-tabulate (suc m) f = length-append (tabulate m f) (f m ∷ []) ∙ omega (arith, length-tabulate m f)

pub get_d_tabulate : {A : Type 0} (m : ℕ) (f : ℕ → A) (i : ℕ) (a : A) → i < m → get_or (tabulate m f) i a ≡ f i
get_d_tabulate zero f i a l = absurd (omega arith)
get_d_tabulate (suc m) f i a l =
    below? i m
    (λ less. get_or-append (tabulate m f) (f m ∷ []) a i (omega (arith, length-tabulate m f)) ∙ get_d_tabulate m f i a less)
    (λ last. let e : m ≡ i = omega arith in get_or_at (tabulate m f) (f m) [] a i (length-tabulate m f ∙ e) ∙ ap f e)

-- the tally has n rows of w pixels, and no more rows than the frame
pub record Fits (d : FrameDescription) (t : Tally) : Type 0 where
  pub most : t.n ≤ d.height
  pub count : length t.rows ≡ t.n
  pub long : (r : ℕ) → r < t.n → length (get_or t.rows r []) ≡ row_size d

pub Fits-none : (d : FrameDescription) → Fits d no_rows
Fits-none d = record { most = omega arith; count = refl; long = λ r l. absurd (omega arith) }

-- the image begins with the tally's rows
abbrev pub Begins : FrameDescription → Tally → Image → Type 0
Begins d t image = (r : ℕ) → r < t.n → image r ≡ pixels_of (pixel_size d) (get_or t.rows r [])

-- row r of a call's own
abbrev row_of : FrameDescription → BandCall → ℕ → List ℕ
row_of d k = row_bytes d k.stride k.source

-- an accepted call's rows behind the tally's
module _ (d : FrameDescription) (t : Tally) (k : BandCall) (fits : Fits d t) where
  row_before : (r : ℕ) → r < t.n → get_or (counted d k t).rows r [] ≡ get_or t.rows r []
  row_before r l = get_or-append t.rows _ [] r (omega (arith, fits.count))

  row_own : (r : ℕ) → t.n ≤ r → r < t.n + k.rows → get_or (counted d k t).rows r [] ≡ row_of d k (r - t.n)
  row_own r l m =
      ap (λ (p : ℕ). get_or (counted d k t).rows p []) (omega (arith, fits.count)) ∙ get_or-append-add t.rows (tabulate k.rows (row_of d k))
      (r - t.n) [] ∙ get_d_tabulate k.rows (row_of d k) (r - t.n) [] (omega arith)

  pub Fits-counted : Sized d → Given (band_of (state_of d t.n) k.rows k.stride) (length k.source) → Fits d (counted d k t)
  unfolding row_bytes
  Fits-counted sized given = record {
    most = given.rows_most;
    count = simp (length-append, length-tabulate) (omega (arith, fits.count));
    long = λ r l. below? r t.n (λ m. ap length (row_before r m) ∙ fits.long r m) (λ m. ap length (row_own r m l) ∙ long (r - t.n) (omega arith));
  }
    where
      long : (r : ℕ) → r < k.rows → length (row_of d k r) ≡ row_size d
      long r l = simp (length-take, length-drop) (omega (
        arith,
        given,
        row_end r k.rows k.stride l,
        mul_comm k.stride k.rows,
        columns_inside d.window.left d.width d.window.source_width (pixel_size d) sized.right,
      ))

  pub Begins-before : {image : Image} → Begins d (counted d k t) image → Begins d t image
  Begins-before begins r l = begins r (omega arith) ∙ ap (pixels_of _) (row_before r l)

  pub Begins-own : {image : Image} → Begins d (counted d k t) image → (r : ℕ) → t.n ≤ r → r < t.n + k.rows
      → own_rows (band_of (state_of d t.n) k.rows k.stride) k.source r ≡ image r
  unfolding own_rows source_image
  Begins-own begins r l m = sym (begins r m ∙ ap (pixels_of _) (row_own r l m))
