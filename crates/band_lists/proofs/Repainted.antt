-- A plane or a row with room for what is to be written can be written: the list of its bytes, one by one.
-- Assumes nothing.
use Prim.Native.Nat.{ℕ, ◌*◌, ◌/◌, ◌%◌, ◌≤◌, ◌<◌}
use mathlib.Core.Path.{◌≡◌, refl, sym, ◌∙◌}
use mathlib.Core.Bool.{Bool, true, false, cond, true≢false}
use mathlib.Core.List.{List}
use native.Mathlib.Nat.{mul_comm, mul-le-mul_right, div-add-mod'}
use native.Mathlib.Omega.{arith}
use borrow.Author.Tests.{ltb-true}
use lib.Dec.{ltb}
use lib.ListN.{length, get_or, get_or-eq_default}
use Rattle.definitions.specs.Painted.{Painted}
use Rattle.definitions.specs.declared.FrameDescription.{FrameDescription}
use Rattle.definitions.specs.Image.{Image, luma_at, cb_at, cr_at, finished_of}
use Rattle.definitions.specs.Plane.{written, PlaneIs}
use Rattle.definitions.specs.Bands.{Sharpened}
use Rattle.yuv_error.specs.Known.{PlanesLent}
use Rattle.definitions.proofs.Numbers.{row_end}
use Rattle.definitions.proofs.Planes.{below?, inside?}
use Rattle.definitions.proofs.Finished.{finished_most}
use Rattle.band_lists.specs.BandLists.{tabulate}
use Rattle.band_lists.proofs.Tally.{length-tabulate, get_d_tabulate}

-- a plane has room for so many rows of n bytes
record Room (rows stride n : ℕ) (plane : List ℕ) : Type 0 where
  row : n ≤ stride
  size : rows * stride ≤ length plane

-- f p where w p, the row's own byte elsewhere
repaint : (w : ℕ → Bool) (f : ℕ → ℕ) → List ℕ → List ℕ
repaint w f row = tabulate (length row) (λ p. cond (w p) (f p) (get_or row p 0))

repaint_size : (w : ℕ → Bool) (f : ℕ → ℕ) (row : List ℕ) → length (repaint w f row) ≡ length row
unfolding repaint
repaint_size w f row = length-tabulate (length row) _

repaint_byte : (w : ℕ → Bool) (f : ℕ → ℕ) (row : List ℕ) → ((p : ℕ) → w p ≡ true → p < length row) → (p : ℕ)
    → get_or (repaint w f row) p 0 ≡ cond (w p) (f p) (get_or row p 0)
unfolding repaint
repaint_byte w f row room p =
    below? p (length row) (λ l. get_d_tabulate (length row) (λ p. cond (w p) (f p) (get_or row p 0)) p 0 l)
    (λ l. get_or-eq_default (repaint w f row) 0 (omega (arith, repaint_size w f row)) ∙ past l (w p) refl)
  where
    past : length row ≤ p → (b : Bool) → w p ≡ b → 0 ≡ cond b (f p) (get_or row p 0)
    past l true e = absurd (let m = room p e in omega arith)
    past l false e = sym (get_or-eq_default row 0 l)

pub can_paint : (n : ℕ) (f : ℕ → ℕ) (row : List ℕ) → n ≤ length row → (row' : List ℕ) × Painted n f row row'
can_paint n f row room = (
  repaint (λ k. ltb k n) f row,
  record {
    size = repaint_size _ _ row;
    byte = repaint_byte (λ k. ltb k n) f row
        (λ p e. let m = ltb-true p n e in omega arith);
  },
)

can_write : (from to stride n : ℕ) (f : ℕ → ℕ → ℕ) (x : List ℕ) → Room to stride n x → (x' : List ℕ) × PlaneIs from to stride n f x x'
can_write from to stride n f x room = (
  repaint (written from to stride n) (λ p. f (p / stride) (p % stride)) x,
  record {
    size = repaint_size _ _ x;
    byte = repaint_byte (written from to stride n) _ x (λ p e. inside? from to stride n p
        (λ i _. omega (arith, room, i, row_end (p / stride) to stride i.row_most, div-add-mod' p stride))
        (λ _ w. absurd (true≢false (sym e ∙ w))));
  },
)

-- a plane of whole rows has room for each number of them
room : {stride rows fewer n : ℕ} {x : List ℕ} → n ≤ stride → length x ≡ stride * rows → fewer ≤ rows → Room fewer stride n x
room {stride} {rows} {fewer} wide exact l = record { row = wide; size = omega (arith, mul-le-mul_right {m = fewer} {n = rows} stride l, mul_comm stride rows) }

pub can_sharpen : {d : FrameDescription} {end : ℕ} {y u v : List ℕ} (done : ℕ) (image : Image) → PlanesLent d (length y) (length u) (length v) → end ≤ d.height
    → (y' : List ℕ) × (u' : List ℕ) × (v' : List ℕ) × Sharpened d done end image y u v y' u' v'
can_sharpen {d} {end} {y} {u} {v} done image w most =
    let rows = finished_most d most in
    let luma = can_write done end _ _ (luma_at d image) y (room w.y_row w.y_size most) in
    let cb = can_write (finished_of d done) _ _ _ (cb_at d image) u (room w.u_row w.u_size rows) in
    let cr = can_write (finished_of d done) _ _ _ (cr_at d image) v (room w.v_row w.v_size rows) in
    (luma.0, cb.0, cr.0, record { luma = luma.1; cb = cb.1; cr = cr.1 })
