-- The output is painted plane by plane: a plane without padding is a run of bytes, and a run that is put behind those painted so far
-- paints so many more. Assumes nothing.
use Prim.Native.Nat.{ℕ, ◌+◌, ◌*◌, ◌-◌, ◌≤◌, ◌<◌, zero-le}
use mathlib.Core.Path.{◌≡◌, refl, sym, ap, subst, ◌∙◌}
use mathlib.Core.Bool.{Bool, cond}
use mathlib.Core.List.{List}
use native.Mathlib.Nat.{mod-lt, mul_comm, div-lt_iff_lt-mul}
use native.Mathlib.Omega.{arith}
use borrow.Author.Tests.{lt-ltb, le-ltb}
use borrow.Rule.Slice.PartMut.{put_mid}
use lib.ListN.{length, get_or, take, drop, length-take, length-drop, get_or-eq_default}
use Rattle.yuv_support.specs.Sampling.{chroma_width}
use Rattle.definitions.specs.Painted.{Painted}
use Rattle.definitions.proofs.Painted.{painted, Painted-at, Painted-none, Painted-join}
use Rattle.definitions.specs.declared.FrameDescription.{FrameDescription}
use Rattle.definitions.specs.Image.{Image, luma_at, cb_at, cr_at, chroma_rows, finished_of}
use Rattle.definitions.specs.Plane.{PlaneIs}
use Rattle.definitions.specs.Bands.{Sharpened}
use Rattle.definitions.proofs.Planes.{written_in, plane_other, plane_between}
use Rattle.definitions.proofs.Finished.{finished_none, finished_last}
use Rattle.frame_request.specs.Request.{byte_in, output_at, output_size, luma_size, chroma_size}
use Rattle.frame_request.specs.Packed.{Packed}

-- ---- a plane without padding

pub plane_Painted : (rows n : ℕ) (f : ℕ → ℕ → ℕ) (d e : List ℕ) → 1 ≤ n → PlaneIs 0 rows n n f d e → Painted (n * rows) (byte_in f n) d e
plane_Painted rows n f d e some h = painted h.size within past
  where
    within : (p : ℕ) → p < n * rows → get_or e p 0 ≡ byte_in f n p
    within p l =
        let row = (div-lt_iff_lt-mul {k = n} {x = p} {y = rows} some).1 (omega (arith, mul_comm n rows)) in
        h.byte p ∙ ap (λ (b : Bool). cond b (byte_in f n p) (get_or d p 0))
        (written_in 0 rows n n p (record { row_least = zero-le; row_most = row; column = mod-lt p some }))

    past : (p : ℕ) → n * rows ≤ p → get_or e p 0 ≡ get_or d p 0
    past p l = plane_other 0 rows n n f d e h p (λ i. omega (arith, (div-lt_iff_lt-mul {k = n} {x = p} {y = rows} some).0 i.row_most, mul_comm n rows))

chroma_Painted : (d : FrameDescription) (stride n : ℕ) (f : ℕ → ℕ → ℕ) (x x' : List ℕ) → 1 ≤ d.height → 1 ≤ n → stride ≡ n
    → PlaneIs (finished_of d 0) (finished_of d d.height) stride n f x x' → Painted (n * chroma_rows d) (byte_in f n) x x'
chroma_Painted d stride n f x x' tall wide packed p =
    plane_Painted (chroma_rows d) n f x x' wide (subst (λ (m : ℕ). PlaneIs 0 (chroma_rows d) m n f x x') packed
    (plane_between (finished_none d tall) (finished_last d) p))

-- ---- a run of bytes

-- behind the first n, all painted, the bytes of `part`
pub Painted-put : (n m : ℕ) (f : ℕ → ℕ) (d e part : List ℕ) → m ≡ n + length part → m ≤ length e → ((q : ℕ) → q < length part → get_or part q 0 ≡ f (n + q))
    → Painted n f d e → Painted m f d (put_mid n (length part) e part)
Painted-put n m f d e part size room byte p =
    subst (λ (m : ℕ). Painted m f d (put_mid n (length part) e part)) (sym size)
    (Painted-join n (length part) {g = λ q. f (n + q)} {part = part} (omega arith) (λ q l. refl) refl p
    (painted (sym long) byte (λ q l. get_or-eq_default part 0 l ∙ sym (get_or-eq_default (take (length part) (drop n e)) 0 (omega (arith, long))))))
  where
    long : length (take (length part) (drop n e)) ≡ length part
    long = length-take (length part) (drop n e) ∙ omega (arith, length-drop n e)

-- ---- the output

module _ (d : FrameDescription) (image : Image) where
  pub luma_byte : (p : ℕ) → p < luma_size d → output_at d image p ≡ byte_in (luma_at d image) d.width p
  unfolding output_at
  luma_byte p l = rw (lt-ltb p (luma_size d) l)

  pub cb_byte : (q : ℕ) → q < chroma_size d → output_at d image (luma_size d + q) ≡ byte_in (cb_at d image) (chroma_width d.width) q
  unfolding output_at
  cb_byte q l =
      let at : luma_size d + q - luma_size d ≡ q = omega arith in
      rw (le-ltb (luma_size d + q) (luma_size d) (omega arith), lt-ltb (luma_size d + q) (luma_size d + chroma_size d) (omega arith), at)

  pub cr_byte : (q : ℕ) → q < chroma_size d
      → output_at d image (luma_size d + chroma_size d + q) ≡ byte_in (cr_at d image) (chroma_width d.width) q
  unfolding output_at
  cr_byte q l =
      let at : luma_size d + chroma_size d + q - (luma_size d + chroma_size d) ≡ q = omega arith in
      rw (
        le-ltb (luma_size d + chroma_size d + q) (luma_size d) (omega arith),
        le-ltb (luma_size d + chroma_size d + q) (luma_size d + chroma_size d)
            (omega arith),
        at,
      )

-- all three planes, put one behind the other
pub output_Painted : (d : FrameDescription) (image : Image) (output y u v y' u' v' : List ℕ) → Packed d → 49152 ≤ length output
    → length y' ≡ luma_size d → length u' ≡ chroma_size d → length v' ≡ chroma_size d → Sharpened d 0 d.height image y u v y' u' v'
    → Painted (output_size d) (output_at d image) output
    (put_mid (luma_size d + chroma_size d) (length v') (put_mid (luma_size d) (length u') (put_mid 0 (length y') output y') u') v')
output_Painted d image output y u v y' u' v' packed room ysize usize vsize planes = third
  where
    f : ℕ → ℕ
    f = output_at d image

    narrow : 1 ≤ chroma_width d.width
    narrow = omega (arith, packed.width_least)

    luma : Painted (luma_size d) (byte_in (luma_at d image) d.width) y y'
    luma = plane_Painted d.height d.width (luma_at d image) y y' packed.width_least
        (subst (λ (m : ℕ). PlaneIs 0 d.height m d.width (luma_at d image) y y') packed.y_stride planes.luma)

    cb : Painted (chroma_size d) (byte_in (cb_at d image) (chroma_width d.width)) u u'
    cb = chroma_Painted d d.u_stride (chroma_width d.width) _ u u' packed.height_least narrow packed.u_stride planes.cb

    cr : Painted (chroma_size d) (byte_in (cr_at d image) (chroma_width d.width)) v v'
    cr = chroma_Painted d d.v_stride (chroma_width d.width) _ v v' packed.height_least narrow packed.v_stride planes.cr

    first : Painted (luma_size d) f output (put_mid 0 (length y') output y')
    first = Painted-put 0 (luma_size d) f output output y' (omega arith) (omega (arith, packed))
        (λ q l. Painted-at luma q (omega (arith, packed)) ∙ sym (luma_byte d image q (omega (arith, packed))) ∙ ap f (omega arith))
        (Painted-none f output)

    second : Painted (luma_size d + chroma_size d) f output (put_mid (luma_size d) (length u') (put_mid 0 (length y') output y') u')
    second = Painted-put (luma_size d) (luma_size d + chroma_size d) f output (put_mid 0 (length y') output y') u' (omega arith)
        (omega (arith, packed, first.size))
        (λ q l. Painted-at cb q (omega (arith, packed)) ∙ sym (cb_byte d image q (omega (arith, packed))) ∙ ap f (omega (arith, packed)))
        first

    third : Painted (output_size d) f output (put_mid (luma_size d + chroma_size d) (length v')
        (put_mid (luma_size d) (length u') (put_mid 0 (length y') output y') u') v')
    third = Painted-put (luma_size d + chroma_size d) (output_size d) f output (put_mid (luma_size d) (length u') (put_mid 0 (length y') output y') u') v'
        (omega (arith, packed)) (omega (arith, packed, second.size))
        (λ q l. Painted-at cr q (omega (arith, packed)) ∙ sym (cr_byte d image q (omega (arith, packed))) ∙ ap f (omega (arith, packed)))
        second
