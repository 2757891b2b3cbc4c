-- The planes of a shape without their padding: how many bytes they are, and that they are put one after the other. Assumes nothing.
use Prim.Native.Nat.{ℕ, ◌+◌, ◌*◌}
use mathlib.Core.Path.{◌≡◌, sym}
use mathlib.Core.List.{List, ◌++◌}
use native.Mathlib.Omega.{arith}
use lib.ListN.{length, length-append}
use lib.Seq.{sets}
use Rattle.yuv_support.specs.Sampling.{chroma_width, chroma_height}
use Rattle.yuv_error.specs.declared.PlaneShape.{PlaneShape}
use Rattle.yuv_error.specs.Known.{PlanesWhole}
use Rattle.little_endian.proofs.Stores.{sets-append}
use Rattle.shift_record.specs.Record.{unpadded, unpadded_planes}
use Rattle.shift_record.proofs.Rows.{length-unpadded}

module _ (s : PlaneShape) (y u v : List ℕ) where
  abbrev Whole : Type 0
  Whole = PlanesWhole s (length y) (length u) (length v)

  abbrev cw : ℕ
  cw = chroma_width s.width

  abbrev ch : ℕ
  ch = chroma_height s.sampling s.height

  abbrev luma : List ℕ
  luma = unpadded s.width s.y_stride s.height y

  abbrev cb : List ℕ
  cb = unpadded cw s.u_stride ch u

  abbrev cr : List ℕ
  cr = unpadded cw s.v_stride ch v

  pub length-y : Whole → length luma ≡ s.width * s.height
  length-y p = length-unpadded _ _ p.y_rows.wide s.height y (omega (arith, p.y_rows.exact))

  pub length-u : Whole → length cb ≡ cw * ch
  length-u p = length-unpadded _ _ p.u_rows.wide ch u (omega (arith, p.u_rows.exact))

  pub length-v : Whole → length cr ≡ cw * ch
  length-v p = length-unpadded _ _ p.v_rows.wide ch v (omega (arith, p.v_rows.exact))

  pub length-planes : Whole → length (unpadded_planes s y u v) ≡ s.width * s.height + 2 * (cw * ch)
  unfolding unpadded_planes
  length-planes p = simp length-append (omega (arith, length-y p, length-u p, length-v p))

  pub planes_put : Whole → (d : List ℕ) (at u_at v_at : ℕ) → u_at ≡ at + s.width * s.height → v_at ≡ u_at + cw * ch
      → sets (sets (sets d at luma) u_at cb) v_at cr ≡ sets d at (unpadded_planes s y u v)
  unfolding unpadded_planes
  planes_put p d at u_at v_at ue ve =
      let u_is : at + length luma ≡ u_at = rw (length-y p) (sym ue) in
      let v_is : u_at + length cb ≡ v_at = rw (length-u p) (sym ve) in
      rw (sets-append luma (cb ++ cr) d at, u_is, sets-append cb cr (sets d at luma) u_at, v_is)
