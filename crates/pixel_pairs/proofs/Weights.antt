-- What the shape of an accepted matrix gives the pixel arithmetic: no weight is above 8,193, chroma is a byte before it is held, luma is below
-- 2^21 before it is divided, and no hold changes either. The idea: the order of a pixel's bytes only turns a sum of three round, so one law over
-- the weights serves luma, cb and cr.
-- Assumes nothing.
use mathlib.Core.Path.{◌≡◌, refl, sym, ap, ◌∙◌}
use Prim.Native.Nat.{ℕ, zero, suc, ◌+◌, ◌*◌, ◌/◌, ◌≤◌, ◌<◌}
use native.Mathlib.Omega.{arith}
use lib.Dec.{lit<, lit≤}
use lib.IntN.{ℤ, pos, neg_ℤ, nat_abs, ◌+ℤ◌, ◌*ℤ◌, +ℤ_assoc, +ℤ_comm}
use Rattle.yuv_support.specs.declared.YuvSourceChannels.{YuvSourceChannels}
use Rattle.yuv_support.specs.declared.YuvSourceChannels.TheVariants.{Rgb, Rgba, Bgra, Bgr}
use Rattle.yuv_support.specs.Channels.{r_offset, g_offset, b_offset}
use Rattle.yuv_support.specs.declared.YuvRange.{YuvRange}
use Rattle.yuv_support.specs.declared.YuvRange.TheVariants.{Limited, Full}
use Rattle.forward_transform.specs.declared.CbCrForwardTransform.{CbCrForwardTransform}
use Rattle.forward_transform.specs.Shape.{Shape, luma_most, chroma_top}
use Rattle.forward_transform.proofs.Signed.{size_neg}
use Rattle.forward_transform.proofs.Sums.{Floored, luma_sum, cb_sum, cr_sum, luma_bias}
use Rattle.definitions.specs.declared.YuvSettings.{YuvSettings}
use Rattle.definitions.specs.Pixel.{floor_div, weigh, held_between, weights_of, bias_y, cap_uv, luma_of, cb_of, cr_of}
use Rattle.definitions.specs.Row.{of_colour}
use Rattle.definitions.proofs.Pixel.{at_most_is, held_is}
use Rattle.definitions.proofs.SameRows.{offsets}
use Rattle.pixel_pairs.specs.declared.tables.Conversion.{Conversion}
use Rattle.pixel_pairs.specs.Weights.{by_place, cb_weights, cr_weights, Shaped, Converts, InByte, ByteWeights}
use Rattle.pixel_pairs.specs.Tables.{part_of, luma_part}
use Rattle.pixel_pairs.specs.declared.Bytes.{Bytes}
use Rattle.pixel_pairs.specs.Pixels.{AreBytes, first_three, byte_at}
use Rattle.pixel_pairs.proofs.Signed.{kept, read_small}

-- ---- one of three places

pub by_three : (P : ℕ → Type 0) → P 0 → P 1 → P 2 → (i : ℕ) → i < 3 → P i
by_three P p q r zero h = p
by_three P p q r (suc zero) h = q
by_three P p q r (suc (suc zero)) h = r
by_three P p q r (suc (suc (suc i))) h = absurd (omega arith)

-- ---- the order of a pixel's bytes

pub three_same : {p q : ℕ → ℕ} → ((i : ℕ) → i < 3 → p i ≡ q i) → first_three p ≡ first_three q
three_same same = rw (same 0 (lit< tt), same 1 (lit< tt), same 2 (lit< tt))

-- bytes that are a pixel's first three are read as they stand in it
pub colour_read : {b : Bytes} (f : ℕ → ℕ) → b ≡ first_three f → (i : ℕ) → i < 3 → byte_at b i ≡ f i
colour_read {b} f e = by_three (λ i. byte_at b i ≡ f i) (ap (λ (c : Bytes). c.b0) e) (ap (λ (c : Bytes). c.b1) e) (ap (λ (c : Bytes). c.b2) e)

turned : (x y z : ℤ) → x +ℤ y +ℤ z ≡ z +ℤ y +ℤ x
turned x y z = +ℤ_comm (x +ℤ y) z ∙ ap (λ (w : ℤ). z +ℤ w) (+ℤ_comm x y) ∙ sym (+ℤ_assoc z y x)

weigh_turned : (wr wg wb : ℤ) (offset x y z : ℕ) → weigh wb wg wr offset x y z ≡ weigh wr wg wb offset z y x
unfolding weigh
weigh_turned wr wg wb offset x y z =
    ap (λ (w : ℤ). floor_div (w +ℤ pos (offset * 8192 + 4095)) 8192) (turned (pos x *ℤ wb) (pos y *ℤ wg) (pos z *ℤ wr))

-- the weighed bytes of a pixel, by their places
weigh_placed : (channels : YuvSourceChannels) (wr wg wb : ℤ) (offset : ℕ) (f : ℕ → ℕ) → let w = by_place channels wr wg wb in
    weigh w.first w.second w.third offset (f 0) (f 1) (f 2) ≡ weigh wr wg wb offset (f (r_offset channels)) (f (g_offset channels))
    (f (b_offset channels))
weigh_placed Rgb wr wg wb offset f = refl
weigh_placed Rgba wr wg wb offset f = refl
weigh_placed Bgra wr wg wb offset f = weigh_turned wr wg wb offset (f 0) (f 1) (f 2)
weigh_placed Bgr wr wg wb offset f = weigh_turned wr wg wb offset (f 0) (f 1) (f 2)

parts_placed : (channels : YuvSourceChannels) (wr wg wb : ℤ) (start : ℕ) (f : ℕ → ℕ) → let w = by_place channels wr wg wb in
    part_of w start 0 (f 0) + part_of w start 1 (f 1) + part_of w start 2 (f 2)
    ≡ f (r_offset channels) * nat_abs wr + f (g_offset channels) * nat_abs wg + f (b_offset channels) * nat_abs wb + start
parts_placed Rgb wr wg wb start f = omega arith
parts_placed Rgba wr wg wb start f = omega arith
parts_placed Bgra wr wg wb start f = omega arith
parts_placed Bgr wr wg wb start f = omega arith

-- ---- a shape, with its numbers and without

pub shaped : {range : YuvRange} {t : CbCrForwardTransform ℤ} → Shape range t → Shaped range t
shaped s =
    let yr = ap nat_abs s.yr in
    let yg = ap nat_abs s.yg in
    let yb = ap nat_abs s.yb in
    let cb_r = ap nat_abs s.cb_r ∙ size_neg s.cb_r_size in
    let cb_g = ap nat_abs s.cb_g ∙ size_neg s.cb_g_size in
    let cr_g = ap nat_abs s.cr_g ∙ size_neg s.cr_g_size in
    let cr_b = ap nat_abs s.cr_b ∙ size_neg s.cr_b_size in
    record {
      yr = s.yr ∙ ap pos (sym yr);
      yg = s.yg ∙ ap pos (sym yg);
      yb = s.yb ∙ ap pos (sym yb);
      cb_r = s.cb_r ∙ ap (λ n. neg_ℤ (pos n)) (sym cb_r);
      cb_g = s.cb_g ∙ ap (λ n. neg_ℤ (pos n)) (sym cb_g);
      cb_b = s.cb_b;
      cr_r = s.cr_r;
      cr_g = s.cr_g ∙ ap (λ n. neg_ℤ (pos n)) (sym cr_g);
      cr_b = s.cr_b ∙ ap (λ n. neg_ℤ (pos n)) (sym cr_b);
      luma_least_lem = omega (arith, yr, yg, yb, s.luma_least_lem);
      luma_most_lem = omega (arith, yr, yg, yb, s.luma_most_lem);
      cb_least = omega (arith, cb_r, cb_g, s.cb_least);
      cb_most = omega (arith, cb_r, cb_g, s.cb_most);
      cr_least = omega (arith, cr_g, cr_b, s.cr_least);
      cr_most = omega (arith, cr_g, cr_b, s.cr_most);
    }

pub shape_of : {rows : Conversion} → Converts rows → Shape rows.frame.settings.range (weights_of rows.frame.settings)
shape_of {rows} c =
    let s = c.shape in
    let t = weights_of rows.frame.settings in
    record {
      luma_r = nat_abs t.yr;
      luma_g = nat_abs t.yg;
      luma_b = nat_abs t.yb;
      cb_r_size = nat_abs t.cb_r;
      cb_g_size = nat_abs t.cb_g;
      cr_g_size = nat_abs t.cr_g;
      cr_b_size = nat_abs t.cr_b;
      yr = s.yr;
      yg = s.yg;
      yb = s.yb;
      cb_r = s.cb_r;
      cb_g = s.cb_g;
      cb_b = s.cb_b;
      cr_r = s.cr_r;
      cr_g = s.cr_g;
      cr_b = s.cr_b;
      luma_least_lem = s.luma_least_lem;
      luma_most_lem = s.luma_most_lem;
      cb_least = s.cb_least;
      cb_most = s.cb_most;
      cr_least = s.cr_least;
      cr_most = s.cr_most;
    }

-- ---- small weights

pub record Small (wr wg wb : ℤ) : Type 0 where
  pub r : nat_abs wr ≤ 8193
  pub g : nat_abs wg ≤ 8193
  pub b : nat_abs wb ≤ 8193

limits : (range : YuvRange) → (luma_most range ≤ 8193) × (chroma_top range ≤ 4096)
limits Limited = (lit≤ tt, lit≤ tt)
limits Full = (lit≤ tt, lit≤ tt)

positive : {w : ℤ} (n : ℕ) → w ≡ pos n → n ≤ 8193 → nat_abs w ≤ 8193
positive n e h = rw e h

negative : {w : ℤ} (n : ℕ) → w ≡ neg_ℤ (pos n) → n ≤ 8193 → nat_abs w ≤ 8193
negative n e h = rw (e, size_neg n) h

module _ {range : YuvRange} {t : CbCrForwardTransform ℤ} (s : Shape range t) where
  pub luma_Small : Small t.yr t.yg t.yb
  luma_Small =
      let limit = limits range in
      record { r = positive s.luma_r s.yr (omega arith); g = positive s.luma_g s.yg (omega arith); b = positive s.luma_b s.yb (omega arith) }

  pub cb_Small : Small t.cb_r t.cb_g t.cb_b
  cb_Small =
      let limit = limits range in
      record {
        r = negative s.cb_r_size s.cb_r (omega arith);
        g = negative s.cb_g_size s.cb_g (omega arith);
        b = positive (chroma_top range) s.cb_b
            (omega arith);
      }

  pub cr_Small : Small t.cr_r t.cr_g t.cr_b
  cr_Small =
      let limit = limits range in
      record {
        r = positive (chroma_top range) s.cr_r (omega arith);
        g = negative s.cr_g_size s.cr_g (omega arith);
        b = negative s.cr_b_size s.cr_b
            (omega arith);
      }

pub placed_Small : (channels : YuvSourceChannels) {wr wg wb : ℤ} → Small wr wg wb → let w = by_place channels wr wg wb in Small w.first w.second w.third
placed_Small Rgb s = s
placed_Small Rgba s = s
placed_Small Bgra s = record { r = s.b; g = s.g; b = s.r }
placed_Small Bgr s = record { r = s.b; g = s.g; b = s.r }

-- weights that were handed on in 32 bits
pub size_kept : (w : ℤ) {r : ℕ} → nat_abs w ≤ 8193 → r ≡ nat_abs (kept w) → r ≡ nat_abs w
size_kept w h e = e ∙ ap nat_abs (read_small w h)

pub placed_kept : (channels : YuvSourceChannels) {wr wg wb : ℤ} → Small wr wg wb → by_place channels (kept wr) (kept wg) (kept wb) ≡ by_place channels wr wg wb
placed_kept channels {wr} {wg} {wb} s = rw (read_small wr s.r, read_small wg s.g, read_small wb s.b)

-- ---- chroma: whatever the colour, it is a byte, and the hold leaves it as it is

record Held (lo hi : ℕ) (z : ℤ) : Type 0 where
  byte : InByte z
  held : held_between lo hi z ≡ byte.byte

Floored-Held : {lo hi n : ℕ} {z : ℤ} → Floored lo hi n z → Held lo hi (floor_div z 8192)
Floored-Held {lo} {hi} {n} f = record {
  byte = record { byte = n / 8192; is = rw f.is; below = omega (arith, f.below) };
  held = held_is f;
}

abbrev AllHeld : (lo hi : ℕ) → (wr wg wb : ℤ) → Type 0
AllHeld lo hi wr wg wb = (r g b : ℕ) → r < 256 → g < 256 → b < 256 → Held lo hi (weigh wr wg wb 128 r g b)

byte_weights : (channels : YuvSourceChannels) {lo hi : ℕ} {wr wg wb : ℤ} → Small wr wg wb → AllHeld lo hi wr wg wb → ByteWeights (by_place channels wr wg wb)
byte_weights Rgb s all = record { first = s.r; second = s.g; third = s.b; chroma = λ x y z hx hy hz. (all x y z hx hy hz).byte }
byte_weights Rgba s all = record { first = s.r; second = s.g; third = s.b; chroma = λ x y z hx hy hz. (all x y z hx hy hz).byte }
byte_weights Bgra {wr = wr} {wg = wg} {wb = wb} s all =
    record { first = s.b; second = s.g; third = s.r; chroma = λ x y z hx hy hz. rw (weigh_turned wr wg wb 128 x y z) (all z y x hz hy hx).byte }
byte_weights Bgr {wr = wr} {wg = wg} {wb = wb} s all =
    record { first = s.b; second = s.g; third = s.r; chroma = λ x y z hx hy hz. rw (weigh_turned wr wg wb 128 x y z) (all z y x hz hy hx).byte }

-- what was weighed by places is what the definition holds
held_placed : (channels : YuvSourceChannels) {lo hi : ℕ} (wr wg wb : ℤ) → AllHeld lo hi wr wg wb → (f : ℕ → ℕ) → AreBytes f → (v : ℕ)
    → let w = by_place channels wr wg wb in
    pos v ≡ weigh w.first w.second w.third 128 (f 0) (f 1) (f 2)
    → v ≡ held_between lo hi (weigh wr wg wb 128 (f (r_offset channels)) (f (g_offset channels)) (f (b_offset channels)))
held_placed channels wr wg wb all f bytes v e =
    let o = offsets channels in
    let h = all _ _ _ (bytes (r_offset channels) o.0) (bytes (g_offset channels) o.1) (bytes (b_offset channels) o.2) in
    ap nat_abs (e ∙ weigh_placed channels wr wg wb 128 f ∙ h.byte.is) ∙ sym h.held

module _ (s : YuvSettings) (p : Shape s.range (weights_of s)) where
  cb_held : AllHeld (bias_y s) (cap_uv s) (weights_of s).cb_r (weights_of s).cb_g (weights_of s).cb_b
  unfolding weigh
  cb_held r g b hr hg hb = Floored-Held (cb_sum p r g b hr hg hb)

  cr_held : AllHeld (bias_y s) (cap_uv s) (weights_of s).cr_r (weights_of s).cr_g (weights_of s).cr_b
  unfolding weigh
  cr_held r g b hr hg hb = Floored-Held (cr_sum p r g b hr hg hb)

  pub cb_weights_lem : ByteWeights (cb_weights s)
  cb_weights_lem = byte_weights s.channels (cb_Small p) cb_held

  pub cr_weights_lem : ByteWeights (cr_weights s)
  cr_weights_lem = byte_weights s.channels (cr_Small p) cr_held

  module _ (f : ℕ → ℕ) (bytes : AreBytes f) (v : ℕ) where
    pub cb_is : pos v ≡ weigh (cb_weights s).first (cb_weights s).second (cb_weights s).third 128 (f 0) (f 1) (f 2) → v ≡ of_colour s (cb_of s) f
    unfolding cb_of
    cb_is e = held_placed s.channels _ _ _ cb_held f bytes v e

    pub cr_is : pos v ≡ weigh (cr_weights s).first (cr_weights s).second (cr_weights s).third 128 (f 0) (f 1) (f 2) → v ≡ of_colour s (cr_of s) f
    unfolding cr_of
    cr_is e = held_placed s.channels _ _ _ cr_held f bytes v e

-- ---- luma: below 2^21 before it is divided, and the hold leaves it as it is

pub record Luma (n y : ℕ) : Type 0 where
  pub below : n < 2097152
  pub is : n / 8192 ≡ y

pub luma_of_lem : (s : YuvSettings) → Shape s.range (weights_of s) → (f : ℕ → ℕ) → AreBytes f
    → Luma (luma_part s 0 (f 0) + luma_part s 1 (f 1) + luma_part s 2 (f 2)) (of_colour s (luma_of s) f)
unfolding luma_part luma_of weigh
luma_of_lem s p f bytes =
    let channels = s.channels in
    let o = offsets channels in
    let t = weights_of s in
    let r = f (r_offset channels) in
    let g = f (g_offset channels) in
    let b = f (b_offset channels) in
    let sum = luma_sum p r g b (bytes (r_offset channels) o.0) (bytes (g_offset channels) o.1) (bytes (b_offset channels) o.2) in
    let sizes : r * nat_abs t.yr + g * nat_abs t.yg + b * nat_abs t.yb + luma_bias s.range ≡ r * p.luma_r + g * p.luma_g + b * p.luma_b + luma_bias
    s.range = rw (p.yr, p.yg, p.yb) in
    let same = parts_placed channels t.yr t.yg t.yb (luma_bias s.range) f ∙ sizes in
    record { below = rw same sum.below; is = ap (λ (n : ℕ). n / 8192) same ∙ sym (at_most_is sum) }
