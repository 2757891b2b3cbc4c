-- The weights of a matrix in a range: RULES 4.1, 4.3. Five matrices take the stored 13-bit sets named `.._8_13PREC` of `built_coefficients.rs`,
-- ten in all; Fcc and every Custom(kr, kb) go through `get_forward_transform` and `to_integers`.
-- Assumes nothing.
use Rattle.std.specs.Prelude.{ℕ, ℤ, pos, neg_ℤ, Option, Some, None}
use Rattle.yuv_support.specs.declared.YuvRange.{YuvRange}
use Rattle.yuv_support.specs.declared.YuvRange.TheVariants.{Limited, Full}
use Rattle.yuv_support.specs.declared.YuvBias.{YuvBias}
use Rattle.yuv_support.specs.declared.YuvStandardMatrix.{YuvStandardMatrix}
use Rattle.yuv_support.specs.declared.YuvStandardMatrix.TheVariants.{Bt601, Bt709, Bt2020, Smpte240, Bt470_6, Fcc, Custom}
use Rattle.yuv_support.specs.Matrix.{kr_kb}
use Rattle.forward_transform.specs.declared.CbCrForwardTransform.{CbCrForwardTransform}
use Rattle.forward_transform.specs.Transform.{computed_weights}

-- ---- the ten sets: bt601_limited is FORWARD_BT601_LIMITED_8_13PREC, and so on
-- RULES 4.1: yr yg yb, cb_r cb_g cb_b, cr_r cr_g cr_b
abbrev pub set : ℤ → ℤ → ℤ → ℤ → ℤ → ℤ → ℤ → ℤ → ℤ → CbCrForwardTransform ℤ
set yr yg yb cbr cbg cbb crr crg crb = record {
  yr = yr;
  yg = yg;
  yb = yb;
  cb_r = cbr;
  cb_g = cbg;
  cb_b = cbb;
  cr_r = crr;
  cr_g = crg;
  cr_b = crb;
}

abbrev pub minus : ℕ → ℤ
minus n = neg_ℤ (pos n)

-- RULES 4.1: the ten rows of its table, from here on
abbrev pub bt601_limited : CbCrForwardTransform ℤ
bt601_limited = set (pos 2104) (pos 4130) (pos 802) (minus 1214) (minus 2384) (pos 3598) (pos 3598) (minus 3013) (minus 585)

abbrev pub bt601_full : CbCrForwardTransform ℤ
bt601_full = set (pos 2449) (pos 4809) (pos 934) (minus 1382) (minus 2714) (pos 4096) (pos 4096) (minus 3430) (minus 666)

abbrev pub bt709_limited : CbCrForwardTransform ℤ
bt709_limited = set (pos 1496) (pos 5032) (pos 508) (minus 824) (minus 2774) (pos 3598) (pos 3598) (minus 3268) (minus 330)

abbrev pub bt709_full : CbCrForwardTransform ℤ
bt709_full = set (pos 1742) (pos 5859) (pos 591) (minus 939) (minus 3157) (pos 4096) (pos 4096) (minus 3720) (minus 376)

abbrev pub bt2020_limited : CbCrForwardTransform ℤ
bt2020_limited = set (pos 1848) (pos 4770) (pos 417) (minus 1005) (minus 2593) (pos 3598) (pos 3598) (minus 3309) (minus 289)

abbrev pub bt2020_full : CbCrForwardTransform ℤ
bt2020_full = set (pos 2152) (pos 5554) (pos 486) (minus 1144) (minus 2952) (pos 4096) (pos 4096) (minus 3767) (minus 329)

abbrev pub smpte240_limited : CbCrForwardTransform ℤ
smpte240_limited = set (pos 612) (pos 4932) (pos 1492) (minus 397) (minus 3201) (pos 3598) (pos 3598) (minus 2763) (minus 835)

abbrev pub smpte240_full : CbCrForwardTransform ℤ
smpte240_full = set (pos 713) (pos 5743) (pos 1737) (minus 452) (minus 3644) (pos 4096) (pos 4096) (minus 3145) (minus 951)

abbrev pub bt470_limited : CbCrForwardTransform ℤ
bt470_limited = set (pos 1562) (pos 4972) (pos 502) (minus 860) (minus 2738) (pos 3598) (pos 3598) (minus 3268) (minus 330)

abbrev pub bt470_full : CbCrForwardTransform ℤ
bt470_full = set (pos 1819) (pos 5789) (pos 584) (minus 979) (minus 3117) (pos 4096) (pos 4096) (minus 3721) (minus 375)

-- ---- which of them a matrix takes, by range
-- RULES 4.1
abbrev pub pick : YuvRange → CbCrForwardTransform ℤ → CbCrForwardTransform ℤ → CbCrForwardTransform ℤ
pick Limited limited full = limited
pick Full limited full = full

-- RULES 4.1: Fcc and Custom have no stored set
abbrev pub built_transform : YuvRange → YuvStandardMatrix → Option (CbCrForwardTransform ℤ)
built_transform range Bt601 = Some (pick range bt601_limited bt601_full)
built_transform range Bt709 = Some (pick range bt709_limited bt709_full)
built_transform range Bt2020 = Some (pick range bt2020_limited bt2020_full)
built_transform range Smpte240 = Some (pick range smpte240_limited smpte240_full)
built_transform range Bt470_6 = Some (pick range bt470_limited bt470_full)
built_transform range Fcc = None
built_transform range (Custom kr kb) = None

-- ---- the weights of a matrix: stored, or else computed
-- RULES 4.1, 4.3
abbrev pub or_computed : Option (CbCrForwardTransform ℤ) → CbCrForwardTransform ℤ → CbCrForwardTransform ℤ
or_computed (Some transform) computed = transform
or_computed None computed = computed

-- RULES 4.1, 4.3: Custom is always worked out
unfoldable pub forward_transform : YuvRange → YuvStandardMatrix → CbCrForwardTransform ℤ
forward_transform range matrix = or_computed (built_transform range matrix) (computed_weights range (kr_kb matrix))

-- RULES 4.1, 4.3: the pair whose computed weights a matrix has. It is the matrix's own, but the sets stored for Smpte240 are those of its kr and kb
-- exchanged.
abbrev pub pair_of : YuvStandardMatrix → YuvBias
pair_of Bt601 = kr_kb Bt601
pair_of Bt709 = kr_kb Bt709
pair_of Bt2020 = kr_kb Bt2020
pair_of Smpte240 = record { kr = (kr_kb Smpte240).kb; kb = (kr_kb Smpte240).kr }
pair_of Bt470_6 = kr_kb Bt470_6
pair_of Fcc = kr_kb Fcc
pair_of (Custom kr kb) = kr_kb (Custom kr kb)
