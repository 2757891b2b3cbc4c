-- Worked lines of the curves, as one set over the definitions; they are among the examples 3.4 and 3.5 of docs/RULES.md.
-- Assumes nothing.
use mathlib.Core.Path.{◌≡◌}
use mathlib.Core.Bool.{◌&&◌}
use lib.Dec.{T, lit<}
use mir.Facts.{and_yes}
use Rattle.sharp_gamma.specs.declared.SharpYuvGammaTransfer.{SharpYuvGammaTransfer}
use Rattle.sharp_gamma.specs.declared.SharpYuvGammaTransfer.TheVariants.{Srgb, Rec709, Gamma2p2, Gamma2p8}
use Rattle.sharp_gamma.specs.declared.TableRounding.{TableRounding}
use Rattle.sharp_gamma.specs.declared.TableRounding.TheVariants.{Truncated, Nearest}
use Rattle.sharp_gamma.specs.Curve.{under_curve, under_inverse}
use Rattle.sharp_gamma.specs.Entry.{linear_entry, gamma_entry}
use Rattle.sharp_gamma.proofs.Table.{is_linear, is_gamma, linear_is, gamma_is}

pub record Worked : Type 0 where
  pub srgb_linear_1 : linear_entry Srgb Truncated 1 ≡ 19
  pub srgb_linear_10 : linear_entry Srgb Truncated 10 ≡ 198
  pub srgb_linear_255 : linear_entry Srgb Truncated 255 ≡ 65535
  pub srgb_gamma_198 : gamma_entry Srgb Truncated 198 ≡ 9
  pub srgb_gamma_199 : gamma_entry Srgb Truncated 199 ≡ 10
  pub rec709_linear_20 : linear_entry Rec709 Truncated 20 ≡ 1142
  pub rec709_gamma_1142 : gamma_entry Rec709 Truncated 1142 ≡ 19
  pub rec709_gamma_1183 : gamma_entry Rec709 Truncated 1183 ≡ 20
  pub gamma2p2_linear_254 : linear_entry Gamma2p2 Truncated 254 ≡ 64970
  pub nearest_linear_10 : linear_entry Srgb Nearest 10 ≡ 199
  pub nearest_gamma_199 : gamma_entry Srgb Nearest 199 ≡ 10
  -- an exact half goes up: 4.5 and 13.5, the only ones of any table
  pub nearest_gamma_257 : gamma_entry Rec709 Nearest 257 ≡ 5
  pub nearest_gamma_771 : gamma_entry Rec709 Nearest 771 ≡ 14

pub worked : Worked
unfolding under_curve under_inverse
worked = record {
  srgb_linear_1 = linear_is Srgb Truncated 1 19 (lit< tt) tt;
  srgb_linear_10 = linear_is Srgb Truncated 10 198 (lit< tt) tt;
  srgb_linear_255 = linear_is Srgb Truncated 255 65535 (lit< tt) tt;
  srgb_gamma_198 = gamma_is Srgb Truncated 198 9 (lit< tt) tt;
  srgb_gamma_199 = gamma_is Srgb Truncated 199 10 (lit< tt) tt;
  rec709_linear_20 = linear_is Rec709 Truncated 20 1142 (lit< tt) tt;
  rec709_gamma_1142 = gamma_is Rec709 Truncated 1142 19 (lit< tt) tt;
  rec709_gamma_1183 = gamma_is Rec709 Truncated 1183 20 (lit< tt) tt;
  gamma2p2_linear_254 = linear_is Gamma2p2 Truncated 254 64970 (lit< tt) tt;
  nearest_linear_10 = linear_is Srgb Nearest 10 199 (lit< tt) tt;
  nearest_gamma_199 = gamma_is Srgb Nearest 199 10 (lit< tt) tt;
  nearest_gamma_257 = gamma_is Rec709 Nearest 257 5 (lit< tt) tt;
  nearest_gamma_771 = gamma_is Rec709 Nearest 771 14 (lit< tt) tt;
}

-- RULES 3.2, 3.3, at 0 and at 1, as entries: black and full colour go through both tables unchanged
pub record Ends (t : SharpYuvGammaTransfer) (r : TableRounding) : Type 0 where
  pub linear_0 : linear_entry t r 0 ≡ 0
  pub linear_255 : linear_entry t r 255 ≡ 65535
  pub gamma_0 : gamma_entry t r 0 ≡ 0
  pub gamma_65535 : gamma_entry t r 65535 ≡ 255

module _ (t : SharpYuvGammaTransfer) (r : TableRounding) where
  ends_of : T ((is_linear t r 0 0 && is_linear t r 255 65535) && (is_gamma t r 0 0 && is_gamma t r 65535 255)) → Ends t r
  ends_of test =
      let p = and_yes (is_linear t r 0 0 && is_linear t r 255 65535) (is_gamma t r 0 0 && is_gamma t r 65535 255) test in
      let l = and_yes (is_linear t r 0 0) (is_linear t r 255 65535) p.0 in
      let g = and_yes (is_gamma t r 0 0) (is_gamma t r 65535 255) p.1 in
      record {
        linear_0 = linear_is t r 0 0 (lit< tt) l.0;
        linear_255 = linear_is t r 255 65535 (lit< tt) l.1;
        gamma_0 = gamma_is t r 0 0 (lit< tt) g.0;
        gamma_65535 = gamma_is t r 65535 255 (lit< tt) g.1;
      }

pub ends : (t : SharpYuvGammaTransfer) (r : TableRounding) → Ends t r
unfolding under_curve under_inverse
ends Srgb Truncated = ends_of Srgb Truncated tt
ends Srgb Nearest = ends_of Srgb Nearest tt
ends Rec709 Truncated = ends_of Rec709 Truncated tt
ends Rec709 Nearest = ends_of Rec709 Nearest tt
ends Gamma2p2 Truncated = ends_of Gamma2p2 Truncated tt
ends Gamma2p2 Nearest = ends_of Gamma2p2 Nearest tt
ends Gamma2p8 Truncated = ends_of Gamma2p8 Truncated tt
ends Gamma2p8 Nearest = ends_of Gamma2p8 Nearest tt
