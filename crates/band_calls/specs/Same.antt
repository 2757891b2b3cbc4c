-- What band calls have in common that are given the same colours: docs/RULES.md, 2.3.
-- Assumes nothing.
use Rattle.std.specs.Prelude.{ℕ, ◌<◌, ◌≡◌, length}
use Rattle.definitions.specs.Image.{source_image}
use Rattle.band_calls.specs.BandCall.{BandCall, band_call, BandPost}

-- RULES 2.3: the sources of two calls agree on the colour bytes, the first three of each pixel, of the frame's w pixels in the band's rows
abbrev pub SameColourBytes : (k j : BandCall) → Type 0
SameColourBytes k j =
    (r x i : ℕ) → r < k.rows → x < k.state.frame.width → i < 3
    → source_image k.state.frame k.stride k.source r x i ≡ source_image k.state.frame k.stride j.source r x i

-- RULES 2.3: two calls are given the same but for their sources, which are equally long
pub record SameButSource (k j : BandCall) : Type 0 where
  pub size : length j.source ≡ length k.source
  pub others : j ≡ band_call k.state k.rows k.stride j.source k.y k.u k.v k.carried j.result j.y' j.u' j.v' j.carried'

-- RULES 2.3: two calls that differ in alpha, padding and pixels outside the frame alone give the same answer and state, and leave the same planes and
-- carried row, byte for byte
abbrev pub AlphaAndPadding : Type 0
AlphaAndPadding =
    (k j : BandCall) → BandPost k → BandPost j → SameButSource k j → SameColourBytes k j
    → (k.result ≡ j.result) × (k.y' ≡ j.y') × (k.u' ≡ j.u') × (k.v' ≡ j.v') × (k.carried' ≡ j.carried')
