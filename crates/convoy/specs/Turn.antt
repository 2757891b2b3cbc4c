-- The conditions that a frame of a convoy is asked at its turn, and those of the whole call: docs/RULES.md, 15.2 and 15.3.
-- Assumes nothing.
use Rattle.std.specs.Prelude.{ℕ, true, cond, List, [], ◌∷◌, ltb, Option, None, Some, length}
use Rattle.yuv_error.specs.declared.Lengths.{Lengths}
use Rattle.yuv_error.specs.Rules.{Rule, rule}
use Rattle.sharp_rgba_to_yuv.specs.FrameCall.{frame_rules}
use Rattle.convoy_parts.specs.declared.ConvoyFrame.{ConvoyFrame}
use Rattle.convoy_parts.specs.Parts.{frame_at}
use Rattle.convoy.specs.Run.{ConvoyCall, is_broken}
use Rattle.definitions.specs.declared.FrameDescription.{FrameDescription}

-- RULES 15.3: those of a single call: 1 for codes without a meaning, or the frame call's own
abbrev pub single_rules : Option FrameDescription → (stride : ℕ) → Lengths → List Rule
single_rules None stride n = rule 1 true 0 0 ∷ []
single_rules (Some d) stride n = frame_rules d stride n

-- RULES 15.3: of the lengths of the frame's parts
abbrev pub turn_rules : ConvoyFrame → List Rule
turn_rules f =
    single_rules f.described f.stride (record { source = f.source.length; y = f.y.length; u = f.u.length; v = f.v.length })

-- RULES 15.2, 15.3: those of a convoy: 18, then those of the frame whose place is told; past the last frame there is none to ask
abbrev pub convoy_rules : ConvoyCall → List Rule
convoy_rules k =
    rule 18 (is_broken k) 0 0 ∷ cond (ltb k.result.done (length k.convoy)) (turn_rules (frame_at k.convoy k.result.done)) []
