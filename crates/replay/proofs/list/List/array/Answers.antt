-- `array` meets its contract: what was read over zeros are the next bytes, and zeros past the end.
use Rattle.std.proofs.Common.{◌≡◌, ◌∙◌, drop, rules}
use Rattle.replay.specs.Stored.{next_bytes}
use Rattle.replay.proofs.Sources.{reads, over_zeros}
use Rattle.replay.proofs.list.List.array.Goals as goal

pub returns : goal.returns
returns g c =
    reads _ _ _ (λ old new. (c.bytes.new.buffer ≡ next_bytes g.row.N old) × (new ≡ drop g.row.N old)) c.bytes.ensures (λ xs ys h. (h.0 ∙ over_zeros g.row.N xs, search rules))
