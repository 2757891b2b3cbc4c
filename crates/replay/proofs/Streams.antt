-- A new buffer around a writer: nothing waits to be written.
use Rattle.std.proofs.Common.{◌≡◌, ℕ, List, [], refl, None, Some}
use Rattle.std.proofs.lemmas.List.{append-nil}
use Rattle.std.specs.Io.KnownBytes.{append_known}
use Rattle.std.specs.Io.Buffered.{writer_contents, writer_buffer, writer_inner}
use Rattle.std.specs.declared.io.buffered.BufWriter.{BufWriter}
use Rattle.std.specs.declared.option.Option.{Option}

none_waits : (known : Option (List ℕ)) → append_known known [] ≡ known
none_waits None = refl
none_waits (Some xs) = rw (append-nil xs) refl

pub begun : {T A : Type 0} (contents : T → Option (List ℕ)) (w : BufWriter T A) (output : T)
    → writer_inner w ≡ output → writer_buffer w ≡ [] → writer_contents contents w ≡ contents output
begun contents w output inner empty = rw (empty, inner) (none_waits (contents output))
