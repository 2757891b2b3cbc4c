-- A new buffer around a reader: nothing is read ahead.
use Rattle.std.proofs.Common.{◌≡◌, ℕ, List, []}
use Rattle.std.proofs.KnownBytes.{prepend_known-nil}
use Rattle.std.specs.Io.Buffered.{reader_remaining, reader_buffer, reader_capacity, reader_inner}
use Rattle.std.specs.declared.io.buffered.BufReader.{BufReader}
use Rattle.std.specs.declared.option.Option.{Option}

pub opened : {T A : Type 0} (remaining : T → Option (List ℕ)) (r : BufReader T A) (input : T)
    → reader_inner r ≡ input → reader_buffer r ≡ [] → reader_capacity r ≡ 8192 → reader_remaining remaining r ≡ remaining input
opened remaining r input inner empty capacity = rw (capacity, empty, inner) (prepend_known-nil (remaining input))
