-- What is said of a failure, as bytes.
use Rattle.std.specs.Prelude.{ℕ, List, codes}
use Rattle.standard_streams.specs.declared.Failure.{Failure}
use Rattle.standard_streams.specs.declared.Failure.TheVariants.{CannotRead, CannotWrite}

abbrev pub failure_text : Failure → List ℕ
failure_text CannotRead = codes "cannot read standard input"
failure_text CannotWrite = codes "cannot write standard output"
