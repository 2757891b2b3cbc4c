-- Bytes that are a file are opened, and the file that was opened has as many pictures. Assumes nothing.
use native.Mathlib.Omega.{arith}
use Rattle.y4m_file.specs.Read.{file_in}
use Rattle.y4m_file.proofs.File.{some_file}
use Rattle.y4m_reader.proofs.Files.{file_said}
use Rattle.y4m_reader.proofs.known_parts.Goals as goal

pub unwrap-read-requires : goal.unwrap-read-requires
unwrap-read-requires c = c.open.ensures.is_file.1 ((some_file c.args.file.now).1 (file_in c.args.file.now, c.requires.is_file_lem))

pub picture_parts-requires : goal.picture_parts-requires
picture_parts-requires c =
    let bytes = rw c.unwrap-read.ensures at c.open.ensures.bytes in
    let counted = rw bytes at (file_said c.unwrap-read.result).count in
    omega (arith, c.requires.below, counted)
