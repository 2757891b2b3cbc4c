-- The bytes so far are in the CRC.
use Rattle.std.proofs.Common.{◌≡◌, take, fold}
use Rattle.replay.specs.Printed.{crc_of_byte}
use Rattle.replay.proofs.printed.crc32.Given as goal

abbrev pub invariant-loop-byte : goal.invariant-loop-byte
invariant-loop-byte l = l.crc ≡ fold crc_of_byte 0xFFFF_FFFF (take l.byte-index l.bytes)
