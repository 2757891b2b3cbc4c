-- A digest is shown as eight digits.
use Rattle.std.proofs.Common.{Some, subst}
use Rattle.std.specs.Fmt.{DisplaysOnOk}
use Rattle.replay.specs.Printed.{crc32}
use Rattle.replay.proofs.Digits.{zeros_first}
use Rattle.replay.proofs.printed.DigestDisplay.fmt.Goals as goal

pub returns-clause-writes : goal.returns-clause-writes
returns-clause-writes g c =
    subst (λ text. DisplaysOnOk g.W.Write.write_str_gives c.args.f.now c.write.result (Some text) c.write.new.self) (zeros_first 8 (crc32 c.args.self.now.0.now))
    (rw (c.laid_out.ensures, c.in_radix.ensures, c.crc32-digest.ensures) at c.write.ensures.writes)
