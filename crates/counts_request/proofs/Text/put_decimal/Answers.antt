-- What is put down are the digits that std prints, and they are the number's decimal.
-- Assumes nothing.
use Rattle.std.proofs.Common.{arith, refl}
use Rattle.counts_request.proofs.Decimal.{decimal_printed}
use Rattle.counts_request.proofs.Puts.{sets-Puts}
use Rattle.counts_request.proofs.Text.put_decimal.Goals as goal

pub put_decimal-self-requires : goal.put_decimal-self-requires
put_decimal-self-requires c = rw (decimal_printed c.args.number (omega arith)) c.requires

pub returns : goal.returns
returns c =
    let digits = decimal_printed c.args.number (omega arith) in
    record {
      size = c.put_decimal-self.auto.output;
      loan = refl;
      puts = sets-Puts c.requires (rw digits at c.put_decimal-self.ensures.written) (rw digits at c.put_decimal-self.ensures.end);
    }
