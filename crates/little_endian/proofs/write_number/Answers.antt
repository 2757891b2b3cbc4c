-- `write_number` meets its contract: the number's own bytes, then 0.
use native.Mathlib.Omega.{arith}
use Rattle.std.proofs.lemmas.Grind.{common_steps}
use Rattle.little_endian.proofs.Stores.{number_put}
use Rattle.little_endian.proofs.write_number.Goals as goal

pub returns : goal.returns
returns c =
    number_put c.args.output.now _ _ c.args.at c.args.size c.args.number c.min-known.result _ _ c.requires (omega arith) c.min-known.ensures
    (grind (arith, common_steps)) (omega arith) (omega arith) (grind (arith, common_steps))
