-- A byte more is written: two digits in base 16.
use Rattle.std.proofs.Common.{◌≡◌, refl, ◌-◌, ◌^◌, arith, get_or}
use Rattle.std.proofs.Concat.{flat_map-take_more}
use Rattle.std.proofs.lemmas.Grind.{put_two}
use Rattle.std.specs.Fmt.{format_spec}
use Rattle.replay.specs.Printed.{in_base_16}
use Rattle.replay.proofs.Digits.{zeros_first}
use Rattle.replay_text.proofs.ReplyDisplay.fmt.Goals as goal

pub loop-byte-preserved : goal.loop-byte-preserved
loop-byte-preserved g c = λ plain.
    let bytes = c.args.self.now.0.now in
    let i = c.loop-byte.byte-index in
    let so_far = c.loop-byte.invariant plain in
    let two_digits : c.laid_out.result ≡ format_spec 32 0 4 2 (2 ^ 64 - 1) = c.laid_out.ensures in
    let byte = rw (two_digits, c.in_radix.ensures, zeros_first 2 (get_or bytes i 0)) at c.in_ok-write-2.ensures.writes in
    put_two g.W.Write.write_str_gives _ _ _ _ _ _ so_far (byte so_far.plain refl) (flat_map-take_more (in_base_16 2) bytes i 0 (omega arith))
