-- `put_chroma` meets its contract: what the weights of an accepted matrix make of three bytes is what the definition holds.
-- Assumes nothing.
use Prim.Native.Nat.{ℕ, ◌<◌}
use mathlib.Core.Path.{ap}
use lib.ListN.{set}
use native.Mathlib.Omega.{arith}
use Rattle.pixel_pairs.specs.Pixels.{byte_at, AreBytes}
use Rattle.pixel_pairs.proofs.Weights.{shape_of, by_three, cb_weights_lem, cr_weights_lem, cb_is, cr_is}
use Rattle.pixel_pairs.proofs.Pairs.{chroma_more}
use Rattle.pixel_pairs.proofs.tables.Conversion.put_chroma.Goals as goal

pub weigh-requires : goal.weigh-requires
weigh-requires c = rw c.requires.converts.cb (cb_weights_lem c.args.self.now.frame.settings (shape_of c.requires.converts))

pub weigh-requires-2 : goal.weigh-requires-2
weigh-requires-2 c = rw c.requires.converts.cr (cr_weights_lem c.args.self.now.frame.settings (shape_of c.requires.converts))

pub returns : goal.returns
returns c =
    let bytes : AreBytes (byte_at c.args.b) = by_three (λ i. byte_at c.args.b i < 256) (omega arith) (omega arith) (omega arith) in
    let in_u = cb_is c.args.self.now.frame.settings (shape_of c.requires.converts) (byte_at c.args.b) bytes c.weigh.result (rw c.requires.converts.cb at c.weigh.ensures) in
    let in_v = cr_is c.args.self.now.frame.settings (shape_of c.requires.converts) (byte_at c.args.b) bytes c.weigh-2.result (rw c.requires.converts.cr at c.weigh-2.ensures) in
    record {
      chroma_more = chroma_more c.args.self.now.frame c.args.b c.args.j c.requires.room.0 c.requires.room.1 in_u in_v;
      u_after = ap (λ (x : ℕ). set c.args.u.now c.args.j x) in_u;
      v_after = ap (λ (x : ℕ). set c.args.v.now c.args.j x) in_v;
    }
