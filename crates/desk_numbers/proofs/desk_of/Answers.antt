-- `desk_of` meets its contract: each place is made from its numbers.
-- Assumes nothing.
use Rattle.std.proofs.Common.{rules}
use Rattle.desk_places.specs.declared.Slot.TheVariants.{Free}
use Rattle.desk.specs.declared.Desk.{Desk}
use Rattle.convoy_calls.proofs.Made.{made_map}
use Rattle.desk_numbers.specs.Numbers.{desk_numbers, place_of, desk_of}
use Rattle.desk_numbers.proofs.desk_of.Goals as goal

pub returns : goal.returns
unfolding desk_of
returns c =
    let places = made_map _ _ (place_of (desk_numbers c.args.numbers.now c.args.customs.now c.args.parts.now)) (λ i y q k. search rules) Free
    c.from_fn.result 32 c.from_fn.ensures.items in
    λ i. let r : Desk = record { places = places i; from = c.number_at.ensures i } in r
