use Rattle.std.proofs.Common.{◌∙◌, ap, arith, ℕ, ◌+◌, ◌*◌}
use Rattle.merge_sort.specs.Ascending.{sorted, keys_from}
use Rattle.shift_file.specs.Read.{records_in}
use Rattle.crossing_keys.specs.Keys.{crossings_of}
use Rattle.crossing_keys.proofs.Keyed.{keys_long, its_key, keys_more, keys_all}
use Rattle.crossing_keys.proofs.Places.{records_counted}
use Rattle.crossing_keys.proofs.write_keys.Goals as goal

pub loop-place-preserved : goal.loop-place-preserved
loop-place-preserved c =
    let rs = records_in c.args.file.now.form c.args.file.now.bytes.now in
    let long = records_counted c.args.file.now in
    keys_more (keys_from 0 (crossings_of rs)) c.loop-place.keys c.loop-place.place c.new.result (omega arith) (omega (arith, keys_long rs, c.requires, long))
    (its_key rs c.loop-place.place _ (omega (arith, c.requires, long)) (c.new.ensures ∙ ap (λ (n : ℕ). n * 4096 + c.loop-place.place) (rw (c.«record».ensures.0, c.«record».ensures.1) at c.entry-entry.ensures.crossing))) c.loop-place.invariant

pub returns : goal.returns
returns c =
    let rs = records_in c.args.file.now.form c.args.file.now.bytes.now in
    let all = keys_all (keys_from 0 (crossings_of rs)) c.loop-place.keys c.loop-place.place (omega arith) (omega (arith, keys_long rs, c.requires, records_counted c.args.file.now)) c.loop-place.invariant in
    c.sort.ensures ∙ ap sorted all
