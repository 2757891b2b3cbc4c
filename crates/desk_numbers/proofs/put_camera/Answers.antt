-- `put_camera` meets its contract: the part came back with the values.
-- Assumes nothing.
use Rattle.std.proofs.Common.{rules, ◌≡◌}
use Rattle.desk_numbers.proofs.Copied.{put_back}
use Rattle.desk_numbers.proofs.put_camera.Goals as goal

pub returns : goal.returns
returns g c =
    let copied : c.copy_from_slice.new.self ≡ c.args.values = search rules in
    put_back g.row.N c.args.numbers.now c.args.k copied
