-- `fill` meets its contract: the block's length was read, then its bytes, and they are repeated.
use Rattle.std.proofs.Common.{◌≡◌, ◌∙◌, ◌++◌, ap, take, drop, length, rules, length-take-le}
use Rattle.std.proofs.lemmas.List.{take_at, nil_from_length}
use Rattle.replay.specs.Stored.{next_room, read_over, IsFilled}
use Rattle.replay.proofs.Sources.{reads_on}
use Rattle.replay.proofs.list.List.fill.Goals as goal

pub returns-clause-filled : goal.returns-clause-filled
returns-clause-filled g c =
    let before = c.args.buffer.now in
    let block = c.room-block.result in
    let buffer = c.repeat.new.buffer in
    let part = c.bytes.new.buffer in
    let long : length (take block before) ≡ block = length-take-le block before c.room-block.ensures.bound in
    let as_long : length buffer ≡ length before = search rules in
    let part_long : length part ≡ block = search rules in
    let front : take block buffer ≡ part = c.repeat.ensures.front ∙ take_at part (drop block before) block part_long in
    let none : block ≡ 0 → buffer ≡ before = λ z. c.repeat.ensures.none z ∙ (λ i. nil_from_length part (part_long ∙ z) i ++ drop (z i) before) in
    reads_on _ _ _ (λ old new. (block ≡ next_room (length before) old) × (new ≡ drop 4 old))
    (λ old new. (part ≡ read_over old (take block before)) × (new ≡ drop (length (take block before)) old)) (λ old new. IsFilled old new before buffer)
    c.room-block.ensures.value c.bytes.ensures
    (λ xs ys zs p q. record {
      as_long = as_long;
      front = rw (← p.0, ← p.1) (front ∙ q.0);
      repeats = rw (← p.0) c.repeat.ensures.repeats;
      none = rw (← p.0) none;
      left = rw (← p.0, ← p.1) (q.1 ∙ ap (λ n. drop n ys) long);
    })
