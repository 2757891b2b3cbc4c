-- `nearest_whole` meets its contract: the laws of `WholePart`, at the cast and at the comparison.
-- Assumes nothing.
use Rattle.std.proofs.Common.{◌^◌, ◌≤◌, arith}
use Rattle.forward_transform.proofs.WholePart.{Plain, plain, castable, few_whole, rounded_down, rounded_up}
use Rattle.forward_transform.proofs.nearest_whole.Goals as goal

pub truncating_f32_to_u64-whole-requires-clause-lower_bound : goal.truncating_f32_to_u64-whole-requires-clause-lower_bound
truncating_f32_to_u64-whole-requires-clause-lower_bound c =
    let known : Plain c.args.x =
    plain c.args.x c.requires.small c.requires.not_negative in
    (castable c.args.x known).0

pub truncating_f32_to_u64-whole-requires-clause-upper_bound : goal.truncating_f32_to_u64-whole-requires-clause-upper_bound
truncating_f32_to_u64-whole-requires-clause-upper_bound c =
    let known : Plain c.args.x =
    plain c.args.x c.requires.small c.requires.not_negative in
    (castable c.args.x known).1

pub overflow_cast-whole : goal.overflow_cast-whole
overflow_cast-whole c =
    let known : Plain c.args.x =
    plain c.args.x c.requires.small c.requires.not_negative in
    let few : c.truncating_f32_to_u64-whole.result ≤ 2 ^ 14 =
    few_whole c.args.x (known) c.truncating_f32_to_u64-whole.result c.truncating_f32_to_u64-whole.ensures in
    omega (arith, few)

pub overflow_add-result : goal.overflow_add-result
overflow_add-result c =
    let known : Plain c.args.x =
    plain c.args.x c.requires.small c.requires.not_negative in
    let few : c.truncating_f32_to_u64-whole.result ≤ 2 ^ 14 =
    few_whole c.args.x (known) c.truncating_f32_to_u64-whole.result c.truncating_f32_to_u64-whole.ensures in
    omega (arith, few)

pub returns-then-x-whole : goal.returns-then-x-whole
returns-then-x-whole c =
    let known : Plain c.args.x =
    plain c.args.x c.requires.small c.requires.not_negative in
    rounded_down c.args.x known c.truncating_f32_to_u64-whole.result c.truncating_f32_to_u64-whole.ensures c.if-x-whole.true

pub returns-else-x-whole : goal.returns-else-x-whole
returns-else-x-whole c =
    let known : Plain c.args.x =
    plain c.args.x c.requires.small c.requires.not_negative in
    rounded_up c.args.x known c.truncating_f32_to_u64-whole.result c.truncating_f32_to_u64-whole.ensures c.if-x-whole.false
