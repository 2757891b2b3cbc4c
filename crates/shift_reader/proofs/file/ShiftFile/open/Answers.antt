use native.Mathlib.Omega.{arith}
use mathlib.Core.Path.{◌≡◌, sym, ◌∙◌}
use mathlib.Core.Bool.{true}
use Rattle.shift_file.specs.Check.{is_file}
use Rattle.shift_reader.proofs.Places.{Known, known}
use Rattle.shift_reader.proofs.file.ShiftFile.open.Goals as goal

pub count_at-count-requires : goal.count_at-count-requires
count_at-count-requires c = (known c.args.form c.args.bytes.now (sym c.is_file.ensures ∙ c.if-is_file.true) (λ i. omega (arith, c.type_inv.bytes i))).header

pub invariant_of-result : goal.invariant_of-result
invariant_of-result c =
    let e : is_file c.args.form c.args.bytes.now ≡ true = sym c.is_file.ensures ∙ c.if-is_file.true in
    let k : Known c.args.form c.args.bytes.now = known c.args.form c.args.bytes.now e (λ i. omega (arith, c.type_inv.bytes i)) in record {
      checked = e;
      counted = c.count_at-count.ensures;
      few = omega (arith, c.count_at-count.ensures, k.few);
      are_bytes = λ i. omega (arith, c.type_inv.bytes i);
    }

pub returns-then-is_file-clause-counted : goal.returns-then-is_file-clause-counted
returns-then-is_file-clause-counted c =
    c.count_at-count.ensures
    ∙ sym (known c.args.form c.args.bytes.now (sym c.is_file.ensures ∙ c.if-is_file.true) (λ i. omega (arith, c.type_inv.bytes i))).count
