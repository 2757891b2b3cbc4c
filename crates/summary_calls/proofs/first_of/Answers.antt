use Rattle.std.proofs.Common.{arith, ap, refl, sym, ◌∙◌, ◌≡◌, length, Some}
use borrow.Author.Tests.{lt-ltb, le-ltb}
use Rattle.shift_file.specs.Read.{records_in}
use Rattle.crossing_keys.proofs.Places.{records_counted}
use Rattle.summary_calls.specs.Found.{place_of_first}
use Rattle.summary_calls.proofs.Found.{first_more, first_here, first_none}
use Rattle.summary_calls.proofs.first_of.Goals as goal

pub returns-then-entry-crossing : goal.returns-then-entry-crossing
returns-then-entry-crossing c =
    let rs = records_in c.args.file.now.form c.args.file.now.bytes.now in
    let long = records_counted c.args.file.now in
    let is = sym (rw (c.«record».ensures.0, c.«record».ensures.1) at c.entry.ensures.crossing) ∙ c.if-entry-crossing.true in
    let here : c.loop-k.k ≡ place_of_first c.args.crossing rs = first_here c.args.crossing rs c.loop-k.k (omega (arith, long)) is ∙ c.loop-k.invariant in
    rw (lt-ltb (place_of_first c.args.crossing rs) (length rs) (omega (arith, here, long))) (ap Some here)

pub loop-k-preserved : goal.loop-k-preserved
loop-k-preserved c =
    let rs = records_in c.args.file.now.form c.args.file.now.bytes.now in
    first_more c.args.crossing rs c.loop-k.k (omega (arith, records_counted c.args.file.now))
    (λ e. c.if-entry-crossing.false ((rw (c.«record».ensures.0, c.«record».ensures.1) at c.entry.ensures.crossing) ∙ e)) ∙ c.loop-k.invariant

pub returns : goal.returns
returns c =
    let rs = records_in c.args.file.now.form c.args.file.now.bytes.now in
    let long = records_counted c.args.file.now in
    let all : c.loop-k.k ≡ place_of_first c.args.crossing rs = first_none c.args.crossing rs c.loop-k.k (omega (arith, long)) ∙ c.loop-k.invariant in
    rw (le-ltb (place_of_first c.args.crossing rs) (length rs) (omega (arith, all, long))) refl
