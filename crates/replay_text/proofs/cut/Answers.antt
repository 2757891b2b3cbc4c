-- `cut` meets its contract: `find` gave the first such byte, and the text is what stands before it, it, and what stands behind it.
use Rattle.std.proofs.Common.{◌≡◌, ◌+◌, ◌-◌, ◌<◌, ◌∷◌, ◌++◌, length, take, drop, inl, sym, ap, ◌∙◌, arith, add-one, length-drop}
use Rattle.std.proofs.lemmas.Grind.{common_steps}
use lib.ListN.{get_or}
use lib.Seq.{take_all, split_at}
use Rattle.replay_text.proofs.cut.Goals as goal

pub returns-in-Some : goal.returns-in-Some
returns-in-Some c =
    let xs = c.args.text.now in
    let i = c.in-Some.i in
    let below : i < length xs = c.in-Some.ensures.found.0 in
    let back : take (length xs - (i + 1)) (drop (i + 1) xs) ≡ drop (i + 1) xs = take_all _ _ (omega (arith, length-drop (i + 1) xs)) in
    let whole : xs ≡ take i xs ++ get_or xs i 0 ∷ drop (i + 1) xs = split_at xs i 0 below ∙ ap (λ n. take i xs ++ get_or xs i 0 ∷ drop n xs) (sym (add-one i)) in (
      λ k d l. grind (arith, common_steps, c.in-Some.ensures.first k),
      inl (whole ∙ ap (λ b. take i xs ++ b ∷ drop (i + 1) xs) c.in-Some.ensures.found.1 ∙ ap (λ ys. take i xs ++ c.args.byte ∷ ys) (sym back)),
    )
