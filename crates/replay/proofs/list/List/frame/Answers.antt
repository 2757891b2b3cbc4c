-- `frame` meets its contract: the numbers are those that the calls of `row` gave, and describe the frame.
use Rattle.std.proofs.Common.{rules, ◌≡◌, ◌++◌, ℕ, List, Float, length, drop, ap, ◌∙◌}
use Rattle.std.proofs.lemmas.List.{drop-drop}
use Rattle.std.specs.List.{FoldsTo}
use Rattle.definitions.specs.declared.FrameDescription.{FrameDescription}
use Rattle.call_numbers.specs.Codes.{description_of}
use Rattle.replay.specs.Calls.{Gives}
use Rattle.replay.specs.Stored.{IsNumber, IsFloat, IsFrame}
use Rattle.replay.proofs.Bytes.{are_numbers, are_floats}
use Rattle.replay.specs.Sources.{Reads}
use Rattle.replay.proofs.Made.{seen}
use Rattle.replay.proofs.Sources.{reads_on, reads_all}
use Rattle.replay.proofs.list.List.frame.Goals as goal

read : (left a b new : List ℕ) (front : List ℕ) (custom : List Float) (rest : List ℕ) (d : FrameDescription)
    → length front ≡ 6 → length custom ≡ 2 → length rest ≡ 9
    → FoldsTo (λ old n new. IsNumber old new n) left front a → FoldsTo (λ old x new. IsFloat old new x) a custom b
    → FoldsTo (λ old n new. IsNumber old new n) b rest new → d ≡ description_of (front ++ rest) custom → IsFrame left new d
read left a b new front custom rest d m n k p q r e =
    let first = rw m at (are_numbers left front a p) in
    let second = rw n at (are_floats a custom b q) in
    let third = rw k at (are_numbers b rest new r) in
    let behind : b ≡ drop 32 left = second.1 ∙ ap (drop 8) first.1 ∙ drop-drop 8 24 left in (
      rw (← first.1, ← behind, ← first.0, ← second.0, ← third.0) e,
      third.1 ∙ ap (drop 36) behind ∙ drop-drop 36 32 left,
    )

-- the values that three rows gave, and what may be left to each
rows : (a b c d : List ℕ → Type 0) (front : List ℕ) (custom : List Float) (rest : List ℕ) (frame : FrameDescription)
    → length front ≡ 6 → length custom ≡ 2 → length rest ≡ 9
    → Reads a b (λ old new. FoldsTo (λ o n w. IsNumber o w n) old front new) → Reads b c (λ old new. FoldsTo (λ o x w. IsFloat o w x) old custom new)
    → Reads c d (λ old new. FoldsTo (λ o n w. IsNumber o w n) old rest new) → frame ≡ description_of (front ++ rest) custom
    → Reads a d (λ old new. IsFrame old new frame)
rows a b c d front custom rest frame m n k p q r e =
    let Numbers = FoldsTo (λ old n new. IsNumber old new n) in
    let Floats = FoldsTo (λ old x new. IsFloat old new x) in
    reads_on a c d (λ old new. (mid : List ℕ) × Numbers old front mid × Floats mid custom new) (λ old new. Numbers old rest new) (λ old new. IsFrame old new frame)
    (reads_on a b c (λ old new. Numbers old front new) (λ old new. Floats old custom new) (λ old new. (mid : List ℕ) × Numbers old front mid × Floats mid custom new)
    p q (λ xs ys zs i j. (ys, i, j)))
    r
    (λ xs ys zs i j. read xs i.0 ys zs front custom rest frame m n k i.1 i.2 j e)

pub returns : goal.returns
returns g c =
    let left = g.S.ByteSource.left in
    rows _ (left c.row.new.self.rest) (left c.row-2.new.self.rest) _ c.row.new.places c.row-2.new.places c.row-3.new.places _
    (search rules) (search rules) (search rules)
    (reads_all (λ p. left p.1.rest) (λ o n w. IsNumber o w n) _ _ _
    (seen (Gives _) (λ p n q. Reads (left p.1.rest) (left q.1.rest) (λ old new. IsNumber old new n)) (λ p. p) (λ p x q k. rw (← k.shows, ← k.leaves) (search rules)) _ _ _ c.row.ensures.1))
    (reads_all (λ p. left p.1.rest) (λ o x w. IsFloat o w x) _ _ _
    (seen (Gives _) (λ p x q. Reads (left p.1.rest) (left q.1.rest) (λ old new. IsFloat old new x)) (λ p. p) (λ p x q k. rw (← k.shows, ← k.leaves) (search rules)) _ _ _ c.row-2.ensures.1))
    (reads_all (λ p. left p.1.rest) (λ o n w. IsNumber o w n) _ _ _
    (seen (Gives _) (λ p n q. Reads (left p.1.rest) (left q.1.rest) (λ old new. IsNumber old new n)) (λ p. p) (λ p x q k. rw (← k.shows, ← k.leaves) (search rules)) _ _ _ c.row-3.ensures.1))
    c.describe.ensures
