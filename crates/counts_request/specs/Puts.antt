-- A text put into a list. This serves the contracts of the smaller functions: no meaning stands here.
-- Assumes nothing.
use Rattle.std.specs.Prelude.{ℕ, ◌+◌, ◌≡◌, List, ◌++◌, length, take, drop}
use Rattle.counts_request.specs.declared.Text.{Text}

-- `after` is `before` with `text` from byte `at` on, up to byte `end`
pub record Puts (text : List ℕ) (at : ℕ) (before : List ℕ) (end : ℕ) (after : List ℕ) : Type 0 where
  pub size : end ≡ at + length text
  pub is : after ≡ take at before ++ (text ++ drop end before)

-- the text goes on with these bytes, in the same output
pub record PutsInto (text : List ℕ) (old new : Text) : Type 0 where
  pub size : length new.output.now ≡ length old.output.now
  pub loan : new.output.ghost_name ≡ old.output.ghost_name
  pub puts : Puts text old.at old.output.now new.at new.output.now
