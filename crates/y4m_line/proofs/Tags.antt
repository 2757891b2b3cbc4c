-- The tags of a letter are the words that begin with it, each without the letter. Assumes nothing.
use Prim.Native.Nat.{ℕ, ◌-◌}
use mathlib.Core.Path.{◌≡◌, refl, ap, sym, ◌∙◌}
use mathlib.Core.Bool.{Bool, true, false}
use mathlib.Core.List.{List, [], ◌∷◌, map}
use lib.Dec.{eqb}
use native.Mathlib.Omega.{arith}
use lib.ListN.{length, get_or, take, drop, length-drop}
use lib.Seq.{take_all}
use Rattle.std.specs.List.{filter, slice_split}
use Rattle.y4m_line.specs.Words.{words}
use Rattle.y4m_line.specs.Line.{tagged}
use Rattle.y4m_line.specs.Found.{TwoTags}
use Rattle.y4m_line.proofs.Words.{split_words}

-- a word begins with the letter
abbrev pub begins : (letter : ℕ) → List ℕ → Bool
begins letter word = eqb (get_or word 0 0) letter

module _ (x : ℕ) (w : List ℕ) (ws : List (List ℕ)) (ih : tagged x ws ≡ map (drop 1) (filter (begins x) ws)) where
  tagged_case : (t : Bool) → begins x w ≡ t → tagged x (w ∷ ws) ≡ map (drop 1) (filter (begins x) (w ∷ ws))
  unfolding tagged
  tagged_case true e = rw (e, ih)
  tagged_case false e = rw (e, ih)

pub tagged_filter : (x : ℕ) (ws : List (List ℕ)) → tagged x ws ≡ map (drop 1) (filter (begins x) ws)
unfolding tagged
tagged_filter x [] = refl
tagged_filter x (w ∷ ws) = tagged_case x w ws (tagged_filter x ws) (begins x w) refl

module _ (x : ℕ) (l : List ℕ) where
  begun : List (List ℕ)
  begun = filter (begins x) (slice_split (λ b. eqb b 32) l)

  tagged_split : tagged x (words l) ≡ map (drop 1) begun
  unfolding begun
  tagged_split = tagged_filter x (words l) ∙ ap (λ ws. map (drop 1) (filter (begins x) ws)) (sym (split_words l))

  pub no_tag : filter (begins x) (slice_split (λ b. eqb b 32) l) ≡ [] → tagged x (words l) ≡ []
  unfolding begun
  no_tag e = tagged_split ∙ ap (map (drop 1)) e

  pub one_tag : (w : List ℕ) → filter (begins x) (slice_split (λ b. eqb b 32) l) ≡ w ∷ [] → tagged x (words l) ≡ take (length w - 1) (drop 1 w) ∷ []
  unfolding begun
  one_tag w e =
      let whole : take (length w - 1) (drop 1 w) ≡ drop 1 w = take_all (length w - 1) (drop 1 w) (omega (arith, length-drop 1 w)) in
      rw whole (tagged_split ∙ ap (map (drop 1)) e)

  pub more_tags : (w v : List ℕ) (ws : List (List ℕ)) → filter (begins x) (slice_split (λ b. eqb b 32) l) ≡ w ∷ v ∷ ws → TwoTags x l
  unfolding begun
  more_tags w v ws e = record {
    first = drop 1 w;
    second = drop 1 v;
    others = map (drop 1) ws;
    are = tagged_split ∙ ap (map (drop 1)) e;
  }
