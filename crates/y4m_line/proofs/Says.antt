-- What the tags of a letter say, and what the check reads of them. Assumes nothing.
use Prim.Native.Nat.{ℕ, ◌≤◌}
use mathlib.Core.Path.{◌≡◌, refl, sym}
use mathlib.Core.Bool.{Bool, true, false, ◌&&◌, not}
use mathlib.Core.List.{List, [], ◌∷◌}
use native.Mathlib.Omega.{arith}
use lib.Dec.{leb, eqb}
use lib.ListN.{get_or}
use borrow.Author.Tests.{le-leb, leb-true, ne_eqb, eqb-false, not-true}
use Rattle.std.proofs.lemmas.Bool.{and_parts}
use Rattle.y4m_line.specs.Line.{tagged, digits, value, IsDecimal, SaysSide}
use Rattle.y4m_line.specs.Header.{is_size, size, one_size}

pub size_said : (letter : ℕ) (tags : List (List ℕ)) (side : ℕ) → SaysSide letter tags side → one_size (tagged letter tags) ≡ side
unfolding size is_size
size_said letter tags side s =
    rw (s.one, ne_eqb (get_or s.text 0 48) 48 s.decimal.lead, s.decimal.all, s.decimal.worth, le-leb side 16384 s.most)

-- a text that says a side
module _ (t : List ℕ) (h : 1 ≤ size t) where
  is_size_lem : (b : Bool) → is_size t ≡ b → (is_size t ≡ true) × (size t ≡ value 0 t)
  unfolding size
  is_size_lem true e = (e, rw e)
  is_size_lem false e = let k : 1 ≤ 0 = rw e at h in absurd (omega arith)

  pub text_says : IsDecimal (size t) t × (size t ≤ 16384)
  unfolding is_size
  text_says =
      let i = is_size_lem (is_size t) refl in
      let p = and_parts (not (eqb (get_or t 0 48) 48)) (digits t && leb (value 0 t) 16384) i.0 in
      let q = and_parts (digits t) (leb (value 0 t) 16384) p.1 in (
        record {
          all = q.0;
          worth = sym i.1;
          lead = eqb-false (get_or t 0 48) 48 (not-true (eqb (get_or t 0 48) 48) p.0);
        },
        rw i.1 (leb-true (value 0 t) 16384 q.1),
      )

module _ (letter : ℕ) (tags : List (List ℕ)) where
  says_case : (ts : List (List ℕ)) → tagged letter tags ≡ ts → 1 ≤ one_size ts → SaysSide letter tags (one_size ts)
  says_case [] e h = absurd (omega arith)
  says_case (t ∷ []) e h =
      record { text = t; one = e; decimal = (text_says t h).0; least = h; most = (text_says t h).1 }
  says_case (t ∷ u ∷ ts) e h = absurd (omega arith)

  pub says_side : 1 ≤ one_size (tagged letter tags) → SaysSide letter tags (one_size (tagged letter tags))
  says_side h = says_case (tagged letter tags) refl h
