-- A call that was made and refused nothing.
use Rattle.std.proofs.Common.{◌≡◌, ℕ, List, [], ◌∷◌, ◌++◌, refl, ap, subst, decimal, Result, Ok}
use Rattle.std.specs.List.{FoldsTo}
use Rattle.std.proofs.lemmas.Fn.{FoldsTo-push}
use Rattle.std.specs.Borrow.{MutBor}
use Rattle.std.specs.Fn.{Mut, Called}
use Rattle.std.specs.Io.KnownBytes.{Appends}
use Rattle.std.specs.declared.option.Option.{Option}
use Rattle.replay.specs.Calls.{Gives, EndsAt, Prints}

module _ {F L T : Type 0} (g : Mut F (MutBor L × Unit {0}) (T × (MutBor L × Unit {0}))) where
  pub gives : {f f' : F} {value : T} {l m : MutBor L} → Called g f (l, tt) (value, (m, tt)) f' → Gives g (f, l.now) value (f', m.now)
  gives {f} {f'} {l = l} {m = m} h = record { shown = l; shows = refl; left = m; called = h; leaves = refl }

  -- after the values so far, one more
  pub pushed : (p r q : F × L) (xs ys : List T) (x : T) → ys ≡ xs ++ (x ∷ []) → FoldsTo (Gives g) p xs r → Gives g r x q → FoldsTo (Gives g) p ys q
  pushed p r q xs ys x e h k = rw e (FoldsTo-push (Gives g) p xs r x q h k)

module _ {F L W E : Type 0} (g : Mut F (ℕ × (MutBor L × (MutBor W × Unit {0}))) (Result Unit E × (MutBor L × (MutBor W × Unit {0})))) where
  pub ends_at : {f f' : F} {number : ℕ} {r given : Result Unit E} {l m : MutBor L} {o q : MutBor W}
      → Called g f (number, (l, (o, tt))) (r, (m, (q, tt))) f' → r ≡ given → EndsAt g given (f, l.now, o.now) number (f', m.now, q.now)
  ends_at {f} {f'} {number} {l = l} {m = m} {o = o} {q = q} h e = record {
    list = l;
    out = o;
    list_left = m;
    out_left = q;
    called = subst (λ k. Called g f (number, (l, (o, tt))) (k, (m, (q, tt))) f') e h;
    before = (refl, refl);
    after = (refl, refl);
  }

module _ {F L W E : Type 0} (g : Mut F (MutBor L × (MutBor W × Unit {0})) (Result Unit E × (MutBor L × (MutBor W × Unit {0}))))
    (contents : W → Option (List ℕ)) where
  pub prints : {f f' : F} {number : ℕ} {r : Result Unit E} {l m : MutBor L} {w w' : W} {o q : MutBor W} → Appends (contents w) (contents o.now) (decimal number)
      → Called g f (l, (o, tt)) (r, (m, (q, tt))) f' → r ≡ Ok tt → Appends (contents q.now) (contents w') (10 ∷ [])
      → Prints g contents (f, l.now, w) number (f', m.now, w')
  prints {f} {f'} {l = l} {m = m} {o = o} {q = q} first h e last = record {
    numbered = o.now;
    ended = q.now;
    number_first = first;
    list = l;
    out = o;
    list_left = m;
    out_left = q;
    called = subst (λ k. Called g f (l, (o, tt)) (k, (m, (q, tt))) f') e h;
    before = (refl, refl);
    after = (refl, refl);
    newline_last = last;
  }

-- steps of one kind are steps of another, seen from what each leaves
pub seen : {P Q A : Type 0} (R : P → A → P → Type 0) (S : Q → A → Q → Type 0) (h : P → Q) → ((p : P) (x : A) (q : P) → R p x q → S (h p) x (h q))
    → (p : P) (xs : List A) (q : P) → FoldsTo R p xs q → FoldsTo S (h p) xs (h q)
seen R S h each p [] q e = ap h e
seen R S h each p (x ∷ xs) q (j, r, rest) = (h j, each p x j r, seen R S h each j xs q rest)
