-- `fill_planes` meets its contract: each call filled its plane.
use Rattle.std.proofs.Common.{rules, ◌≡◌, ℕ, List, subst}
use Rattle.std.proofs.lemmas.List.{with_items_is}
use Rattle.replay.specs.Stored.{IsFilled, AreFilled}
use Rattle.replay.specs.Sources.{Reads}
use Rattle.replay.proofs.Sources.{reads_on}
use Rattle.replay.proofs.list.List.fill_planes.Goals as goal

filled : (old a b new : List ℕ → Type 0) (y u v y' u' v' p q r : List ℕ) → p ≡ y → q ≡ u → r ≡ v → Reads old a (λ m n. IsFilled m n p y')
    → Reads a b (λ m n. IsFilled m n q u') → Reads b new (λ m n. IsFilled m n r v') → Reads old new (λ m n. AreFilled m n (y, u, v) (y', u', v'))
filled old a b new y u v y' u' v' p q r i j k l m n =
    reads_on old b new (λ s t. (o : List ℕ) × IsFilled s o y y' × IsFilled o t u u') (λ s t. IsFilled s t v v') (λ s t. AreFilled s t (y, u, v) (y', u', v'))
    (reads_on old a b (λ s t. IsFilled s t y y') (λ s t. IsFilled s t u u') (λ s t. (o : List ℕ) × IsFilled s o y y' × IsFilled o t u u')
    (subst (λ w. Reads old a (λ s t. IsFilled s t w y')) i l) (subst (λ w. Reads a b (λ s t. IsFilled s t w u')) j m) (λ xs ys zs f g. (ys, f, g)))
    (subst (λ w. Reads b new (λ s t. IsFilled s t w v')) k n)
    (λ xs ys zs f g. record { behind_y = f.0; behind_u = ys; y_filled = f.1; u_filled = f.2; v_filled = g })

pub returns-clause-filled : goal.returns-clause-filled
returns-clause-filled g c =
    let left = g.S.ByteSource.left in
    rw (
      with_items_is c.args.planes.now.y c.fill.new.buffer (search rules),
      with_items_is c.args.planes.now.u c.fill-2.new.buffer (search rules),
      with_items_is c.args.planes.now.v c.fill-3.new.buffer (search rules),
    )
    (filled _ (left c.fill.new.self.rest) (left c.fill-2.new.self.rest) _ _ _ _ _ _ _ c.deref_mut.result.now c.deref_mut-2.result.now c.deref_mut-3.result.now
    c.deref_mut.ensures.value c.deref_mut-2.ensures.value c.deref_mut-3.ensures.value c.fill.ensures.filled c.fill-2.ensures.filled c.fill-3.ensures.filled)
