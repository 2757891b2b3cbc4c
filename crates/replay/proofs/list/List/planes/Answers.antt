-- `planes` meets its contract: as many zeros for each plane as the number that was read for it.
use Rattle.std.proofs.Common.{◌≡◌, ◌∙◌, ap, drop, replicate, ℕ, List, rules}
use Rattle.std.proofs.lemmas.List.{drop-drop}
use Rattle.replay.specs.Stored.{next_room}
use Rattle.replay.specs.Sources.{Reads}
use Rattle.replay.proofs.Sources.{reads, reads_on}
use Rattle.replay.proofs.list.List.planes.Goals as goal

abbrev pub AreRooms : (most y u v : ℕ) → (old new : List ℕ) → Type 0
AreRooms most y u v old new =
    (y ≡ next_room most old) × (u ≡ next_room most (drop 4 old)) × (v ≡ next_room most (drop 8 old)) × (new ≡ drop 12 old)

rooms : (most y u v : ℕ) (a b c d : List ℕ → Type 0) → Reads a b (λ old new. (y ≡ next_room most old) × (new ≡ drop 4 old))
    → Reads b c (λ old new. (u ≡ next_room most old) × (new ≡ drop 4 old)) → Reads c d (λ old new. (v ≡ next_room most old) × (new ≡ drop 4 old))
    → Reads a d (AreRooms most y u v)
rooms most y u v a b c d p q r =
    reads_on a c d (λ old new. (y ≡ next_room most old) × (u ≡ next_room most (drop 4 old)) × (new ≡ drop 8 old)) _ (AreRooms most y u v)
    (reads_on a b c _ _ (λ old new. (y ≡ next_room most old) × (u ≡ next_room most (drop 4 old)) × (new ≡ drop 8 old)) p q
    (λ xs ys zs m n. (m.0, n.0 ∙ ap (next_room most) m.1, n.1 ∙ ap (drop 4) m.1 ∙ drop-drop 4 4 xs)))
    r
    (λ xs ys zs m n. (m.0, m.1, n.0 ∙ ap (next_room most) m.2, n.1 ∙ ap (drop 4) m.2 ∙ drop-drop 4 8 xs))

pub returns-clause-left : goal.returns-clause-left
returns-clause-left g c =
    reads _ _ _ (λ old new. new ≡ drop 12 old)
    (rooms c.args.most c.room-y.result c.room-u.result c.room-v.result _ _ _ _ c.room-y.ensures.value c.room-u.ensures.value c.room-v.ensures.value)
    (λ xs ys h. h.3)

pub returns-clause-zeros : goal.returns-clause-zeros
returns-clause-zeros g c =
    let most = c.args.most in
    let y = c.in_ok-vec.field-0.items in
    let u = c.in_ok-vec-2.field-0.items in
    let v = c.in_ok-vec-3.field-0.items in
    let y_is : y ≡ replicate c.room-y.result 0 = search rules in
    let u_is : u ≡ replicate c.room-u.result 0 = search rules in
    let v_is : v ≡ replicate c.room-v.result 0 = search rules in
    reads _ _ _
    (λ old new. (y ≡ replicate (next_room most old) 0) × (u ≡ replicate (next_room most (drop 4 old)) 0) × (v ≡ replicate (next_room most (drop 8 old)) 0))
    (rooms most c.room-y.result c.room-u.result c.room-v.result _ _ _ _ c.room-y.ensures.value c.room-u.ensures.value c.room-v.ensures.value)
    (λ xs ys h. (y_is ∙ ap (λ n. replicate n 0) h.0, u_is ∙ ap (λ n. replicate n 0) h.1, v_is ∙ ap (λ n. replicate n 0) h.2))
