-- What is kept of one camera from call to call. A call that names another camera, or serves another, leaves its slot, bands and planes as they are;
-- its own steps are band calls that demand 3 speaks of.
-- Assumes nothing.
use Prim.Native.Nat.{ℕ, ◌+◌, ◌≤◌}
use mathlib.Core.Path.{◌≡◌, refl, sym, ap, subst, subst⁻¹, ◌∙◌}
use mathlib.Core.Bool.{true, false, cond, true≢false}
use mathlib.Core.List.{List, [], ◌∷◌, ◌++◌, append-nil}
use native.Mathlib.Nat.{add-zero}
use native.Mathlib.Omega.{arith}
use borrow.Author.Tests.{leb-true, leb-false}
use lib.Dec.{leb}
use Rattle.std.specs.Prelude.{Ok}
use Rattle.yuv_error.specs.Rules.{first_numbers}
use Rattle.yuv_error.specs.Lent.{opening_rules, taken}
use Rattle.yuv_error.proofs.Accepted.{opened as opening_sized}
use Rattle.yuv_error.proofs.Accepts.{opening_passes}
use Rattle.definitions.specs.declared.FrameDescription.{FrameDescription}
use Rattle.band_calls.specs.declared.FrameState.{FrameState}
use Rattle.band_calls.specs.declared.FrameAnswer.{FrameAnswer}
use Rattle.band_calls.specs.BandCall.{state_of, BandCall, BandPost}
use Rattle.band_calls.proofs.Post.{refused_writes_nothing}
use Rattle.band_lists.specs.BandLists.{Fresh, is_accepted, Tally, no_rows, tally_of, Accepted, none, call, first_call, last_call, Follows, Chained, After}
use Rattle.band_lists.specs.BandLists as bands
use Rattle.band_lists.proofs.Accepted.{call_given, call_finished, call_refused}
use Rattle.band_lists.proofs.Demand3.{demand_3}
use Rattle.desk_places.specs.declared.FrameParts.{FrameParts}
use Rattle.desk_places.specs.declared.OpenFrame.{OpenFrame}
use Rattle.desk_places.specs.declared.WaitingBand.{WaitingBand}
use Rattle.desk_places.specs.declared.Slot.{Slot}
use Rattle.desk_places.specs.declared.Slot.TheVariants.{Free, Idle, Waiting}
use Rattle.desk_places.specs.Places.{is_open, with_state, after_band}
use Rattle.desk_bands.specs.Buffers.{Buffers, FramePlanes, planes_in, band_call_in}
use Rattle.desk.specs.DeskCall.{slot_at, opened_frame, StepCall}
use Rattle.desk_lists.specs.DeskLists.{tells}
use Rattle.desk_lists.specs.Isolation.{LastStep, no_step, last_step, SamePlanes, PlanesBack, SameBand, OwnBand, own_band, call_in, waiting_in}
use Rattle.desk_lists.specs.Isolation.{HasRows, planes_after, PlanesLeft, in_view}
use Rattle.desk_lists.proofs.Bands.{met_more, chained_more, last_more, tally_more}
use Rattle.desk_lists.proofs.Apart.{HasParts}

abbrev pub opening_of : FrameDescription → FrameAnswer
opening_of d = record { state = state_of d 0; answer = Ok tt }

-- the last step left the camera with these parts, where an own call was accepted
abbrev pub Seated : LastStep → ℕ → FrameParts → Accepted → Type 0
Seated l c w none = Unit {0}
Seated no_step c w (call j) = ⊥
Seated (last_step k) c w (call j) = HasParts (slot_at k.result.desk c) w

-- what is known of a camera: its band calls and its bands so far, and what stands at its number
pub record Kept (c : ℕ) (d : FrameDescription) (w : FrameParts) (ks : List BandCall) (bs os : List OwnBand) (s : Slot) (source : List ℕ)
    (l : LastStep) : Type 0 where
  pub opened : Fresh d (opening_of d)
  pub met : bands.AllMet ks
  pub chained : Chained (state_of d 0) none ks
  pub own : os ≡ bs ++ waiting_in s source
  pub rows : HasRows d w (tally_of d no_rows ks).n s
  pub planes : in_view c s l ≡ true → PlanesLeft l w (last_call none ks)
  pub seated : is_open s ≡ true → Seated l c w (last_call none ks)

-- ---- planes that come back

-- the frame's planes in the buffers are those that the accepted call left
abbrev Held : Buffers → FrameParts → Accepted → Type 0
Held p w none = Unit {0}
Held p w (call j) = planes_in w p ≡ planes_after j

same_planes : (s : Slot) (w : FrameParts) (p q : Buffers) → HasParts s w → SamePlanes s p q → planes_in w p ≡ planes_in w q
same_planes Free w p q h e = absurd h
same_planes (Idle f) w p q h e = subst (λ (x : FrameParts). planes_in x p ≡ planes_in x q) h e
same_planes (Waiting f b) w p q h e = subst (λ (x : FrameParts). planes_in x p ≡ planes_in x q) h e

comes_back : (l : LastStep) (c : ℕ) (w : FrameParts) (a : Accepted) (p : Buffers) → PlanesBack l p → PlanesLeft l w a → Seated l c w a → Held p w a
comes_back l c w none p back left seated = tt
comes_back no_step c w (call j) p back left seated = absurd seated
comes_back (last_step k) c w (call j) p back left seated = same_planes (slot_at k.result.desk c) w p k.left seated (back c) ∙ left

Held-left : (k : StepCall) (w : FrameParts) (a : Accepted) → Held k.left w a → PlanesLeft (last_step k) w a
Held-left k w none h = tt
Held-left k w (call j) h = h

seat : (k : StepCall) (c : ℕ) (w : FrameParts) (a : Accepted) → HasParts (slot_at k.result.desk c) w → Seated (last_step k) c w a
seat k c w none h = tt
seat k c w (call j) h = h

held_same : (p q : Buffers) (w : FrameParts) (a : Accepted) → planes_in w q ≡ planes_in w p → Held p w a → Held q w a
held_same p q w none e h = tt
held_same p q w (call j) e h = e ∙ h

rows_parts : (d : FrameDescription) (w : FrameParts) (n : ℕ) (s : Slot) → is_open s ≡ true → HasRows d w n s → HasParts s w
rows_parts d w n Free o h = absurd (true≢false (sym o))
rows_parts d w n (Idle f) o h = ap (λ (x : OpenFrame). x.parts) h.0
rows_parts d w n (Waiting f b) o h = ap (λ (x : OpenFrame). x.parts) h.0

waiting_same : (s : Slot) (p q : List ℕ) → SameBand s p q → waiting_in s q ≡ waiting_in s p
waiting_same Free p q e = refl
waiting_same (Idle f) p q e = refl
waiting_same (Waiting f b) p q e = ap (λ (x : List ℕ). record { rows = b.rows; stride = b.stride; bytes = x } ∷ []) (sym e)

open_in_view : (c : ℕ) (s : Slot) (l : LastStep) → is_open s ≡ true → in_view c s l ≡ true
open_in_view c Free l e = absurd (true≢false (sym e))
open_in_view c (Idle f) l e = refl
open_in_view c (Waiting f b) l e = refl

-- after a step that served another, a frame in view is open
view_open : (c : ℕ) (s : Slot) (k : StepCall) → tells c k.result.served ≡ false → in_view c s (last_step k) ≡ true → is_open s ≡ true
view_open c Free k e v = absurd (true≢false (sym v ∙ e))
view_open c (Idle f) k e v = refl
view_open c (Waiting f b) k e v = refl

-- ---- calls of others

module _ {c : ℕ} {d : FrameDescription} {w : FrameParts} {ks : List BandCall} {bs os : List OwnBand} where
  -- the source buffer was seen again, and the waiting band is as it was
  pub other_offer : (s : Slot) (before now : List ℕ) (l : LastStep) → SameBand s now before → Kept c d w ks bs os s before l
      → Kept c d w ks bs os s now l
  other_offer s before now l same a = record {
    opened = a.opened;
    met = a.met;
    chained = a.chained;
    own = a.own ∙ ap (λ (x : List OwnBand). bs ++ x) (waiting_same s now before same);
    rows = a.rows;
    planes = a.planes;
    seated = a.seated;
  }

  -- a step that served another camera, or none
  pub other_step : (k : StepCall) (s : Slot) (before : List ℕ) (l : LastStep) → slot_at k.result.desk c ≡ s → tells c k.result.served ≡ false
      → PlanesBack l k.lent → SameBand s k.lent.source before → (HasParts s w → planes_in w k.left ≡ planes_in w k.lent)
      → Kept c d w ks bs os s before l → Kept c d w ks bs os s k.lent.source (last_step k)
  other_step k s before l slot told back band bytes a =
      let last = last_call none ks in
      let held : is_open s ≡ true → Held k.left w last = λ o.
      let h = rows_parts d w (tally_of d no_rows ks).n s o a.rows in
      held_same k.lent k.left w last (bytes h)
      (comes_back l c w last k.lent back (a.planes (open_in_view c s l o)) (a.seated o)) in
      record {
        opened = a.opened;
        met = a.met;
        chained = a.chained;
        own = a.own ∙ ap (λ (x : List OwnBand). bs ++ x) (waiting_same s k.lent.source before band);
        rows = a.rows;
        planes = λ v. Held-left k w last (held (view_open c s k told v));
        seated = λ o. seat k c w last (subst⁻¹ (λ (x : Slot). HasParts x w) slot (rows_parts d w (tally_of d no_rows ks).n s o a.rows));
      }

-- ---- the camera's own opening and offers

pub opens : (c : ℕ) (d : FrameDescription) (w : FrameParts) (source : List ℕ) (l : LastStep) → (first_numbers (opening_rules d)).number ≡ 0
    → Kept c d w [] [] [] (Idle (opened_frame d w)) source l
opens c d w source l e =
    let sized = opening_sized d e in
    record {
      opened = record { met = record { answered = sym (opening_passes sized); state = refl }; accepted = refl };
      met = tt;
      chained = tt;
      own = refl;
      rows = (refl, omega (arith, sized.height_least));
      planes = λ v. tt;
      seated = λ o. tt;
    }

pub offers : {c : ℕ} {d : FrameDescription} {w : FrameParts} {ks : List BandCall} {bs os : List OwnBand} (f : OpenFrame) (b : WaitingBand)
    (before source : List ℕ) (l : LastStep) → Kept c d w ks bs os (Idle f) before l
    → Kept c d w ks bs (os ++ (own_band b source ∷ [])) (Waiting f b) source l
offers {bs = bs} f b before source l a = record {
  opened = a.opened;
  met = a.met;
  chained = a.chained;
  own = ap (λ (x : List OwnBand). x ++ (own_band b source ∷ [])) (a.own ∙ append-nil bs);
  rows = a.rows;
  planes = λ v. a.planes refl;
  seated = λ o. a.seated refl;
}

-- ---- the camera's own steps

-- the state that the last accepted call handed back, or the opening's
abbrev state_after : FrameState → Accepted → FrameState
state_after o none = o
state_after o (call j) = j.result.state

state_of_lem : (d : FrameDescription) (o : FrameState) (t : Tally) (first last : Accepted) → After d o t first last → state_after o last ≡ state_of d t.n
state_of_lem d o t none none a = a.1
state_of_lem d o t none (call j) a = absurd a
state_of_lem d o t (call i) none a = absurd a
state_of_lem d o t (call i) (call j) a = a.state

-- a frame's planes and carried row as its band call found them
abbrev planes_before : BandCall → FramePlanes
planes_before k = record { y = k.y; u = k.u; v = k.v; carried = k.carried }

abbrev Found : BandCall → Accepted → Type 0
Found k none = Unit {0}
Found k (call j) = planes_before k ≡ planes_after j

follows : (o : FrameState) (a : Accepted) (k : BandCall) → k.state ≡ state_after o a → Found k a → Follows o a k
follows o none k state planes = state
follows o (call j) k state planes = (
  state,
  ap (λ (x : FramePlanes). x.y) planes,
  ap (λ (x : FramePlanes). x.u) planes,
  ap (λ (x : FramePlanes). x.v) planes,
  ap (λ (x : FramePlanes). x.carried) planes,
)

found : (k : BandCall) (w : FrameParts) (p : Buffers) (a : Accepted) → planes_before k ≡ planes_in w p → Held p w a → Found k a
found k w p none e h = tt
found k w p (call j) e h = e ∙ h

-- what stands at the number once n rows are done
record Stands (c : ℕ) (d : FrameDescription) (w : FrameParts) (n : ℕ) (source : List ℕ) (s : Slot) : Type 0 where
  pub rows : HasRows d w n s
  pub nothing : waiting_in s source ≡ []
  pub parts : is_open s ≡ true → HasParts s w

stands : (c : ℕ) (d : FrameDescription) (w : FrameParts) (n : ℕ) (source : List ℕ) (g : OpenFrame) → g.parts ≡ w → n ≤ d.height
    → Stands c d w n source (after_band g (state_of d n))
stands c d w n source g is most = (elim (leb d.height n) as (λ t. leb d.height n ≡ t
    → Stands c d w n source (cond t Free (Idle (with_state g (state_of d n))))) [
      | true ↦ λ e. record { rows = omega (arith, leb-true d.height n e); nothing = refl; parts = λ o. absurd (true≢false (sym o)) }
      | false ↦ λ e. record {
        rows = (ap (λ (x : FrameParts). record { state = state_of d n; parts = x }) is, leb-false d.height n e);
        nothing = refl;
        parts = λ o. is;
      }
    ]) refl

module _ (c : ℕ) (d : FrameDescription) (w : FrameParts) (ks : List BandCall) (bs os : List OwnBand) (g : OpenFrame) (b : WaitingBand)
    (before : List ℕ) (l : LastStep) (a : Kept c d w ks bs os (Waiting g b) before l) (k : StepCall) (back : PlanesBack l k.lent)
    (band : SameBand (Waiting g b) k.lent.source before) where
  abbrev t : Tally
  t = tally_of d no_rows ks

  abbrev last : Accepted
  last = last_call none ks

  is_state : g.state ≡ state_of d t.n
  is_state = ap (λ (x : OpenFrame). x.state) a.rows.0

  is_parts : g.parts ≡ w
  is_parts = ap (λ (x : OpenFrame). x.parts) a.rows.0

  held : Held k.lent w last
  held = comes_back l c w last k.lent back (a.planes refl) (a.seated refl)

  same_band : own_band b before ≡ own_band b k.lent.source
  same_band = ap (λ (x : List ℕ). record { rows = b.rows; stride = b.stride; bytes = x }) (sym band)

  -- the band is used up
  used_up : (s : Slot) → waiting_in s k.lent.source ≡ [] → os ≡ (bs ++ (own_band b k.lent.source ∷ [])) ++ waiting_in s k.lent.source
  used_up s empty =
      a.own ∙ ap (λ (x : OwnBand). bs ++ (x ∷ [])) same_band
      ∙ sym (ap (λ (x : List OwnBand). (bs ++ (own_band b k.lent.source ∷ [])) ++ x) empty ∙ append-nil (bs ++ (own_band b k.lent.source ∷ [])))

  -- 18: no call was made
  pub drops : k.left ≡ k.lent → slot_at k.result.desk c ≡ after_band g g.state
      → Kept c d w ks (bs ++ (own_band b k.lent.source ∷ [])) os (slot_at k.result.desk c) k.lent.source (last_step k)
  drops kept slot =
      let most : t.n ≤ d.height = omega (arith, a.rows.1) in
      let s = subst⁻¹ (Stands c d w t.n k.lent.source) (slot ∙ ap (after_band g) is_state)
      (stands c d w t.n k.lent.source g is_parts most) in
      record {
        opened = a.opened;
        met = a.met;
        chained = a.chained;
        own = used_up (slot_at k.result.desk c) s.nothing;
        rows = s.rows;
        planes = λ v. Held-left k w last (held_same k.lent k.left w last (ap (planes_in w) kept) held);
        seated = λ o. seat k c w last (s.parts o);
      }

  module _ (r : FrameAnswer) (post : BandPost (band_call_in g b k.lent r k.left))
      (slot : slot_at k.result.desk c ≡ after_band g r.state) where
    abbrev j : BandCall
    j = call_in g b k r.answer

    abbrev t' : Tally
    t' = tally_of d no_rows (ks ++ (j ∷ []))

    met_j : BandPost j
    met_j = subst BandPost (λ i. band_call_in g b k.lent (record { state = post.state i; answer = r.answer }) k.left) post

    Follows-last : Follows (state_of d 0) last j
    Follows-last =
        let after = (demand_3 d (opening_of d) ks a.opened a.met a.chained).0 in
        follows (state_of d 0) last j (is_state ∙ sym (state_of_lem d (state_of d 0) t (first_call ks) last after))
        (found j w k.lent last (ap (λ (x : FrameParts). planes_in x k.lent) is_parts) held)

    -- the rows done, by the tally
    record Done : Type 0 where
      pub state : r.state ≡ state_of d t'.n
      pub most : t'.n ≤ d.height
      pub held : Held k.left w (last_call none (ks ++ (j ∷ [])))

    by_answer : (n m : ℕ) → taken r.answer b.rows ≡ m → t.n + m ≡ n → r.state ≡ state_of d n
    by_answer n m takes is =
        post.state ∙ ap (λ (x : FrameState). state_of x.frame (x.done + taken r.answer b.rows)) is_state
        ∙ ap (λ (x : ℕ). state_of d (t.n + x)) takes ∙ ap (state_of d) is

    done : Done
    done = (elim (is_accepted j) as (λ x. is_accepted j ≡ x → Done) [
      | true ↦ λ e.
          let all = call_finished j met_j.answered e in
          let tally : t'.n ≡ t.n + b.rows = rw (tally_more d no_rows ks j, e) in
          let given = (call_given j e).given in
          let here : g.state.done ≡ t.n = ap (λ (x : FrameState). x.done) is_state in
          let high : g.state.frame.height ≡ d.height = ap (λ (x : FrameState). x.frame.height) is_state in
          record {
            state = by_answer t'.n b.rows (rw all) (sym tally);
            most = omega (arith, given.rows_most, tally, here, high);
            held = rw (last_more none ks j, e) (ap (λ (x : FrameParts). planes_in x k.left) (sym is_parts));
          }
      | false ↦ λ e.
          let none_taken = call_refused j met_j.answered e in
          let tally : t'.n ≡ t.n = rw (tally_more d no_rows ks j, e) in
          let u = refused_writes_nothing {k = j} none_taken met_j in
          let same : planes_in g.parts k.left ≡ planes_in g.parts k.lent =
          λ i. record { y = u.1 i; u = u.2 i; v = u.3 i; carried = u.4 i } in
          record {
            state = by_answer t'.n 0 (none_taken b.rows) (add-zero t.n ∙ sym tally);
            most = omega (arith, a.rows.1, tally);
            held = rw (last_more none ks j, e) (held_same k.lent k.left w last
                (subst (λ (x : FrameParts). planes_in x k.left ≡ planes_in x k.lent) is_parts same) held);
          }
    ]) refl

    pub serves : Kept c d w (ks ++ (j ∷ [])) (bs ++ (own_band b k.lent.source ∷ [])) os (slot_at k.result.desk c) k.lent.source (last_step k)
    serves =
        let z = done in
        let s = subst⁻¹ (Stands c d w t'.n k.lent.source) (slot ∙ ap (after_band g) z.state)
        (stands c d w t'.n k.lent.source g is_parts z.most) in
        record {
          opened = a.opened;
          met = met_more ks j a.met met_j;
          chained = chained_more (state_of d 0) none ks j a.chained (λ _. Follows-last);
          own = used_up (slot_at k.result.desk c) s.nothing;
          rows = s.rows;
          planes = λ v. Held-left k w (last_call none (ks ++ (j ∷ []))) z.held;
          seated = λ o. seat k c w (last_call none (ks ++ (j ∷ []))) (s.parts o);
        }
