-- Single calls in order have one outcome: the frame call's promise leaves no byte and no answer open.
-- Assumes nothing.
use Prim.Native.Nat.{ℕ, suc}
use mathlib.Core.Path.{◌≡◌, refl, sym, ap, subst, ◌∙◌}
use mathlib.Core.Bool.{Bool, true, false}
use mathlib.Core.List.{List}
use Rattle.yuv_error.specs.declared.YuvError.{YuvError}
use Rattle.sharp_rgba_to_yuv.specs.FrameCall.{frame_call}
use Rattle.sharp_rgba_to_yuv.proofs.SameFrames.{alpha_and_padding}
use Rattle.convoy_parts.specs.declared.ConvoyFrame.{ConvoyFrame}
use Rattle.yuv_error.specs.Lent.{lengths_of}
use Rattle.buffer_parts.specs.Parts.{part_of}
use Rattle.convoy_parts.specs.Parts.{broken_parts}
use Rattle.convoy.specs.declared.ConvoyAnswer.{ConvoyAnswer}
use Rattle.convoy.specs.Run.{Planes, parts_of, with_parts, SinglePost, CallPost, Run, ended, stopped, went_on, is_broken}
use Rattle.convoy.specs.Alone.{OneOutcome}
use Rattle.convoy.proofs.Calls.{planes_equal}
use Rattle.std.specs.Prelude.{Option, None, Some, Result, Ok}
use Rattle.definitions.specs.declared.FrameDescription.{FrameDescription}

single_one : (d : Option FrameDescription) (stride : ℕ) (source : List ℕ) (p : Planes) (a : Result Unit YuvError) (q : Planes) (b : Result Unit YuvError) (r : Planes)
    → SinglePost d stride source p a q → SinglePost d stride source p b r → (a ≡ b) × (q ≡ r)
single_one None stride source p a q b r x y = (x.0 ∙ sym y.0, x.1 ∙ sym y.1)
single_one (Some d) stride source p a q b r x y =
    let same = alpha_and_padding (frame_call d stride source p.y p.u p.v a q.y q.u q.v)
    (frame_call d stride source p.y p.u p.v b r.y r.u r.v) x y (record { size = refl; others = refl }) (λ _ _ _ _ _ _. refl) in
    (same.0, planes_equal same.1 same.2 same.3)

pub call_one : (f : ConvoyFrame) (source : List ℕ) (p : Planes) (a : Result Unit YuvError) (q : Planes) (b : Result Unit YuvError) (r : Planes) → CallPost f source p a q
    → CallPost f source p b r → (a ≡ b) × (q ≡ r)
call_one f source p a q b r x y = single_one f.described f.stride (part_of f.source source) (parts_of f p) a q b r x y

pub one_Run : (source : List ℕ) (fs : List ConvoyFrame) (p : Planes) (a : Result Unit YuvError) (n : ℕ) (q : Planes) (b : Result Unit YuvError) (m : ℕ) (r : Planes)
    → Run source fs p a n q → Run source fs p b m r → (a ≡ b) × (n ≡ m) × (q ≡ r)
one_Run source fs p a n q b m r ended ended = (refl, refl, refl)
one_Run source fs p a n q b m r (stopped {f = f} left post) (stopped left' post') = ((call_one f source p a left b left' post post').0, refl, refl)
one_Run source fs p a n q b m r (stopped {f = f} left post) (went_on left' post' run') =
    absurd (cc (call_one f source p a left (Ok tt) left' post post').0)
one_Run source fs p a n q b m r (went_on {f = f} left post run) (stopped left' post') =
    absurd (cc (call_one f source p (Ok tt) left b left' post post').0)
one_Run source fs p a n q b m r (went_on {f = f} {fs = gs} {n = i} left post run) (went_on {n = j} left' post' run') =
    let is = (call_one f source p (Ok tt) left (Ok tt) left' post post').1 in
    let same = one_Run source gs (with_parts f p left) a i q b j r run
    (subst (λ (x : Planes). Run source gs (with_parts f p x) b j r) (sym is) run') in
    (same.0, ap suc same.1, same.2)

-- an answer is known by its parts
result_equal : (x y : ConvoyAnswer) → x.answer ≡ y.answer → x.done ≡ y.done → x ≡ y
result_equal x y a d =
    ap (λ (b : Result Unit YuvError). answered b x.done) a ∙ ap (λ (n : ℕ). answered y.answer n) d
  where
    answered : Result Unit YuvError → ℕ → ConvoyAnswer
    answered b n = record { answer = b; done = n }

pub one_outcome : OneOutcome
one_outcome k j post post' c s b = go (is_broken k) refl
  where
    broken : is_broken j ≡ is_broken k
    broken =
        ap (λ (x : List ConvoyFrame). broken_parts x (lengths_of j.source j.before.y j.before.u j.before.v)) c
        ∙ ap (λ (x : List ℕ). broken_parts k.convoy (lengths_of x j.before.y j.before.u j.before.v)) s
        ∙ ap (λ (x : Planes). broken_parts k.convoy (lengths_of k.source x.y x.u x.v)) b

    go : (t : Bool) → is_broken k ≡ t → (k.result ≡ j.result) × (k.after ≡ j.after)
    go true e =
        let x = post.broken e in
        let y = post'.broken (broken ∙ e) in
        (x.0 ∙ sym y.0, x.1 ∙ sym b ∙ sym y.1)
    go false e =
        let r = j.result in
        let run =
        subst (λ (x : Planes). Run k.source k.convoy x r.answer r.done j.after) b
        (subst (λ (x : List ℕ). Run x k.convoy j.before r.answer r.done j.after) s
        (subst (λ (x : List ConvoyFrame). Run j.source x j.before r.answer r.done j.after) c (post'.run (broken ∙ e)))) in
        let same = one_Run k.source k.convoy k.before k.result.answer k.result.done k.after r.answer r.done
        j.after
        (post.run e) run in
        (result_equal k.result j.result same.0 same.1, same.2)
