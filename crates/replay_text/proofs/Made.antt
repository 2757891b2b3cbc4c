-- A line that was read, and the call that was made for it.
use Rattle.std.proofs.Common.{◌≡◌, ℕ, ◌<◌, List, ◌∷◌, [], length, refl, subst, codes, Result, Ok, IfSome, IfOk}
use Rattle.std.specs.Borrow.{Bor, MutBor}
use Rattle.std.specs.Fn.{Mut, Called}
use Rattle.std.specs.Io.KnownBytes.{Appends}
use Rattle.std.specs.Io.BufRead.{DropsThrough, first_piece}
use Rattle.std.specs.declared.option.Option.{Option}
use Rattle.replay_text.specs.Lines.{IsCut, IsLine, request_of, Replies}

-- the piece that `split` gave is a line
pub line_read : {X E : Type 0} (bytes : X → List ℕ) (old new : Option (List ℕ)) (r : Result X E) (x : X) (byte : ℕ)
    → IfOk r (λ y. IfSome old (λ xs. (0 < length xs) × (bytes y ≡ first_piece byte xs)) × DropsThrough old new byte) → r ≡ Ok x → byte ≡ 10
    → IsLine old (bytes x) new
line_read {X} {E} bytes old new r x byte h e b =
    let P : Result X E → ℕ → Type 0 = λ k n. IfOk k (λ y. IfSome old (λ xs. (0 < length xs) × (bytes y ≡ first_piece n xs)) × DropsThrough old new n) in
    subst (P (Ok x)) b (subst (λ k. P k byte) e h)

module _ {F W E : Type 0} (g : Mut F (Bor (List ℕ) × (MutBor W × Unit {0})) (Result Unit E × (MutBor W × Unit {0}))) (contents : W → Option (List ℕ)) (room : ℕ) where
  pub replies : {f f' : F} {r : Result Unit E} {line name words : List ℕ} {request : Bor (List ℕ)} {w w' : W} {o q : MutBor W} (named : W)
      → IsCut 124 line name words → request.now ≡ request_of words room → Appends (contents w) (contents named) name → Appends (contents named) (contents o.now) (codes "| ")
      → Called g f (request, (o, tt)) (r, (q, tt)) f' → r ≡ Ok tt → Appends (contents q.now) (contents w') (10 ∷ [])
      → Replies g contents room (f, w) line (f', w')
  replies {f} {f'} {name = name} {words = words} {request = request} {o = o} {q = q} named is_cut is_request first bar h e last = record {
    name = name;
    words = words;
    request = request;
    is_cut = is_cut;
    is_request = is_request;
    named = named;
    barred = o.now;
    ended = q.now;
    name_first = first;
    bar_next = bar;
    out = o;
    left = q;
    called = subst (λ k. Called g f (request, (o, tt)) (k, (q, tt)) f') e h;
    before = refl;
    after = refl;
    newline_last = last;
  }
