-- Laws of putting a text into a list: one byte, a text behind another, and a text at the start.
-- Assumes nothing.
use Prim.Native.Nat.{ℕ, ◌+◌, ◌≤◌}
use mathlib.Core.Path.{◌≡◌, refl, sym, ap, ◌∙◌}
use mathlib.Core.List.{List, [], ◌++◌, append_assoc}
use native.Mathlib.Nat.{zero-add}
use native.Mathlib.Omega.{arith}
use lib.ListN.{length, take, drop, length-append}
use lib.Seq.{sets, sets-eq, take_at, drop_at, drop-drop, length-take-le}
use Rattle.frame_request.specs.Reply.{Begins}
use Rattle.frame_request.proofs.Reply.{Begins-more}
use Rattle.counts_request.specs.declared.Text.{Text}
use Rattle.counts_request.specs.Puts.{Puts, PutsInto}

pub Puts-more : {s e o p q : List ℕ} {a b c : ℕ} → a ≤ length o → Puts s a o b p → Puts e b p c q → Puts (s ++ e) a o c q
Puts-more {s} {e} {o} {p} {q} {a} {b} {c} l f g =
    let front : length (take a o ++ s) ≡ b = length-append (take a o) s ∙ omega (arith, length-take-le a o l, f.size) in
    let is : p ≡ (take a o ++ s) ++ drop b o = f.is ∙ sym (append_assoc (take a o) s (drop b o)) in
    let low : take b p ≡ take a o ++ s = ap (take b) is ∙ take_at (take a o ++ s) (drop b o) b front in
    let high : drop b p ≡ drop b o = ap (drop b) is ∙ drop_at (take a o ++ s) (drop b o) b front in
    let past : drop c p ≡ drop c o = rw g.size (sym (drop-drop (length e) b p) ∙ ap (drop (length e)) high ∙ drop-drop (length e) b o) in
    record {
      size = omega (arith, f.size, g.size, length-append s e);
      is = g.is ∙ rw (low, past) (simp append_assoc);
    }

-- a run that is put down is a text
pub sets-Puts : {t o q : List ℕ} {a b : ℕ} → a + length t ≤ length o → q ≡ sets o a t → b ≡ a + length t → Puts t a o b q
sets-Puts {t} {o} {q} {a} {b} room is end = record {
  size = end;
  is = is ∙ sets-eq t o a room ∙ append_assoc (take a o) t (drop (a + length t) o) ∙ rw end;
}

-- the same of the output that a `Text` fills
pub PutsInto-more : {s e : List ℕ} {old mid new : Text} → old.at ≤ length old.output.now → PutsInto s old mid → PutsInto e mid new → PutsInto (s ++ e) old new
PutsInto-more l f g = record { size = g.size ∙ f.size; loan = g.loan ∙ f.loan; puts = Puts-more l f.puts g.puts }

-- a text at the start of a list
pub Begins-first : {text o q : List ℕ} {n : ℕ} → n ≡ length text → q ≡ text ++ drop n o → Begins text o n q
Begins-first {text} {o} {q} {n} size is = rw zero-add at (Begins-more [] text o o q 0 n refl (sym size) refl is)

pub Puts-Begins : {text o q : List ℕ} {n : ℕ} → Puts text 0 o n q → Begins text o n q
Puts-Begins p = Begins-first (p.size ∙ zero-add _) p.is

-- a text at the start of a list, by another name
pub Begins-as : {text text' o q : List ℕ} {n : ℕ} → text ≡ text' → Begins text o n q → Begins text' o n q
Begins-as same b = rw (← same) b
