-- The calls that were made of a list: of a closure that is lent the list, and the writer too.
use Rattle.std.specs.Prelude.{◌≡◌, ℕ, ◌+◌, ◌<◌, List, [], ◌∷◌, decimal, Result, Ok, Err}
use Rattle.std.specs.List.{FoldsTo, range_with_len}
use Rattle.std.specs.Borrow.{MutBor}
use Rattle.std.specs.Fn.{Mut, Called, CalledAtMut}
use Rattle.std.specs.Io.KnownBytes.{Appends}
use Rattle.std.specs.declared.option.Option.{Option}

module _ {F L T : Type 0} (g : Mut F (MutBor L × Unit {0}) (T × (MutBor L × Unit {0}))) where
  -- a call gave this value: the closure and the list before it, and after it
  abbrev pub Gives : F × L → T → F × L → Type 0
  Gives p value q = CalledAtMut g p.0 p.1 value q.0 q.1

module _ {F L W E : Type 0} (g : Mut F (ℕ × (MutBor L × (MutBor W × Unit {0}))) (Result Unit E × (MutBor L × (MutBor W × Unit {0})))) where
  -- the call of this number was made, and gave this: the closure, the list and the writer before it, and after it
  pub record EndsAt (given : Result Unit E) (p : F × L × W) (number : ℕ) (q : F × L × W) : Type 0 where
    pub list : MutBor L
    pub out : MutBor W
    pub list_left : MutBor L
    pub out_left : MutBor W
    pub called : Called g p.0 (number, (list, (out, tt))) (given, (list_left, (out_left, tt))) q.0
    pub before : (list.now ≡ p.1) × (out.now ≡ p.2)
    pub after : (list_left.now ≡ q.1) × (out_left.now ≡ q.2)

  -- it was made, and refused nothing
  abbrev pub CallsAt : F × L × W → ℕ → F × L × W → Type 0
  CallsAt = EndsAt (Ok tt)

  -- of so many calls one gave this error, and those before it refused nothing
  pub record StopsAt (p : F × L × W) (count : ℕ) (error : E) (q : F × L × W) : Type 0 where
    pub done : ℕ
    pub within : done < count
    pub stop : F × L × W
    pub made : FoldsTo CallsAt p (range_with_len 1 done) stop
    pub failed : EndsAt (Err error) stop (done + 1) q

module _ {F L W E : Type 0} (g : Mut F (MutBor L × (MutBor W × Unit {0})) (Result Unit E × (MutBor L × (MutBor W × Unit {0}))))
    (contents : W → Option (List ℕ)) where
  -- the number of a call was written, then what the call wrote, and then a newline
  pub record Prints (p : F × L × W) (number : ℕ) (q : F × L × W) : Type 0 where
    pub numbered : W
    pub ended : W
    pub number_first : Appends (contents p.2) (contents numbered) (decimal number)
    pub list : MutBor L
    pub out : MutBor W
    pub list_left : MutBor L
    pub out_left : MutBor W
    pub called : Called g p.0 (list, (out, tt)) (Ok tt, (list_left, (out_left, tt))) q.0
    pub before : (list.now ≡ p.1) × (out.now ≡ numbered)
    pub after : (list_left.now ≡ q.1) × (out_left.now ≡ ended)
    pub newline_last : Appends (contents ended) (contents q.2) (10 ∷ [])
