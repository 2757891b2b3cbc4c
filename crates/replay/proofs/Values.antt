-- What was read, by the number or the bytes that it was made of.
use Rattle.std.proofs.Common.{◌≡◌, ◌∙◌, ℕ, List, ap, drop, min, Float}
use Rattle.std.specs.Int.{from_le_bytes, w32, w64}
use Rattle.replay.specs.Stored.{next_bytes, next_room, float_of, IsNumber, IsWide, IsFloat}
use Rattle.replay.specs.Sources.{Reads}
use Rattle.replay.proofs.Sources.{reads}

pub number_read : (a b : List ℕ → Type 0) (array : List ℕ) (n : ℕ) → n ≡ from_le_bytes w32 array
    → Reads a b (λ old new. (array ≡ next_bytes 4 old) × (new ≡ drop 4 old)) → Reads a b (λ old new. IsNumber old new n)
number_read a b array n e p = reads a b _ (λ old new. IsNumber old new n) p (λ xs ys h. (e ∙ ap (from_le_bytes w32) h.0, h.1))

pub wide_read : (a b : List ℕ → Type 0) (array : List ℕ) (n : ℕ) → n ≡ from_le_bytes w64 array
    → Reads a b (λ old new. (array ≡ next_bytes 8 old) × (new ≡ drop 8 old)) → Reads a b (λ old new. IsWide old new n)
wide_read a b array n e p = reads a b _ (λ old new. IsWide old new n) p (λ xs ys h. (e ∙ ap (from_le_bytes w64) h.0, h.1))

pub float_read : (a b : List ℕ → Type 0) (n : ℕ) (x : Float) → x ≡ float_of n → Reads a b (λ old new. IsNumber old new n) → Reads a b (λ old new. IsFloat old new x)
float_read a b n x e p = reads a b _ (λ old new. IsFloat old new x) p (λ xs ys h. (e ∙ ap float_of h.0, h.1))

pub room_read : (a b : List ℕ → Type 0) (most n room : ℕ) → room ≡ min n most → Reads a b (λ old new. IsNumber old new n)
    → Reads a b (λ old new. (room ≡ next_room most old) × (new ≡ drop 4 old))
room_read a b most n room e p = reads a b _ (λ old new. (room ≡ next_room most old) × (new ≡ drop 4 old)) p (λ xs ys h. (e ∙ ap (λ k. min k most) h.0, h.1))
