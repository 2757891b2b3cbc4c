-- A part of a lent buffer, by offset and length; what it means that it lies inside, that two overlap, and that its bytes were replaced:
-- docs/RULES.md, 15.1.
-- Numbers here have no end, so offset + length is what it says, whatever a machine's sum would be.
-- Assumes nothing.
use Rattle.std.specs.Prelude.{ℕ, ◌+◌, ◌≤◌, ◌<◌, min, max, ◌≡◌, Bool, true, List, ◌++◌, ◌↔◌, ltb, leb, length, get_or, take, drop}
use Rattle.buffer_parts.specs.declared.BufferPart.{BufferPart}

-- RULES 15.1: byte i of the buffer is of the part
abbrev pub InPart : BufferPart → (i : ℕ) → Type 0
InPart p i = (p.offset ≤ i) × (i < p.offset + p.length)

-- RULES 15.1: the part ends within a buffer of n bytes
abbrev pub Inside : BufferPart → (n : ℕ) → Type 0
Inside p n = p.offset + p.length ≤ n

-- RULES 15.1: some byte is of both parts
abbrev pub Overlap : BufferPart → BufferPart → Type 0
Overlap a b = (i : ℕ) × (InPart a i × InPart b i)

-- RULES 15.1: the same as tests
abbrev pub is_inside : BufferPart → (n : ℕ) → Bool
is_inside p n = leb (p.offset + p.length) n

-- RULES 15.1: the later start stands before the earlier end
abbrev pub are_overlapping : BufferPart → BufferPart → Bool
are_overlapping a b = ltb (max a.offset b.offset) (min (a.offset + a.length) (b.offset + b.length))

-- RULES 15.1: each test says yes exactly where it is so
pub record TestsAreExact : Type 0 where
  pub inside : (p : BufferPart) (n : ℕ) → (is_inside p n ≡ true) ↔ Inside p n
  pub overlap : (a b : BufferPart) → (are_overlapping a b ≡ true) ↔ Overlap a b

-- RULES 15.1: the bytes of a part, of a buffer of bytes or of whatever else
abbrev pub part_of : {A : Type 0} → BufferPart → (buffer : List A) → List A
part_of p buffer = take p.length (drop p.offset buffer)

-- RULES 15.1: the buffer with other bytes in their place
unfoldable pub with_part : {A : Type 0} → BufferPart → (buffer bytes : List A) → List A
with_part p buffer bytes = take p.offset buffer ++ (bytes ++ drop (p.offset + p.length) buffer)

-- RULES 15.1: as many bytes as before, and each that is not of the part as it was
pub record Elsewhere (p : BufferPart) (before after : List ℕ) : Type 0 where
  pub size : length after ≡ length before
  pub byte : (i : ℕ) → (InPart p i → ⊥) → get_or after i 0 ≡ get_or before i 0
