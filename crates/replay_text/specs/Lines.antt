-- The lines of a text, and the calls that were made for them.
use Rattle.std.specs.Prelude.{◌≡◌, ◌≢◌, ℕ, ◌+◌, ◌-◌, ◌*◌, ◌/◌, ◌%◌, ◌<◌, ◌⊎◌, ◌&&◌, leb, ltb, eqb, cond, min, List, [], ◌∷◌, ◌++◌, All, map, fold, take, drop, length, slice_index, IfSome, codes, decimal, flat_map, Result, Ok}
use Rattle.std.specs.Borrow.{Bor, MutBor}
use Rattle.std.specs.Fn.{Mut, Called}
use Rattle.std.specs.List.{FoldsTo, range_with_len, position_or_len}
use Rattle.std.specs.Io.KnownBytes.{Appends, IsAtEnd}
use Rattle.std.specs.Io.BufRead.{DropsThrough, first_piece}
use Rattle.std.specs.declared.option.Option.{Option}
use Rattle.replay.specs.Printed.{in_base_16, digest_text}

-- a text's front, up to the first such byte, and what stands behind that byte; or all of it, and nothing
abbrev pub IsCut : (byte : ℕ) → (text front rest : List ℕ) → Type 0
IsCut byte text front rest = All (λ b. b ≢ byte) front × ((text ≡ front ++ byte ∷ rest) ⊎ ((text ≡ front) × (rest ≡ [])))

-- what a character counts as a digit in base 16: 0 where it is none
abbrev pub digit : ℕ → ℕ
digit b = cond (leb 48 b && leb b 57) (b - 48) (cond (leb 65 b && leb b 70) (b - 55) 0)

-- the byte of these characters: two digits, the high one first
abbrev pub byte_at : List ℕ → ℕ → ℕ
byte_at text k = digit (slice_index text (3 * k + 1)) * 16 + digit (slice_index text (3 * k + 2))

-- the bytes of ` 01 00 FF`, of three characters each, as many as there is room for
abbrev pub bytes_of : (text : List ℕ) (room : ℕ) → List ℕ
bytes_of text room = map (byte_at text) (range_with_len 0 (min room (length text / 3)))

-- a number with one digit more; a character that is no digit changes nothing
abbrev pub with_digit : ℕ → ℕ → ℕ
with_digit n b = cond (leb 48 b && leb b 57) (10 * n + (b - 48)) n

-- a number in base 10, of which the last six digits count
abbrev pub number_of : List ℕ → ℕ
number_of text = fold with_digit 0 text % 1000000

-- so many bytes, which are those of a list again and again
abbrev pub again : List ℕ → ℕ → List ℕ
again bytes n = map (λ k. slice_index bytes (k % length bytes)) (range_with_len 0 n)

-- bytes, and those past the ninth again and again, up to so many in all. Nothing comes again where at most nine were given, or where there is
-- less room than that number.
abbrev pub repeated : (bytes : List ℕ) (size room : ℕ) → List ℕ
repeated bytes size room = bytes ++ again (drop 9 bytes) (cond (ltb 9 (length bytes) && leb size room) (size - length bytes) 0)

-- where the first `*` stands, or how many characters there are
abbrev pub star_in : List ℕ → ℕ
star_in words = position_or_len (λ b. eqb b 42) words

-- the request of what stands behind a line's bar: the bytes before the `*`, and as many in all as the number behind it says
abbrev pub request_of : (words : List ℕ) (room : ℕ) → List ℕ
request_of words room = repeated (bytes_of (take (star_in words) words) room) (number_of (drop (star_in words) words)) room

-- what is printed of a reply: how many bytes, and these in base 16, or their digest where they are more than 40
abbrev pub reply_text : List ℕ → List ℕ
reply_text bytes = decimal (length bytes) ++ cond (ltb 40 (length bytes)) (codes " bytes, CRC-32 " ++ digest_text bytes) (codes " bytes " ++ flat_map (in_base_16 2) bytes)

-- the next line was read, up to the first newline
abbrev pub IsLine : Option (List ℕ) → List ℕ → Option (List ℕ) → Type 0
IsLine old line new = IfSome old (λ xs. (0 < length xs) × (line ≡ first_piece 10 xs)) × DropsThrough old new 10

-- these are the lines of the text, to its end
abbrev pub AreLines : Option (List ℕ) → List (List ℕ) → Type 0
AreLines text lines = (end : Option (List ℕ)) × FoldsTo IsLine text lines end × IsAtEnd end

module _ {F W E : Type 0} (g : Mut F (Bor (List ℕ) × (MutBor W × Unit {0})) (Result Unit E × (MutBor W × Unit {0}))) (contents : W → Option (List ℕ)) (room : ℕ) where
  -- a line's name was written and a bar, then what the call of its request wrote, and then a newline
  pub record Replies (p : F × W) (line : List ℕ) (q : F × W) : Type 0 where
    pub name : List ℕ
    pub words : List ℕ
    pub request : Bor (List ℕ)
    pub is_cut : IsCut 124 line name words
    pub is_request : request.now ≡ request_of words room
    pub named : W
    pub barred : W
    pub ended : W
    pub name_first : Appends (contents p.1) (contents named) name
    pub bar_next : Appends (contents named) (contents barred) (codes "| ")
    pub out : MutBor W
    pub left : MutBor W
    pub called : Called g p.0 (request, (out, tt)) (Ok tt, (left, tt)) q.0
    pub before : out.now ≡ barred
    pub after : left.now ≡ ended
    pub newline_last : Appends (contents ended) (contents q.1) (10 ∷ [])
