-- What is printed of a call, as bytes.
use Rattle.std.specs.Prelude.{ℕ, ◌-◌, ◌/◌, ◌%◌, false, cond, eqb, List, ◌++◌, length, replicate, fold, flat_map, bit_xor, codes, decimal}
use Rattle.std.specs.Fmt.{digits}
use Rattle.std.specs.Fn.{iterate}
use Rattle.yuv_error.specs.Numbers.{Numbers}

-- number, expected and received, each after a space
abbrev pub answer_text : Numbers → List ℕ
answer_text n = codes " " ++ (decimal n.number ++ (codes " " ++ (decimal n.expected ++ (codes " " ++ decimal n.received))))

-- each number after a space
abbrev pub numbers_text : List ℕ → List ℕ
numbers_text = flat_map (λ number. codes " " ++ decimal number)

-- CRC-32 as in zlib and PNG, one bit at a time: the reflected polynomial EDB88320, all ones at the start, inverted at the end
unfoldable pub crc_of_bit : ℕ → ℕ
crc_of_bit crc = bit_xor (crc / 2) (cond (eqb (crc % 2) 1) 0xEDB8_8320 0)

unfoldable pub crc_of_byte : ℕ → (byte : ℕ) → ℕ
crc_of_byte crc byte = iterate crc_of_bit 8 (bit_xor crc byte)

unfoldable pub crc32 : List ℕ → ℕ
crc32 bytes = bit_xor (fold crc_of_byte 0xFFFF_FFFF bytes) 0xFFFF_FFFF

-- a number in base 16, with zeros before it where it has fewer than so many digits
unfoldable pub in_base_16 : (least : ℕ) → ℕ → List ℕ
in_base_16 least n = let shown = digits 16 false n in replicate (least - length shown) 48 ++ shown

-- the CRC-32 of some bytes, as eight digits
abbrev pub digest_text : List ℕ → List ℕ
digest_text bytes = in_base_16 8 (crc32 bytes)

-- the digest of each plane
abbrev pub planes_text : (y u v : List ℕ) → List ℕ
planes_text y u v = codes " y=" ++ (digest_text y ++ (codes " u=" ++ (digest_text u ++ (codes " v=" ++ digest_text v))))

-- the answer, the size, and the digest of the output
abbrev pub left_text : Numbers → (size : ℕ) → (output : List ℕ) → List ℕ
left_text answer size output = answer_text answer ++ (codes " size=" ++ (decimal size ++ (codes " output=" ++ digest_text output)))
