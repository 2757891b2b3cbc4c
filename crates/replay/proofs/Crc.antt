-- Four bits of a CRC-32 at once, by the table of the sixteen halves of a byte.
use Rattle.std.proofs.Common.{◌≡◌, ℕ, ◌+◌, ◌*◌, ◌/◌, ◌%◌, ◌^◌, ◌<◌, cond, eqb, List, [], ◌∷◌, map, slice_index, bit_xor, refl, ap, sym, ◌∙◌, arith}
use Rattle.std.proofs.lemmas.List.FromFn.{get_or-map-range_with_len}
use Rattle.std.proofs.lemmas.Nat.{xor_shr, xor_mod, xor_comm, xor_block}
use Rattle.std.specs.Int.Bits.{xor_assoc, xor_zero_l, xor_zero_r}
use Rattle.std.specs.Fn.{iterate}
use Rattle.std.specs.List.{range_with_len}
use Rattle.replay.specs.Printed.{crc_of_bit}

-- what is even beside it is only halved by a bit
of_even : (low high : ℕ) → high % 2 ≡ 0 → crc_of_bit (bit_xor low high) ≡ bit_xor (crc_of_bit low) (high / 2)
unfolding crc_of_bit
of_even low high even =
    let mask = cond (eqb (low % 2) 1) 0xEDB8_8320 0 in
    let half : bit_xor low high / 2 ≡ bit_xor (low / 2) (high / 2) = xor_shr low high 1 in
    let odd : bit_xor low high % 2 ≡ low % 2 = xor_mod low high 1 ∙ ap (bit_xor (low % 2)) even ∙ xor_zero_r (low % 2) in
    rw (half, odd)
    (xor_assoc (low / 2) (high / 2) mask ∙ ap (bit_xor (low / 2)) (xor_comm (high / 2) mask) ∙ sym (xor_assoc (low / 2) mask (high / 2)))

twice : (low high half : ℕ) → high ≡ half * 2 → crc_of_bit (bit_xor low high) ≡ bit_xor (crc_of_bit low) half
twice low high half e =
    let even : high % 2 ≡ 0 = omega arith in
    let halved : high / 2 ≡ half = omega arith in
    of_even low high even ∙ ap (bit_xor (crc_of_bit low)) halved

-- four bits of the low half of a byte, with what stands above it
four : (low q : ℕ) → iterate crc_of_bit 4 (bit_xor low (q * 16)) ≡ bit_xor (iterate crc_of_bit 4 low) q
four low q =
    let f = crc_of_bit in
    ap (λ x. f (f (f x))) (twice low (q * 16) (q * 8) (omega arith))
    ∙ ap (λ x. f (f x)) (twice (f low) (q * 8) (q * 4) (omega arith))
    ∙ ap f (twice (f (f low)) (q * 4) (q * 2) (omega arith))
    ∙ twice (f (f (f low))) (q * 2) q (omega arith)

apart : (crc : ℕ) → crc ≡ bit_xor (crc % 16) (crc / 16 * 16)
apart crc =
    let r = crc % 16 in
    let q = crc / 16 in
    let small : r < 2 ^ 4 = omega arith in
    let low : 0 * 2 ^ 4 + r ≡ r = omega arith in
    let high : q * 2 ^ 4 + 0 ≡ q * 16 = omega arith in
    let joined : q * 2 ^ 4 + r ≡ crc = omega arith in
    sym ((λ i. bit_xor (sym low i) (sym high i)) ∙ xor_block 4 0 q r 0 small (omega arith) ∙ (λ i. xor_zero_l q i * 2 ^ 4 + xor_zero_r r i) ∙ joined)

abbrev pub halves : List ℕ
halves = 0x0000_0000 ∷ 0x1DB7_1064 ∷ 0x3B6E_20C8 ∷ 0x26D9_30AC ∷ 0x76DC_4190 ∷ 0x6B6B_51F4 ∷ 0x4DB2_6158 ∷ 0x5005_713C ∷ 0xEDB8_8320 ∷ 0xF00F_9344
    ∷ 0xD6D6_A3E8 ∷ 0xCB61_B38C ∷ 0x9B64_C2B0 ∷ 0x86D3_D2D4 ∷ 0xA00A_E278 ∷ 0xBDBD_F21C ∷ []

are_halves : halves ≡ map (iterate crc_of_bit 4) (range_with_len 0 16)
unfolding crc_of_bit
are_halves = refl

pub of_half : (crc : ℕ) → bit_xor (slice_index halves (crc % 16)) (crc / 16) ≡ iterate crc_of_bit 4 crc
of_half crc =
    let f = iterate crc_of_bit 4 in
    let small : crc % 16 < 16 = omega arith in
    let first : 0 + crc % 16 ≡ crc % 16 = omega arith in
    ap (λ k. bit_xor k (crc / 16)) (ap (λ t. slice_index t (crc % 16)) are_halves ∙ get_or-map-range_with_len f 0 16 (crc % 16) (crc % 16) 0 small first)
    ∙ sym (four (crc % 16) (crc / 16)) ∙ ap f (sym (apart crc))
