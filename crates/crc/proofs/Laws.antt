-- Both checks of bytes that come in two parts, and how large they are.
-- Assumes nothing.
use Rattle.std.proofs.Common.{◌≡◌, ℕ, zero, suc, ◌+◌, ◌*◌, ◌%◌, ◌<◌, Bool, true, false, cond, ltb, List, [], ◌∷◌, ◌++◌, ◌∙◌, arith}
use Rattle.std.specs.List.{fold}
use Rattle.std.proofs.lemmas.List.Sums.{fold-append}
use lib.Bits.{bit_xor, xor_lt}
use Rattle.crc.specs.Crc.{polynomial, shifted, crc_bit, crc_bits, crc_byte, crc_of}
use Rattle.crc.specs.Sum.{sum_of}

-- the sum goes on in the same way from starts that are equal modulo 256
pub sum_mod : (s : List ℕ) (a b : ℕ) → a % 256 ≡ b % 256 → sum_of a s ≡ sum_of b s
sum_mod [] a b e = e
sum_mod (x ∷ s) a b e = sum_mod s (a + x) (b + x) (omega arith)

-- each step may wrap
pub sum_wraps : (s : List ℕ) (start : ℕ) → start < 256 → fold (λ a b. (a + b) % 256) start s ≡ sum_of start s
sum_wraps [] start h = omega arith
sum_wraps (b ∷ s) start h = sum_wraps s ((start + b) % 256) (omega arith) ∙ sum_mod s ((start + b) % 256) (start + b) (omega arith)

pub sum_parts : (start : ℕ) (s t : List ℕ) → sum_of (sum_of start s) t ≡ sum_of start (s ++ t)
sum_parts start s t =
    sum_mod t (sum_of start s) (fold ◌+◌ start s) (omega arith) ∙ rw (fold-append)

pub crc_parts : (start : ℕ) (s t : List ℕ) → crc_of (crc_of start s) t ≡ crc_of start (s ++ t)
crc_parts start s t = rw (fold-append)

-- a CRC has 16 bits
bit_lt : (c : ℕ) → crc_bit c < 65536
unfolding crc_bit
bit_lt c = one (ltb c 0x8000)
  where
    one : (t : Bool) → cond t (shifted c) (bit_xor (shifted c) polynomial) < 65536
    one true = omega arith
    one false = xor_lt 16 (shifted c) polynomial (omega arith) (omega arith)

bits_lt : (n c : ℕ) → c < 65536 → crc_bits n c < 65536
unfolding crc_bits
bits_lt zero c h = h
bits_lt (suc n) c h = bits_lt n (crc_bit c) (bit_lt c)

byte_lt : (c b : ℕ) → crc_byte c b < 65536
unfolding crc_byte crc_bits
byte_lt c b = bits_lt 7 (crc_bit (bit_xor c (b * 256))) (bit_lt _)

pub crc_lt : (s : List ℕ) (start : ℕ) → start < 65536 → crc_of start s < 65536
crc_lt [] start h = h
crc_lt (b ∷ s) start h = crc_lt s (crc_byte start b) (byte_lt start b)
