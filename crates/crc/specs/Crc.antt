-- The CRC of a frame (R102.5): 16 bits, polynomial 0x1021, no reflection, no final inversion, bit by bit, from any start.
use Rattle.std.specs.Prelude.{ℕ, zero, suc, ◌*◌, ◌%◌, cond, List, bit_xor, nat_lt, fold}

abbrev pub polynomial : ℕ
polynomial = 0x1021

-- the 16 bits move up by one
abbrev pub shifted : ℕ → ℕ
shifted c = c * 2 % 65536

-- one bit: if the bit that moves out at the top is 1, the polynomial goes in
unfoldable pub crc_bit : ℕ → ℕ
crc_bit c = cond (nat_lt c 0x8000) (shifted c) (bit_xor (shifted c) polynomial)

-- n bits
unfoldable pub crc_bits : ℕ → ℕ → ℕ
crc_bits zero c = c
crc_bits (suc n) c = crc_bits n (crc_bit c)

-- a byte: it goes in at the top, and then eight bits
unfoldable pub crc_byte : ℕ → ℕ → ℕ
crc_byte c b = crc_bits 8 (bit_xor c (b * 256))

-- all bytes, in order
abbrev pub crc_of : ℕ → List ℕ → ℕ
crc_of start s = fold crc_byte start s
