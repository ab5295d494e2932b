-- osdp_RAW (0x50), R4.8, §7.10: reader, format, bit count u16, and the bits, eight to a byte. The last byte's bits past the count are kept.
use Rattle.std.specs.Prelude.{List, [], ◌∷◌, ◌++◌, ℕ, ◌+◌, ◌*◌, ◌/◌, ◌%◌, min, length, take, drop}
use Rattle.payload_util.specs.Prelude.{byte_at, u16_at, u16_bytes, flat, head_and_tail, tail_len, nothing, Form, tailed, code, Effect, put}
use Rattle.raw_card.specs.declared.Raw.{Raw}

-- the count divided by 8 and rounded up
abbrev pub bytes_for : ℕ → ℕ
bytes_for bits = (bits + 7) / 8

-- a payload is refused by rows 4 and 6, a record by row 13
abbrev pub raw : Form
raw = tailed {A = Raw} (record {
  code = 0x50;
  check = λ c p. head_and_tail 4 (bytes_for (u16_at p 2)) c p;
  fields = λ p. record { reader = byte_at p 0; format_code = byte_at p 1; bit_count = u16_at p 2 };
  rest = drop 4;
  refuse = λ c r t. tail_len (bytes_for r.bit_count) c t;
  bytes = λ r t. r.reader ∷ r.format_code ∷ u16_bytes r.bit_count ++ t;
  loss = nothing;
})

-- a byte's bits, highest first
abbrev pub byte_bits : ℕ → List ℕ
byte_bits b = b / 128 % 2 ∷ b / 64 % 2 ∷ b / 32 % 2 ∷ b / 16 % 2 ∷ b / 8 % 2 ∷ b / 4 % 2 ∷ b / 2 % 2 ∷ b % 2 ∷ []

unfoldable pub all_bits : List ℕ → List ℕ
all_bits bits = flat byte_bits bits

-- as many bits as the count says, but no more than there are
abbrev pub bits_of : ℕ → List ℕ → List ℕ
bits_of count bits = take (min count (8 * length bits)) (all_bits bits)

-- the bits of a record, a byte each
abbrev pub write_bits : Raw → List ℕ → List ℕ → Effect
write_bits r bits out = put (code raw) (bits_of r.bit_count bits) out
