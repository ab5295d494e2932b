-- Values that are known from elsewhere: the CRC of the nine characters 123456789 is published; the sums are worked out by hand.
use Rattle.std.specs.Prelude.{◌≡◌, ℕ, List, [], ◌∷◌}
use Rattle.crc.specs.Crc.{crc_of}
use Rattle.crc.specs.Sum.{sum_of, twos_complement}

abbrev pub digits : List ℕ
digits = 0x31 ∷ 0x32 ∷ 0x33 ∷ 0x34 ∷ 0x35 ∷ 0x36 ∷ 0x37 ∷ 0x38 ∷ 0x39 ∷ []

abbrev pub KnownValues : Type 0
KnownValues =
    (crc_of 0x1D0F digits ≡ 0xE5CC)
    × (crc_of 0x1D0F [] ≡ 0x1D0F)
    -- from a start of 0 this polynomial is also known as XMODEM's
    × (crc_of 0 digits ≡ 0x31C3)
    -- 0x53 + 0x80 + 0xFF is 0x1D2
    × (sum_of 0 (0x53 ∷ 0x80 ∷ 0xFF ∷ []) ≡ 0xD2)
    × (twos_complement 0xD2 ≡ 0x2E)
    × (twos_complement 0 ≡ 0)
