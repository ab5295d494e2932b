-- R105 in numbers: the bytes that a bit count or a character count asks for in all, and those that came.
use Rattle.std.specs.Prelude.{replicate, ◌≡◌, List, [], ◌∷◌, ℕ, Err}
use Rattle.payload_util.specs.Prelude.{check}
use Rattle.payload_util.specs.Refusals.{Pass, refusal}
use Rattle.payload_util.specs.declared.Row.TheVariants.{DeclaredLength}
use Rattle.raw_card.specs.Raw.{raw}
use Rattle.raw_card.specs.Fmt.{fmt}

-- a RAW of so many bits, by its two bytes, and so many bytes of them
abbrev pub bits : ℕ → ℕ → ℕ → List ℕ
bits low high n = 0x00 ∷ 0x00 ∷ low ∷ high ∷ replicate n 0xA5

abbrev pub KnownCounts : Type 0
KnownCounts =
    (check raw (bits 0x08 0x00 0) ≡ Err (refusal DeclaredLength 0x50 5 4))
    × (check raw (bits 0x00 0x00 1) ≡ Err (refusal DeclaredLength 0x50 4 5))
    -- a started byte counts as one
    × (check raw (bits 0x01 0x00 0) ≡ Err (refusal DeclaredLength 0x50 5 4))
    × (check raw (bits 0x08 0x00 2) ≡ Err (refusal DeclaredLength 0x50 5 6))
    × (check raw (bits 0x09 0x00 1) ≡ Err (refusal DeclaredLength 0x50 6 5))
    × (check raw (bits 0x09 0x00 2) ≡ Pass)
    -- the most bits
    × (check raw (bits 0xFF 0xFF 0) ≡ Err (refusal DeclaredLength 0x50 8196 4))
    × (check fmt (0x00 ∷ 0x00 ∷ 0x00 ∷ 0x41 ∷ []) ≡ Err (refusal DeclaredLength 0x51 3 4))
    × (check fmt (0x00 ∷ 0x00 ∷ 0xFF ∷ []) ≡ Err (refusal DeclaredLength 0x51 258 3))
