-- R104 in numbers: what strict's rule for colours says of records, for each generation.
use Rattle.std.specs.Prelude.{◌≡◌, List, [], ◌∷◌, ◌++◌, ℕ, Err}
use Rattle.payload_util.specs.Refusals.{Pass, refusal}
use Rattle.payload_util.specs.declared.Row.TheVariants.{Folded, SecondGenerationColor}
use Rattle.led.specs.declared.Generation.TheVariants.{First, Second}
use Rattle.led.specs.Led.{led_code, colors_known}

-- a record with these four colours
abbrev pub colored : ℕ → ℕ → ℕ → ℕ → List ℕ
colored a b c d = 0x00 ∷ 0x00 ∷ 0x02 ∷ 0x05 ∷ 0x05 ∷ a ∷ b ∷ 0x64 ∷ 0x00 ∷ 0x01 ∷ 0x01 ∷ 0x00 ∷ c ∷ d ∷ []

abbrev pub KnownColors : Type 0
KnownColors =
    (colors_known First (colored 4 4 4 4) ≡ Pass)
    × (colors_known Second (colored 7 7 7 7) ≡ Pass)
    × (colors_known First (colored 4 4 5 4) ≡ Err (refusal SecondGenerationColor led_code 12 5))
    × (colors_known First (colored 4 4 4 4 ++ colored 4 4 4 7) ≡ Err (refusal SecondGenerationColor led_code 27 7))
    -- row 17 behind a colour of row 18
    × (colors_known First (colored 5 4 4 8) ≡ Err (refusal Folded led_code 13 8))
