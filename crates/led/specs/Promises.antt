-- R104: when row 18 is given, and for which colour.
use Rattle.std.specs.Prelude.{◌↔◌, ◌≡◌, Bool, true, ◌||◌, List, ℕ, ◌*◌, ◌/◌, ◌%◌, ◌<◌, eqb, length, Err}
use Rattle.payload_util.specs.Prelude.{byte_at, refusal}
use Rattle.payload_util.specs.declared.Refusal.{Refusal}
use Rattle.payload_util.specs.declared.Row.TheVariants.{SecondGenerationColor}
use Rattle.led.specs.declared.Generation.{Generation}
use Rattle.led.specs.declared.Generation.TheVariants.{First, Second}
use Rattle.led.specs.Led.{led_code, highest_known, colors_known}

-- whether a record has a colour at an offset (R4.1)
abbrev pub is_color : ℕ → Bool
is_color j = eqb j 5 || eqb j 6 || eqb j 12 || eqb j 13

-- in a list of whole records, a colour above this one at an offset; the first of them; there is none
abbrev pub Above : ℕ → List ℕ → ℕ → Type 0
Above highest p at = (is_color (at % 14) ≡ true) × (highest < byte_at p at)

abbrev pub FirstAbove : ℕ → List ℕ → ℕ → Type 0
FirstAbove highest p at = Above highest p at × ((i : ℕ) → i < at → Above highest p i → ⊥)

abbrev pub NoneAbove : ℕ → List ℕ → Type 0
NoneAbove highest p = (i : ℕ) → Above highest p i → ⊥

-- no colour is above the second generation's highest, some are above the first's, and the refusal names the first of these
abbrev pub NewColor : List ℕ → Refusal → Type 0
NewColor p e =
    NoneAbove (highest_known Second) p
    × ((at : ℕ) × (e ≡ refusal SecondGenerationColor led_code at (byte_at p at)) × FirstAbove (highest_known First) p at)

-- row 18 is given exactly then, for the first generation
abbrev pub RowEighteen : Type 0
RowEighteen =
    (g : Generation) (p : List ℕ) (e : Refusal) → length p ≡ length p / 14 * 14 → e.row ≡ SecondGenerationColor
    → (colors_known g p ≡ Err e) ↔ ((g ≡ First) × NewColor p e)
