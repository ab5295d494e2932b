-- When row 18 is given.
-- Assumes nothing.
use mathlib.Core.Path.{◌≡◌, refl, sym, ap, ◌∙◌}
use mathlib.Core.List.{List}
use Prim.Native.Nat.{ℕ, ◌*◌, ◌/◌}
use native.Mathlib.Omega.{arith}
use lib.ListN.{length}
use Rattle.std.specs.Prelude.{Err}
use Rattle.payload_util.specs.Refusals.{Guard, Pass}
use Rattle.payload_util.specs.declared.Refusal.{Refusal}
use Rattle.payload_util.specs.declared.Row.{Row}
use Rattle.payload_util.specs.declared.Row.TheVariants.{Folded, SecondGenerationColor}
use Rattle.payload_util.proofs.Limits.{row_given}
use Rattle.led.specs.declared.Generation.{Generation}
use Rattle.led.specs.declared.Generation.TheVariants.{First, Second}
use Rattle.led.specs.Led.{highest_known, colors_within, colors_known}
use Rattle.led.specs.Promises.{NewColor, RowEighteen}
use Rattle.led.proofs.Limits.{none_above, above_none, above_first, first_above}

module _ (p : List ℕ) (e : Refusal) (records : length p ≡ length p / 14 * 14) (row : e.row ≡ SecondGenerationColor) where
  abbrev within : Row → Generation → Guard
  within r g = colors_within r (highest_known g) p

  not_folded : within Folded Second ≡ Err e → ⊥
  not_folded w = grind (arith, row_given)

  given : (g : Generation) → colors_known g p ≡ Err e → (g ≡ First) × NewColor p e
  given First w =
      let (none, some) : (within Folded Second ≡ Pass) × (within SecondGenerationColor First ≡ Err e) = grind (arith, not_folded) in
      let (at, same, first) = first_above SecondGenerationColor (highest_known First) p records e some in
      (refl, (none_above Folded (highest_known Second) p records none, (at, sym same, first)))
  given Second w = absurd (not_folded w)

  refused : NewColor p e → colors_known First p ≡ Err e
  refused (none, (at, same, first)) =
      simp (above_none Folded (highest_known Second) p records none)
      (above_first SecondGenerationColor (highest_known First) p records at first ∙ ap Err (sym same))

pub row_eighteen : RowEighteen
row_eighteen g p e records row = (
  (λ w. given p e records row g w),
  (λ (first, new). ap (λ (x : Generation). colors_known x p) first ∙ refused p e records row new),
)
