-- The colours of LED records have a limit, and no other bytes do.
-- Assumes nothing.
use mathlib.Core.Path.{◌≡◌, refl, sym, ap, ◌∙◌}
use mathlib.Core.Bool.{cond}
use mathlib.Core.List.{List}
use Prim.Native.Nat.{ℕ, ◌+◌, ◌*◌, ◌/◌, ◌%◌, ◌<◌}
use native.Mathlib.Nat.{add-zero}
use native.Mathlib.Omega.{arith}
use borrow.Author.Tests.{lt-leb}
use lib.ListN.{length, get_or, get_or-eq_default}
use Rattle.std.specs.Prelude.{Err}
use Rattle.payload_util.specs.Refusals.{require, ◌also◌, in_order, Guard, Pass, refusal}
use Rattle.payload_util.specs.declared.Refusal.{Refusal}
use Rattle.payload_util.specs.Bytes.{byte_at}
use Rattle.payload_util.specs.Loss.{Keep, any, up_to, fits, times, limited, within_limits}
use Rattle.payload_util.specs.declared.Row.{Row}
use Rattle.payload_util.proofs.Guards.{no_refusal}
use Rattle.payload_util.proofs.InOrder.{also_none, shifted, in_blocks, all_pass, pass_all, refused_at, refuses_at}
use Rattle.payload_util.proofs.Losses.{times_at}
use Rattle.payload_util.proofs.Folds.{length_times}
use Rattle.payload_util.proofs.Limits.{limit_at, by_limits}
use Rattle.led.specs.Led.{led_code, led_limits, led_loss, record_within, colors_within}
use Rattle.led.specs.Promises.{is_color, Above, FirstAbove, NoneAbove}

-- a record has limits where it has colours
color_limit : (highest j : ℕ) → j < 14 → get_or (led_limits highest) j any ≡ cond (is_color j) (up_to highest) any
color_limit highest j lt = grind arith

module _ (row : Row) (highest : ℕ) (p : List ℕ) where
  abbrev f : ℕ → Guard
  f = limited row led_code (led_loss highest) p

  module _ (k : ℕ) (there : k < length p / 14) where
    limit : (j : ℕ) → j < 14 → get_or (times (length p / 14) (led_limits highest)) (14 * k + j) any ≡ get_or (led_limits highest) j any
    limit j lt = times_at (length p / 14) k j (led_limits highest) there lt

    abbrev color : ℕ → Guard
    color j = limit_at row led_code highest p (14 * k + j)

    pub record_limits : record_within row highest p k ≡ (color 5 also color 6 also color 12 also color 13)
    unfolding in_order record_within
    record_limits =
        ap (λ (i : ℕ). in_order f i 14) (sym (add-zero (14 * k))) ∙ shifted f (14 * k) 0 14
        ∙ simp (
          limit 0 (omega arith),
          limit 1 (omega arith),
          limit 2 (omega arith),
          limit 3 (omega arith),
          limit 4 (omega arith),
          limit 5 (omega arith),
          limit 6 (omega arith),
          limit 7 (omega arith),
          limit 8 (omega arith),
          limit 9 (omega arith),
          limit 10 (omega arith),
          limit 11 (omega arith),
          limit 12 (omega arith),
          limit 13 (omega arith),
          also_none,
        )

  -- all records in order are all bytes in order
  pub all_records : in_order (record_within row highest p) 0 (length p / 14) ≡ within_limits row led_code (led_loss highest) p
  unfolding record_within
  all_records =
      sym (by_limits row led_code (led_loss highest) p (14 * (length p / 14)) (omega (arith, length_times (length p / 14) (led_limits highest)))
      ∙ in_blocks f (record_within row highest p) 14 0 (length p / 14) (λ k lt. refl))

  -- which colour is refused, in a list of whole records
  module _ (records : length p ≡ length p / 14 * 14) where
    limit_of : (i : ℕ) → i < length p → get_or (times (length p / 14) (led_limits highest)) i any ≡ cond (is_color (i % 14)) (up_to highest) any
    limit_of i lt =
        let split : i ≡ 14 * (i / 14) + i % 14 = omega arith in
        ap (λ (m : ℕ). get_or (times (length p / 14) (led_limits highest)) m any) split
        ∙ times_at (length p / 14) (i / 14) (i % 14) (led_limits highest) (omega arith) (omega arith)
        ∙ color_limit highest (i % 14) (omega arith)

    abbrev refusal_at : ℕ → Refusal
    refusal_at i = refusal row led_code i (byte_at p i)

    abbrev tested : ℕ → Guard
    tested i = require (fits (cond (is_color (i % 14)) (up_to highest) any) (byte_at p i)) (refusal_at i)

    is_tested : (i : ℕ) → i < length p → f i ≡ tested i
    is_tested i lt = ap (λ (l : Keep). require (fits l (byte_at p i)) (refusal_at i)) (limit_of i lt)

    there : (i : ℕ) → Above highest p i → i < length p
    there i (color, above) = grind (arith, get_or-eq_default)

    refuses : (i : ℕ) → Above highest p i → f i ≡ Err (refusal_at i)
    refuses i (color, above) = is_tested i (there i (color, above)) ∙ simp (color, lt-leb _ _ above)

    refused : (i : ℕ) (e : Refusal) → i < length p → f i ≡ Err e → (refusal_at i ≡ e) × Above highest p i
    refused i e lt w = let t : tested i ≡ Err e = sym (is_tested i lt) ∙ w in grind (arith, no_refusal)

    passes : (i : ℕ) → i < length p → (Above highest p i → ⊥) → f i ≡ Pass
    passes i lt not = is_tested i lt ∙ grind arith

    pub none_above : colors_within row highest p ≡ Pass → NoneAbove highest p
    unfolding within_limits
    none_above w i a = no_refusal (sym (all_pass f (length p) w i (there i a)) ∙ refuses i a)

    pub above_none : NoneAbove highest p → colors_within row highest p ≡ Pass
    unfolding within_limits
    above_none none = pass_all f (length p) (λ i lt. passes i lt (none i))

    pub above_first : (at : ℕ) → FirstAbove highest p at → colors_within row highest p ≡ Err (refusal_at at)
    unfolding within_limits
    above_first at (here, before) =
        refuses_at f (length p) at (refusal_at at) (there at here, refuses at here, λ i lt. passes i (omega (arith, there at here)) (before i lt))

    pub first_above : (e : Refusal) → colors_within row highest p ≡ Err e → (at : ℕ) × (refusal_at at ≡ e) × FirstAbove highest p at
    unfolding within_limits
    first_above e w =
        let (at, (lt, is, before)) = refused_at f (length p) e w in
        let (same, here) = refused at e lt is in
        (at, same, (here, λ i below a. no_refusal (sym (before i below) ∙ refuses i a)))
