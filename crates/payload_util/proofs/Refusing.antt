-- What is so of each refusal of a guard.
-- Assumes nothing.
use mathlib.Core.Path.{◌≡◌, refl}
use mathlib.Core.Bool.{Bool, true, false}
use Prim.Native.Nat.{ℕ, zero, suc}
use Rattle.payload_util.specs.Refusals.{require, ◌also◌, in_order, Outcome, Guard}
use Rattle.payload_util.specs.Outcome.{guard_of}
use Rattle.payload_util.specs.declared.Refusal.{Refusal}
use Rattle.payload_util.proofs.Guards.{no_refusal}
use Rattle.std.specs.Prelude.{Ok, Err}

-- each refusal of a guard is such
unfoldable pub Each : (Refusal → Type 0) → Guard → Type 0
Each P g = (e : Refusal) → g ≡ Err e → P e

module _ (P : Refusal → Type 0) where
  pub by_row : (b : Bool) (x : Refusal) → P x → Each P (require b x)
  unfolding Each
  by_row true x h e q = absurd (no_refusal q)
  by_row false x h e q = let s : x ≡ e = cc in rw (← s) h

  pub by_both : (g h : Guard) → Each P g → Each P h → Each P (g also h)
  unfolding Each
  by_both (Ok _) h a b e q = b e q
  by_both (Err x) h a b e q = a e q

  pub by_code : {C : Type 0} (o : Outcome C) → ((x : Refusal) → o ≡ Err x → P x) → Each P (guard_of o)
  unfolding Each
  by_code (Ok c) h e q = absurd (no_refusal q)
  by_code (Err x) h e q = let s : x ≡ e = cc in rw (← s) (h x refl)

  pub by_order : (f : ℕ → Guard) (i n : ℕ) → ((k : ℕ) → Each P (f k)) → Each P (in_order f i n)
  unfolding Each in_order
  by_order f i zero each e q = absurd (no_refusal q)
  by_order f i (suc n) each e q = by_both (f i) (in_order f (suc i) n) (each i) (by_order f (suc i) n each) e q
