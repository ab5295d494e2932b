-- The walk by limits: only offsets that have a limit count, however long the payload is.
-- Assumes nothing.
use mathlib.Core.Path.{◌≡◌, refl, sym, ap, ◌∙◌}
use mathlib.Core.Bool.{Bool, true, false}
use mathlib.Core.List.{List}
use Prim.Native.Nat.{ℕ, ◌≤◌}
use native.Mathlib.Omega.{arith}
use borrow.Author.Tests.{le-leb, leb-true, leb-false}
use lib.Dec.{leb}
use lib.ListN.{length, get_or, get_or-eq_default}
use Rattle.payload_util.specs.Refusals.{require, in_order, Guard, Pass, refusal}
use Rattle.payload_util.specs.declared.Refusal.{Refusal}
use Rattle.payload_util.specs.declared.Row.{Row}
use Rattle.std.specs.Prelude.{Err}
use Rattle.payload_util.specs.Bytes.{byte_at}
use Rattle.payload_util.specs.Loss.{Keep, any, up_to, fits, Loss, limits, without, limited, within_limits}
use Rattle.payload_util.proofs.Guards.{no_refusal}
use Rattle.payload_util.proofs.InOrder.{up_to_lem, pass_all, refused_at}
use Rattle.payload_util.proofs.Losses.{all_fit, whole_kept}

-- the row if the byte at an offset is above the highest, as `require_limit` gives it
abbrev pub limit_at : Row → ℕ → ℕ → List ℕ → ℕ → Guard
limit_at row code highest p offset = require (leb (byte_at p offset) highest) (refusal row code offset (byte_at p offset))

zero_fits : (l : Keep) → fits l 0 ≡ true
zero_fits any = refl
zero_fits (up_to h) = le-leb 0 h (omega arith)

module _ (row : Row) (code : ℕ) (l : Loss) (p : List ℕ) where
  past_limits : (k : ℕ) → length (limits l p) ≤ k → limited row code l p k ≡ Pass
  past_limits k h = simp (get_or-eq_default (limits l p) any {n = k} h)

  past_end : (k : ℕ) → length p ≤ k → limited row code l p k ≡ Pass
  past_end k h = simp (get_or-eq_default p 0 {n = k} h, zero_fits)

  -- nothing of the payload would be folded
  pub none_folded : without l p ≡ p → within_limits row code l p ≡ Pass
  unfolding within_limits
  none_folded e = pass_all (limited row code l p) (length p) (λ at lt. simp (all_fit (limits l p) p (whole_kept l p e) at lt))

  -- as many checks as there are limits, or more
  pub by_limits : (m : ℕ) → length (limits l p) ≤ m → within_limits row code l p ≡ in_order (limited row code l p) 0 m
  unfolding within_limits
  by_limits m h = go (leb m (length p)) refl
    where
      go : (t : Bool) → leb m (length p) ≡ t → in_order (limited row code l p) 0 (length p) ≡ in_order (limited row code l p) 0 m
      go true e = up_to_lem (limited row code l p) m (length p) (λ k lt. past_limits k (omega arith)) (leb-true m (length p) e)
      go false e = sym (up_to_lem (limited row code l p) (length p) m past_end (omega (arith, leb-false m (length p) e)))

  -- what is refused is refused by this row
  pub row_given : (e : Refusal) → within_limits row code l p ≡ Err e → e.row ≡ row
  unfolding within_limits
  row_given e w =
      let (k, (lt, is, before)) = refused_at (limited row code l p) (length p) e w in
      go k (fits (get_or (limits l p) k any) (byte_at p k)) is
    where
      go : (k : ℕ) (t : Bool) → require t (refusal row code k (byte_at p k)) ≡ Err e → e.row ≡ row
      go k true is = absurd (no_refusal is)
      go k false is = let same : refusal row code k (byte_at p k) ≡ e = cc in sym (ap (λ (x : Refusal). x.row) same)
