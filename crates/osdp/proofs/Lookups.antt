-- The kind of a payload by its code byte.
-- Assumes nothing.
use mathlib.Core.Path.{◌≡◌, sym, ap}
use mathlib.Core.List.{List}
use Prim.Native.Nat.{ℕ, ◌≤◌}
use borrow.Author.Tests.{leb-true, le-leb}
use lib.ListN.{length}
use Rattle.std.specs.Prelude.{Ok, Err}
use Rattle.payload_util.specs.Refusals.{Outcome}
use Rattle.payload_util.specs.Outcome.{outcome}
use Rattle.payload_util.proofs.Guards.{no_refusal, check_pass, gives_pass}
use Rattle.osdp.specs.declared.Side.{Side}
use Rattle.osdp.specs.declared.Kind.{Kind}
use Rattle.osdp.specs.Kinds.{kind_of, ◌then◌}
use Rattle.osdp.specs.ByCode.{longest, not_too_long, kind_for}

module _ (side : Side) (c : ℕ) (p : List ℕ) (k : Kind) where
  pub by_kind : kind_of side c ≡ Ok k → length p ≤ longest → kind_for side c p ≡ Ok k
  unfolding kind_for not_too_long
  by_kind named fits = rw (named, le-leb (length p) longest fits)

  pub kind_gives : kind_for side c p ≡ Ok k → (kind_of side c ≡ Ok k) × (length p ≤ longest)
  unfolding kind_for not_too_long
  kind_gives e = go (kind_of side c) e
    where
      go : (o : Outcome Kind) → (o then λ j. outcome (not_too_long c p) j) ≡ Ok k → (o ≡ Ok k) × (length p ≤ longest)
      go (Ok j) h =
          let (fits, same) = gives_pass (not_too_long c p) j k h in
          (ap Ok same, leb-true _ _ (check_pass _ _ fits))
      go (Err r) h = absurd (no_refusal (sym h))
