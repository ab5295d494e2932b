-- What strict adds to check, what decides acceptance, and what is left of a buffer.
-- Assumes nothing.
use mathlib.Core.Path.{ap, ◌∙◌}
use Rattle.payload_util.specs.Refusals.{◌also◌, Guard}
use Rattle.payload_util.specs.Form.{code, loss, refuse, bytes, check, normalise}
use Rattle.payload_util.specs.declared.Row.TheVariants.{Folded}
use Rattle.payload_util.proofs.InOrder.{also_none}
use Rattle.payload_util.proofs.Limits.{none_folded}
use Rattle.payload_util.proofs.Scheme.{leaves, rewrite_leaves, normalise_leaves}
use Rattle.osdp.specs.Kinds.{form}
use Rattle.osdp.specs.ByCode.{kind_for}
use Rattle.osdp.specs.Promises.{Steady, StrictAdds, Untouched}
use Rattle.osdp.proofs.Laws.{law, no_limits, second_alike}

pub steady : Steady
steady k p = (law k).steady p

pub strict_adds : StrictAdds
strict_adds = (
  (λ k p passes kept.
      ap (λ (h : Guard). check (form k) p also h) (second_alike k p ∙ none_folded Folded (code (form k)) (loss (form k)) p kept)
      ∙ also_none (check (form k) p) ∙ passes),
  (λ g k l r m s p. ap (λ (h : Guard). check (form k) p also h) (no_limits g k l r m s p) ∙ also_none (check (form k) p)),
)

pub untouched : Untouched
untouched = (
  (λ k r out. leaves (refuse (form k) r) (code (form k)) (bytes (form k) r) out),
  (λ side c p out. rewrite_leaves (kind_for side c p) (λ k. normalise (form k) p out) out (λ k. normalise_leaves (form k) p out)),
)
