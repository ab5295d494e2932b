-- A kind's own code byte: it names the kind, and no other does; calls by it are the kind's.
-- Assumes nothing.
use mathlib.Core.Path.{◌≡◌, refl, sym, ap, subst, ◌∙◌}
use mathlib.Core.Bool.{Bool, true, false, cond}
use mathlib.Core.List.{List, [], ◌∷◌}
use Prim.Native.Nat.{ℕ}
use borrow.Author.Tests.{eqb-true}
use lib.Dec.{eqb}
use Rattle.payload_util.specs.Outcome.{named}
use Rattle.payload_util.specs.Writing.{rewrite}
use Rattle.payload_util.specs.Form.{code, check as check_of, normalise as normalise_of}
use Rattle.payload_util.proofs.Guards.{no_refusal}
use Rattle.osdp.specs.declared.Side.{Side}
use Rattle.osdp.specs.declared.Kind.{Kind}
use Rattle.osdp.specs.Kinds.{form, kinds, in_table, carried, kind_of, ◌then◌}
use Rattle.osdp.specs.ByCode.{strict_of}
use Rattle.osdp.specs.Promises.{side_and_code, OwnCode, OwnCodes}
use Rattle.osdp.proofs.Laws.{own_code, OnSide, kinds_on_side}
use Rattle.osdp.proofs.Lookups.{by_kind}
use Rattle.std.specs.Prelude.{Ok, Err}
use Rattle.payload_util.specs.Refusals.{Outcome, Guard}

own : (k : Kind) (side : Side) (b : ℕ) → code (form k) ≡ b → kind_of side b ≡ Ok k → OwnCode k side b
own k side b is named = (
  is,
  named,
  λ p out short.
      let found = by_kind side b p k named short in (
        ap (λ (o : Outcome Kind). o then λ j. check_of (form j) p) found,
        λ g. ap (λ (o : Outcome Kind). o then λ j. strict_of g j p) found,
        ap (λ (o : Outcome Kind). rewrite o (λ j. normalise_of (form j) p out) out) found,
      ),
)

-- the kind that a list has for a byte is on the list's side, and has the byte
found_in : (side : Side) (ks : List Kind) → OnSide side ks → (b : ℕ) (k : Kind) → carried ks b ≡ Ok k
    → ((side_and_code k).0 ≡ side) × (code (form k) ≡ b)
found_in side [] on b k e = absurd (no_refusal (sym e))
found_in side (j ∷ ks) (here, on) b k e = go (λ h. found_in side ks on b k h) (eqb b (code (form j))) refl e
  where
    go : (carried ks b ≡ Ok k → ((side_and_code k).0 ≡ side) × (code (form k) ≡ b))
        → (t : Bool) → eqb b (code (form j)) ≡ t → cond t (Ok j) (carried ks b) ≡ Ok k
        → ((side_and_code k).0 ≡ side) × (code (form k) ≡ b)
    go later true q h =
        let same : j ≡ k = cc in
        subst (λ (i : Kind). ((side_and_code i).0 ≡ side) × (code (form i) ≡ b)) same (here, sym (eqb-true _ _ q))
    go later false q h = later h

looked_up : (g : Guard) (o : Outcome Kind) (k : Kind) → (g then λ known. o) ≡ Ok k → o ≡ Ok k
looked_up (Ok _) o k e = e
looked_up (Err r) o k e = absurd (no_refusal (sym e))

pub own_codes : OwnCodes
unfolding kind_of
own_codes = (
  (λ k. own k _ _ (own_code k).0 (own_code k).1),
  (λ side b k e.
      let (on, has) = found_in side (kinds side) (kinds_on_side side) b k (looked_up (in_table side b) _ k e) in
      λ i. (sym on i, (sym has ∙ (own_code k).0) i)),
)
