-- A buffer that is filled between two indices, and a buffer by its parts.
-- Assumes nothing.
use mathlib.Core.Path.{◌≡◌, refl, sym, ap, ◌∙◌}
use mathlib.Core.Bool.{Bool, true}
use mathlib.Core.Logic.{◌↔◌}
use mathlib.Core.List.{List, ◌++◌, append_assoc}
use Prim.Native.Nat.{ℕ, ◌+◌, ◌-◌}
use lib.Dec.{eqb}
use lib.Pointwise.{pointwise}
use lib.ListN.{length, take, drop, replicate, length-replicate, take-append-drop}
use lib.Seq.{drop-drop, take_at, drop_at}
use Rattle.std.proofs.lemmas.Slice.Eq.{slice_eq-Decides}
use Rattle.std.proofs.lemmas.Bool.Decides.{Decides-eqb}
use Rattle.vectors_case.specs.Buffer.{AllFrom, around}

pub bytes_same : (a b : List ℕ) (r : Bool) → r ≡ pointwise eqb a b → (r ≡ true) ↔ (a ≡ b)
bytes_same a b r e = slice_eq-Decides Decides-eqb a b r e

-- a buffer by its parts
module _ (s want : List ℕ) (at b : ℕ) where
  pub around_parts : s ≡ around at want (length s) b
      → (take at s ≡ replicate at b) × (take (length want) (drop at s) ≡ want) × AllFrom s (at + length want) b
  around_parts q =
      let front : List ℕ = replicate at b in
      let back : List ℕ = replicate (length s - (at + length want)) b in
      let whole : s ≡ front ++ (want ++ back) = q ∙ append_assoc front want back in
      let after : drop at s ≡ want ++ back = ap (drop at) whole ∙ drop_at front (want ++ back) at (length-replicate at b) in (
        ap (take at) whole ∙ take_at front (want ++ back) at (length-replicate at b),
        ap (take (length want)) after ∙ take_at want back (length want) refl,
        sym (drop-drop (length want) at s) ∙ ap (drop (length want)) after ∙ drop_at want back (length want) refl,
      )

  pub parts_around : take at s ≡ replicate at b → take (length want) (drop at s) ≡ want → AllFrom s (at + length want) b
      → s ≡ around at want (length s) b
  parts_around f m r =
      sym (take-append-drop at s)
      ∙ ap (λ (l : List ℕ). take at s ++ l) (sym (take-append-drop (length want) (drop at s)))
      ∙ rw (f, m, drop-drop, r) (sym (append_assoc (replicate at b) want (replicate (length s - (at + length want)) b)))
