-- What a writer leaves in a buffer that was filled up, by its answer.
-- Assumes nothing.
use mathlib.Core.Path.{◌≡◌, refl, sym, ap, ◌∙◌}
use mathlib.Core.Logic.{◌↔◌}
use mathlib.Core.List.{List, ◌++◌}
use Prim.Native.Nat.{ℕ, ◌≤◌}
use native.Mathlib.Nat.{zero-add}
use native.Mathlib.Omega.{arith}
use lib.ListN.{length, take, drop, replicate, length-append, length-drop}
use lib.Seq.{take_at, drop_at}
use Rattle.std.specs.Prelude.{Ok, Err}
use Rattle.std.proofs.lemmas.List.{take-replicate, drop-replicate}
use Rattle.payload_util.proofs.Guards.{no_refusal}
use Rattle.payload_util.specs.Refusals.{Outcome, Guard}
use Rattle.payload_util.specs.Outcome.{outcome}
use Rattle.payload_util.specs.Writing.{Effect, effect}
use Rattle.vectors_case.specs.Buffer.{AllFrom, around}

-- a writer of these bytes into a buffer of n bytes that was filled up with b
module _ (bytes : List ℕ) (n b : ℕ) where
  pub effect_answer : (g : Guard) (w : Outcome ℕ) (s : List ℕ) → ◌≡◌ {A = Effect} (w, s) (effect g bytes (replicate n b)) → w ≡ outcome g (length bytes)
  effect_answer (Ok _) w s q = ap (λ (l : Effect). l.0) q
  effect_answer (Err e) w s q = ap (λ (l : Effect). l.0) q

  pub effect_wrote : (g : Guard) (k : ℕ) (s : List ℕ) → ◌≡◌ {A = Outcome ℕ} (Ok k) (outcome g (length bytes))
      → (s ≡ around 0 bytes n b) ↔ ◌≡◌ {A = Effect} (Ok k, s) (effect g bytes (replicate n b))
  effect_wrote (Ok _) k s a =
      let whole : bytes ++ drop (length bytes) (replicate n b) ≡ around 0 bytes n b = ap (λ (l : List ℕ). bytes ++ l) (simp zero-add (drop-replicate (length bytes) n b)) in
      (λ q. cc, λ q. ap (λ (l : Effect). l.1) q ∙ whole)
  effect_wrote (Err e) k s a = absurd (no_refusal a)

-- the first bytes of a buffer that was filled up, and the buffer after others came in their place
module _ (s new : List ℕ) (n b : ℕ) (all : s ≡ replicate (length s) b) (fits : n ≤ length s) (same : length new ≡ n) where
  pub lent_before : take n s ≡ replicate n b
  lent_before = ap (take n) all ∙ take-replicate n (length s) b fits

  pub lent_after : new ≡ take n (new ++ drop n s)
  lent_after = sym (take_at new (drop n s) n same)

  pub lent_behind : AllFrom (new ++ drop n s) n b
  lent_behind =
      let long : length (new ++ drop n s) ≡ length s = length-append new (drop n s) ∙ rw (same, length-drop n s) (omega arith) in
      drop_at new (drop n s) n same ∙ ap (drop n) all ∙ drop-replicate n (length s) b ∙ rw long refl
