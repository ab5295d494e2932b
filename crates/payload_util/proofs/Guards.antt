-- What a guard's pass tells, and what a caller of a guard has.
-- Assumes nothing.
use mathlib.Core.Path.{◌≡◌, refl, sym, ap, ◌∙◌}
use mathlib.Core.Bool.{Bool, true, false, ◌&&◌}
use mathlib.Core.List.{List}
use Prim.Native.Nat.{ℕ, zero, suc, ◌+◌, ◌*◌, ◌/◌, ◌%◌, ◌≤◌, ◌<◌, min}
use native.Mathlib.Nat.{div-add-mod', zero-mul, suc-mul, mul-mod_left, min-eq_left, min-eq_right, le_of_lt}
use native.Mathlib.Omega.{arith}
use borrow.Author.Tests.{leb-true, leb-false, eqb-true, ltb-true, le-leb, lt-leb, lt-ltb, eq-eqb}
use lib.ListN.{length, drop, length-drop}
use lib.Dec.{leb, ltb, eqb}
use Rattle.std.proofs.lemmas.Bool.{and_parts}
use Rattle.payload_util.specs.Refusals.{require, ◌also◌, Outcome, Guard, Pass}
use Rattle.payload_util.specs.Outcome.{outcome, guard_of}
use Rattle.payload_util.specs.Guards.{exact_len, at_least, blocks_from, positive_multiple_of, declared_len, head_and_tail, at_most, tail_len, room, present}
use Rattle.payload_util.specs.declared.Refusal.{Refusal}
use Rattle.std.specs.Prelude.{Ok, Err}

-- an answer is no refusal
pub no_refusal : {A : Type 0} {a : A} {e : Refusal} → ◌≡◌ {A = Outcome A} (Ok a) (Err e) → ⊥
no_refusal h = let z : ◌≡◌ {A = ℕ} 0 1 = cc in omega arith

-- ---- a guard that passes

pub check_pass : (b : Bool) (e : Refusal) → require b e ≡ Pass → b ≡ true
check_pass true e h = refl
check_pass false e h = cc

pub also_pass : (g h : Guard) → (g also h) ≡ Pass → (g ≡ Pass) × (h ≡ Pass)
also_pass (Ok _) h e = (refl, e)
also_pass (Err r) h e = absurd (no_refusal (sym e))

-- the two halves of `also_pass`: with them, `search (also_left, also_right)` finds any guard of a row
pub also_left : (g h : Guard) → (g also h) ≡ Pass → g ≡ Pass
also_left g h e = (also_pass g h e).0

pub also_right : (g h : Guard) → (g also h) ≡ Pass → h ≡ Pass
also_right g h e = (also_pass g h e).1

-- a record is given only if the checks pass
pub gives_pass : {A : Type 0} (g : Guard) (a r : A) → outcome g a ≡ Ok r → (g ≡ Pass) × (a ≡ r)
gives_pass (Ok _) a r e = (refl, cc)
gives_pass (Err f) a r e = absurd (no_refusal (sym e))

module _ (n code : ℕ) (p : List ℕ) where
  pub exact_pass : exact_len n code p ≡ Pass → length p ≡ n
  unfolding exact_len
  exact_pass h = eqb-true _ _ (check_pass _ _ h)

  pub least_pass : at_least n code p ≡ Pass → n ≤ length p
  unfolding at_least
  least_pass h = leb-true _ _ (check_pass _ _ h)

  pub pass_least : n ≤ length p → at_least n code p ≡ Pass
  unfolding at_least
  pass_least h = simp (le-leb _ _ h)

  pub declared_pass : declared_len n code p ≡ Pass → length p ≡ n
  unfolding declared_len
  declared_pass h = eqb-true _ _ (check_pass _ _ h)

  pub most_pass : at_most n code p ≡ Pass → length p ≤ n
  unfolding at_most
  most_pass h = leb-true _ _ (check_pass _ _ h)

  pub pass_most : length p ≤ n → at_most n code p ≡ Pass
  unfolding at_most
  pass_most h = simp (le-leb _ _ h)

  pub tail_len_pass : tail_len n code p ≡ Pass → length p ≡ n
  unfolding tail_len
  tail_len_pass h = eqb-true _ _ (check_pass _ _ h)

  pub pass_tail_len : length p ≡ n → tail_len n code p ≡ Pass
  unfolding tail_len
  pass_tail_len h = simp (eq-eqb _ _ h)

  pub head_and_tail_pass : (m : ℕ) → head_and_tail n m code p ≡ Pass → (n ≤ length p) × (length (drop n p) ≡ m)
  unfolding declared_len
  head_and_tail_pass m e =
      let (least, all) = also_pass (at_least n code p) (declared_len (n + m) code p) e in
      let l : length p ≡ n + m = eqb-true _ _ (check_pass _ _ all) in
      (least_pass least, length-drop n p ∙ omega arith)

  pub pass_head_and_tail : (m : ℕ) → length p ≡ n + m → head_and_tail n m code p ≡ Pass
  unfolding declared_len
  pass_head_and_tail m e = simp (pass_least (omega arith), eq-eqb _ _ e)

  pub multiple_pass : positive_multiple_of n code p ≡ Pass → (length p ≡ length p / n * n) × (zero < length p / n)
  unfolding blocks_from
  multiple_pass e =
      let (some-blocks, whole) = and_parts (ltb 0 n && leb 1 (length p)) (eqb (length p % n) 0) (check_pass (ltb 0 n && leb 1 (length p) && eqb (length p % n) 0) _ e) in
      let filled = (and_parts (ltb 0 n) (leb 1 (length p)) some-blocks).1 in
      let r : length p % n ≡ 0 = eqb-true _ _ whole in
      let l : length p ≡ length p / n * n = sym (div-add-mod' (length p) n) ∙ omega arith in
      (l, some (length p / n) l (leb-true _ _ filled))
    where
      some : (m : ℕ) → length p ≡ m * n → zero < length p → zero < m
      some zero e pos = absurd (omega (arith, zero-mul n))
      some (suc m) e pos = omega arith

  pub pass_multiple : (m : ℕ) → zero < n → zero < m → length p ≡ m * n → positive_multiple_of n code p ≡ Pass
  unfolding blocks_from
  pass_multiple (suc m) wide some e =
      let l : 1 ≤ length p = omega (arith, suc-mul m n) in
      let r : length p % n ≡ 0 = ap (λ (k : ℕ). k % n) e ∙ mul-mod_left (suc m) n in
      simp (lt-ltb _ _ wide, le-leb _ _ l, eq-eqb _ _ r)
  pass_multiple zero wide some e = absurd (omega arith)

pub pass_exact : (n code : ℕ) (p : List ℕ) → length p ≡ n → exact_len n code p ≡ Pass
unfolding exact_len
pass_exact n code p h = simp (eq-eqb _ _ h)

pub room_pass : (code needed given : ℕ) → room code needed given ≡ Pass → needed ≤ given
unfolding room
room_pass code needed given h = leb-true _ _ (check_pass _ _ h)

pub pass_room : (code needed given : ℕ) → needed ≤ given → room code needed given ≡ Pass
unfolding room
pass_room code needed given h = simp (le-leb _ _ h)

abbrev pub largest : ℕ
largest = 18446744073709551615

module _ (code needed given : ℕ) where
  -- row 15 by a need that is capped before the test
  pub room_capped : {g : Guard} {n : ℕ} → given < largest → g ≡ room code n given → n ≡ min needed largest → g ≡ room code needed given
  unfolding room
  room_capped h p q = p ∙ ap (λ (m : ℕ). room code m given) q ∙ go (leb needed largest) refl
    where
      go : (t : Bool) → leb needed largest ≡ t → room code (min needed largest) given ≡ room code needed given
      go true e = simp (min-eq_left (leb-true needed largest e))
      go false e =
          let l = leb-false needed largest e in
          simp (min-eq_right (le_of_lt l), lt-leb needed given (omega arith), lt-leb largest given h)

pub present_pass : (code index count : ℕ) → present code index count ≡ Pass → index < count
unfolding present
present_pass code index count h = ltb-true _ _ (check_pass _ _ h)

pub pass_present : (code k count : ℕ) → k < count → present code k count ≡ Pass
unfolding present
pass_present code k count h = simp (lt-ltb _ _ h)

-- ---- what a caller of a guard has: f is the guard's answer, and g what it is by its contract

pub passed : {f g : Guard} → f ≡ g → f ≡ Pass → g ≡ Pass
passed e p = cc

-- the answer is handed on if it is a refusal
pub stopped : {f g : Guard} {e : Refusal} (h : Guard) → f ≡ g → f ≡ Err e → f ≡ (g also h)
stopped h q p = p ∙ simp (sym q ∙ p)

-- the first guard passes, and x answers the rest
pub skipped : {x g h : Guard} → g ≡ Pass → x ≡ h → x ≡ (g also h)
skipped p q = q ∙ simp p

-- f's refusal is g's
pub refused : {f g : Guard} {e : Refusal} → f ≡ g → f ≡ Err e → g ≡ Err e
refused q p = sym q ∙ p

-- a check that asks a code table passes its answer on
pub guard_gives : {A : Type 0} {o : Outcome A} {a : A} → o ≡ Ok a → guard_of o ≡ Pass
guard_gives e = simp e

pub guard_refuses : {A : Type 0} {o : Outcome A} {e : Refusal} → o ≡ Err e → guard_of o ≡ Err e
guard_refuses e = simp e

-- a reader's refusal is that of its checks
pub guard_outcome : {A : Type 0} (g : Guard) (a : A) → guard_of (outcome g a) ≡ g
guard_outcome (Ok _) a = refl
guard_outcome (Err e) a = refl
