-- What a reader gives, from its checks and its record, and how a code table is read.
use Rattle.std.specs.Prelude.{cond, List, [], ◌∷◌, ℕ, eqb, Ok, Err}
use Rattle.payload_util.specs.Refusals.{Outcome, Guard, Pass}

-- the record if the checks pass
abbrev pub outcome : {A : Type 0} → Guard → A → Outcome A
outcome (Ok _) a = Ok a
outcome (Err e) a = Err e

-- the refusal alone: what a check answers
abbrev pub guard_of : {A : Type 0} → Outcome A → Guard
guard_of (Ok a) = Pass
guard_of (Err e) = Err e

-- the value, or another if there is none
abbrev pub value_or : {A : Type 0} → A → Outcome A → A
value_or d (Ok a) = a
value_or d (Err e) = d

-- a tail is empty if reading refuses
abbrev pub tail_where : Guard → List ℕ → List ℕ
tail_where (Ok _) t = t
tail_where (Err e) t = []

-- a code table: the answer for the first code of the list whose byte is b, or the other answer if there is none
abbrev pub named : {C R : Type 0} → (C → ℕ) → (C → R) → R → List C → ℕ → R
named byte_of found other [] b = other
named byte_of found other (c ∷ cs) b = cond (eqb b (byte_of c)) (found c) (named byte_of found other cs b)
