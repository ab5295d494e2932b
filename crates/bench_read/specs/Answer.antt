-- What a call answers: where the kind's check refuses, the refusal's number negated; else a number that is not negative.
use Rattle.std.specs.Prelude.{◌≡◌, ℕ, ℤ, pos, neg_ℤ, Ok, Err}
use Rattle.payload_util.specs.declared.Refusal.{Refusal}
use Rattle.payload_util.specs.Refusals.{Guard, number_of}

abbrev pub NotNegative : ℤ → Type 0
NotNegative z = (n : ℕ) × (z ≡ pos n)

abbrev pub minus_row : Refusal → ℤ
minus_row e = neg_ℤ (pos (number_of e.row))

abbrev pub Answers : Guard → ℤ → Type 0
Answers (Ok _) z = NotNegative z
Answers (Err e) z = z ≡ minus_row e
