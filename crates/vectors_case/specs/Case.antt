-- The wanted answer of a case, and the wanted buffer.
use Rattle.std.specs.Prelude.{◌≡◌, cond, List, ℕ, ◌-◌, ◌≤◌, ltb, length, take, replicate, Ok, Err}
use Rattle.payload_util.specs.Bytes.{byte_at}
use Rattle.payload_util.specs.Refusals.{number_of, Outcome, Guard, refusal}
use Rattle.payload_util.specs.declared.Row.TheVariants.{SecondGenerationColor}
use Rattle.payload_util.specs.Outcome.{outcome}
use Rattle.payload_util.specs.Guards.{room}
use Rattle.payload_util.specs.Writing.{Effect, room_last, put_checked}
use Rattle.vectors_case.specs.Buffer.{AllFrom}
use Rattle.vectors_case.specs.declared.Case.{Case}

-- the answer that a row's number, a code byte and two values ask for: a pass if the number is 0, else the refusal that has them
abbrev pub IsWanted : ℕ → ℕ → ℕ → ℕ → Guard → Type 0
IsWanted number code first second (Ok _) = number ≡ 0
IsWanted number code first second (Err e) = (number_of e.row ≡ number) × (e.code ≡ code) × (e.first ≡ first) × (e.second ≡ second)

-- the wanted answer of strict for the first generation: that for the second, or, if the argument is 3 or more, row 18 for the byte at the place that is
-- the argument less 3
abbrev pub wanted_of_first : Case → Guard
wanted_of_first c =
    let place = c.argument - 3 in
    cond (ltb c.argument 3) c.wanted (Err (refusal SecondGenerationColor c.code place (byte_at c.input.now place)))

-- the wanted answer of a writer that is given room for so many bytes
abbrev pub wanted_answer : Case → ℕ → Outcome ℕ
wanted_answer c given = let n = length c.want.now in outcome (room_last c.wanted (room c.code n given)) n

-- what a writer of the wanted bytes leaves in a buffer of n bytes that was filled up
abbrev pub wanted_effect : Case → ℕ → Effect
wanted_effect c n = put_checked c.wanted c.code c.want.now (replicate n c.fill)

-- the answer and the buffer after a writer was given only its room: what it leaves there, and the fill byte behind it
pub record Tried (c : Case) (written : Outcome ℕ) (out : List ℕ) : Type 0 where
  pub fits : c.room ≤ length out
  pub inside : (written, take c.room out) ≡ wanted_effect c c.room
  pub behind : AllFrom out c.room c.fill
