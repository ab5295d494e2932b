-- What a writer leaves: its answer and the buffer (R6.4, R7.2). Row 15 comes last, and a refusal changes no byte.
use Rattle.std.specs.Prelude.{◌≡◌, ℕ, ◌≤◌, List, ◌++◌, length, drop, Ok, Err}
use Rattle.payload_util.specs.Refusals.{◌also◌, Outcome, Guard, Pass}
use Rattle.payload_util.specs.Guards.{room}

abbrev pub Effect : Type 0
Effect = Outcome ℕ × List ℕ

-- the bytes are at the front of the buffer if all checks pass, and the buffer is as it was if one refuses
abbrev pub effect : Guard → List ℕ → List ℕ → Effect
effect (Ok _) bytes out = (Ok (length bytes), bytes ++ drop (length bytes) out)
effect (Err e) bytes out = (Err e, out)

-- the kind's own checks come first, and room last
abbrev pub room_last : Guard → Guard → Guard
room_last own room = own also room

abbrev pub put_checked : Guard → ℕ → List ℕ → List ℕ → Effect
put_checked own code bytes out = effect (room_last own (room code (length bytes) (length out))) bytes out

abbrev pub put : ℕ → List ℕ → List ℕ → Effect
put code bytes out = put_checked Pass code bytes out

-- R7.2: a refusal leaves the buffer as it was; a success leaves its length, and the bytes after the written ones
abbrev pub Leaves : Effect → List ℕ → Type 0
Leaves (Ok n, after) out = (n ≤ length out) × (length after ≡ length out) × (drop n after ≡ drop n out)
Leaves (Err e, after) out = after ≡ out

-- a payload read, and its record written again
abbrev pub rewrite : {A : Type 0} → Outcome A → (A → Effect) → List ℕ → Effect
rewrite (Ok a) writes out = writes a
rewrite (Err e) writes out = (Err e, out)
