-- A frame as a C program gives it, in numbers.
use Rattle.std.specs.Prelude.{Bool, ℕ, ltb}
use Rattle.frame.specs.declared.Frame.{Frame}

-- a flag is set if it is not 0
abbrev pub is_set : ℕ → Bool
is_set flag = ltb 0 flag

abbrev pub frame_of : ℕ → ℕ → ℕ → ℕ → ℕ → Frame
frame_of address reply sequence crc code =
    record { address = address; reply = is_set reply; sequence = sequence; crc = is_set crc; code = code }
