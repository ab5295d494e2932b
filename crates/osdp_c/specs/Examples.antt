-- What a C program is told of frames, and what it gets written: frames that were published, each flag with more than one value, and refusals.
use Rattle.std.specs.Prelude.{◌≡◌, List, [], ◌∷◌, ◌++◌, ℕ, ℤ, length, pos, negsuc, replicate}
use Rattle.frame.specs.Frame.{check_frame, write_frame}
use Rattle.osdp.specs.Signed.{answer_of, effect_of}
use Rattle.osdp_c.specs.Flags.{frame_of}

-- the frame passes, and it is written by these numbers
abbrev pub Sent : ℕ → ℕ → ℕ → ℕ → ℕ → List ℕ → Type 0
Sent address reply sequence crc code f =
    (answer_of (check_frame f) ≡ pos 0)
    × (effect_of (write_frame (frame_of address reply sequence crc code) [] (replicate (length f) 0 ++ 0xA5 ∷ [])) ≡ (pos (length f), f ++ 0xA5 ∷ []))

abbrev pub Flagged : Type 0
Flagged =
    Sent 0 0 0 0 0x60 (0x53 ∷ 0x00 ∷ 0x07 ∷ 0x00 ∷ 0x00 ∷ 0x60 ∷ 0x46 ∷ [])
    × Sent 0 0 0 1 0x60 (0x53 ∷ 0x00 ∷ 0x08 ∷ 0x00 ∷ 0x04 ∷ 0x60 ∷ 0xEB ∷ 0xAA ∷ [])
    × Sent 0 1 1 255 0x40 (0x53 ∷ 0x80 ∷ 0x08 ∷ 0x00 ∷ 0x05 ∷ 0x40 ∷ 0x68 ∷ 0x9F ∷ [])
    × Sent 0 128 1 2 0x40 (0x53 ∷ 0x80 ∷ 0x08 ∷ 0x00 ∷ 0x05 ∷ 0x40 ∷ 0x68 ∷ 0x9F ∷ [])

-- the writer's answer, and the buffer as it was
abbrev pub Unsent : ℕ → ℕ → ℕ → ℕ → ℕ → ℤ → Type 0
Unsent address reply sequence crc code answer =
    effect_of (write_frame (frame_of address reply sequence crc code) [] (replicate 6 0xA5)) ≡ (answer, replicate 6 0xA5)

abbrev pub Refused : Type 0
Refused =
    (answer_of (check_frame (0x53 ∷ 0x00 ∷ 0x08 ∷ 0x00 ∷ 0x04 ∷ 0x60 ∷ 0xAA ∷ 0xEB ∷ [])) ≡ negsuc 20)
    × (answer_of (check_frame []) ≡ negsuc 3)
    × Unsent 0x80 0 0 0 0x60 (negsuc 19)
    -- a command's code in a reply, and a reply's in a command
    × Unsent 0 1 0 0 0x60 (negsuc 1)
    × Unsent 0 0 0 0 0x40 (negsuc 0)
    × Unsent 0 0 0 0 0x60 (negsuc 14)
