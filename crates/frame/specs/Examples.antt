-- Frames with their answers: published ones, one for each refusal, and pairs of faults of which the earlier row is given; and streams.
use Rattle.std.specs.Prelude.{Bool, true, false, replicate, ◌≡◌, List, [], ◌∷◌, ◌++◌, ℕ, Ok, Err}
use Rattle.payload_util.specs.declared.Refusal.{Refusal}
use Rattle.frame.specs.declared.Frame.{Frame}
use Rattle.frame.specs.declared.scanner.Scanned.TheVariants.{Read, Damaged, Other, More}
use Rattle.frame.specs.Frame.{read_frame, frame_payload, write_frame}
use Rattle.frame.specs.Scan.{scan}
use Rattle.payload_util.specs.Refusals.{refusal}
use Rattle.payload_util.specs.declared.Row.TheVariants.{BufferTooShort, DeclaredLength, FrameTooLong, NotAFrame, PayloadTooShort, UnknownCommand, UnknownReply, WrongCheck}

abbrev pub frame : ℕ → Bool → ℕ → Bool → ℕ → Frame
frame address reply sequence crc code = record { address = address; reply = reply; sequence = sequence; crc = crc; code = code }

-- a frame reads as a record and a payload, and these are written as the frame
abbrev pub Both : List ℕ → Frame → List ℕ → ℕ → Type 0
Both f r p n = (read_frame f ≡ Ok r) × (frame_payload f ≡ p) × (write_frame r p (replicate n 0 ++ 0xA5 ∷ []) ≡ (Ok n, f ++ 0xA5 ∷ []))

abbrev pub Published : Type 0
Published =
    Both (0x53 ∷ 0x00 ∷ 0x08 ∷ 0x00 ∷ 0x04 ∷ 0x60 ∷ 0xEB ∷ 0xAA ∷ []) (frame 0 false 0 true 0x60) [] 8
    × Both (0x53 ∷ 0x80 ∷ 0x08 ∷ 0x00 ∷ 0x05 ∷ 0x40 ∷ 0x68 ∷ 0x9F ∷ []) (frame 0 true 1 true 0x40) [] 8
    × Both (0x53 ∷ 0x00 ∷ 0x07 ∷ 0x00 ∷ 0x00 ∷ 0x60 ∷ 0x46 ∷ []) (frame 0 false 0 false 0x60) [] 7
    × Both (0x53 ∷ 0x05 ∷ 0x0B ∷ 0x00 ∷ 0x01 ∷ 0x68 ∷ 0x03 ∷ 0x05 ∷ 0x0A ∷ 0x00 ∷ 0x22 ∷ []) (frame 5 false 1 false 0x68) (0x03 ∷ 0x05 ∷ 0x0A ∷ 0x00 ∷ []) 11
    × Both (0x53 ∷ 0xFF ∷ 0x08 ∷ 0x00 ∷ 0x03 ∷ 0x41 ∷ 0x03 ∷ 0x5F ∷ []) (frame 127 true 3 false 0x41) (0x03 ∷ []) 8

-- the reader refuses, and there is no payload
abbrev pub IsRefused : List ℕ → Refusal → Type 0
IsRefused f e = (read_frame f ≡ Err e) × (frame_payload f ≡ [])

-- each frame has the fault of its row and of the next line's too
abbrev pub InOrder : Type 0
InOrder =
    IsRefused [] (refusal PayloadTooShort 0 7 0)
    × IsRefused (0x52 ∷ 0 ∷ 0 ∷ 0 ∷ 8 ∷ 0 ∷ []) (refusal PayloadTooShort 0 7 6)
    × IsRefused (0x52 ∷ replicate 1440 0) (refusal NotAFrame 0 0 0)
    × IsRefused (0x53 ∷ replicate 1440 0) (refusal FrameTooLong 0 0 0)
    -- one byte less is not too long
    × IsRefused (0x53 ∷ 0 ∷ 0 ∷ 0 ∷ 8 ∷ replicate 1435 0) (refusal DeclaredLength 0 0 1440)
    × IsRefused (0x53 ∷ 0 ∷ 8 ∷ 0 ∷ 8 ∷ 0 ∷ 0 ∷ []) (refusal DeclaredLength 0 8 7)
    × IsRefused (0x53 ∷ 0 ∷ 7 ∷ 1 ∷ 8 ∷ 0 ∷ 0 ∷ []) (refusal DeclaredLength 0 263 7)
    × IsRefused (0x53 ∷ 0 ∷ 7 ∷ 0 ∷ 12 ∷ 0 ∷ 0 ∷ []) (refusal NotAFrame 0 0 0)
    × IsRefused (0x53 ∷ 0 ∷ 7 ∷ 0 ∷ 128 ∷ 0 ∷ 0 ∷ []) (refusal NotAFrame 0 0 0)
    × IsRefused (0x53 ∷ 0 ∷ 7 ∷ 0 ∷ 4 ∷ 0 ∷ 0 ∷ []) (refusal PayloadTooShort 0 8 7)
    × IsRefused (0x53 ∷ 0 ∷ 7 ∷ 0 ∷ 0 ∷ 0x63 ∷ 0 ∷ []) (refusal WrongCheck 0 0 0)
    -- the two bytes of a CRC exchanged
    × IsRefused (0x53 ∷ 0x00 ∷ 0x08 ∷ 0x00 ∷ 0x04 ∷ 0x60 ∷ 0xAA ∷ 0xEB ∷ []) (refusal WrongCheck 0 0 0)
    × IsRefused (0x53 ∷ 0 ∷ 7 ∷ 0 ∷ 0 ∷ 0x63 ∷ 0x43 ∷ []) (refusal UnknownCommand 0x63 0 0)
    -- a command's code in a reply
    × IsRefused (0x53 ∷ 0x80 ∷ 7 ∷ 0 ∷ 0 ∷ 0x60 ∷ 0xC6 ∷ []) (refusal UnknownReply 0x60 0 0)

-- the writer refuses, and leaves the buffer as it was
abbrev pub NotWritten : Frame → List ℕ → Refusal → Type 0
NotWritten r p e = write_frame r p (0xA5 ∷ []) ≡ (Err e, 0xA5 ∷ [])

abbrev pub WriterInOrder : Type 0
WriterInOrder =
    NotWritten (frame 128 false 0 false 0x63) [] (refusal NotAFrame 0x63 0 0)
    × NotWritten (frame 127 false 4 false 0x63) [] (refusal NotAFrame 0x63 0 0)
    × NotWritten (frame 127 false 3 false 0x63) (replicate 1434 0) (refusal UnknownCommand 0x63 0 0)
    × NotWritten (frame 127 true 3 false 0x60) (replicate 1434 0) (refusal UnknownReply 0x60 0 0)
    × NotWritten (frame 127 false 3 false 0x60) (replicate 1434 0) (refusal FrameTooLong 0x60 0 0)
    × NotWritten (frame 127 false 3 true 0x60) (replicate 1433 0) (refusal FrameTooLong 0x60 0 0)
    × NotWritten (frame 127 false 3 true 0x60) (replicate 1432 0) (refusal BufferTooShort 0x60 1440 1)

abbrev pub poll : List ℕ
poll = 0x53 ∷ 0x00 ∷ 0x08 ∷ 0x00 ∷ 0x04 ∷ 0x60 ∷ 0xEB ∷ 0xAA ∷ []

abbrev pub polled : Frame
polled = frame 0 false 0 true 0x60

-- what a stream has at its front, while more may come, and once it has ended
abbrev pub Streams : Type 0
Streams =
    (scan [] false ≡ More 7)
    × (scan [] true ≡ More 7)
    × (scan (0xFF ∷ []) false ≡ Other 1)
    × (scan (0xFF ∷ 0xFF ∷ 0x00 ∷ poll) false ≡ Other 3)
    -- a frame, whatever follows it
    × (scan poll false ≡ Read polled 8)
    × (scan (poll ++ 0xFF ∷ 0x53 ∷ []) true ≡ Read polled 8)
    -- one that is not all there
    × (scan (0x53 ∷ []) false ≡ More 7)
    × (scan (0x53 ∷ 0x00 ∷ 0x08 ∷ 0x00 ∷ 0x04 ∷ 0x60 ∷ 0xEB ∷ []) false ≡ More 8)
    × (scan (0x53 ∷ 0x00 ∷ 0x08 ∷ 0x00 ∷ 0x04 ∷ 0x60 ∷ 0xEB ∷ []) true ≡ Damaged (refusal DeclaredLength 0 8 7) 7)
    × (scan (0x53 ∷ 0x00 ∷ []) true ≡ Damaged (refusal PayloadTooShort 0 7 2) 2)
    -- one that is refused, up to the next byte that can begin one, here within it
    × (scan (0x53 ∷ 0x00 ∷ 0x08 ∷ 0x00 ∷ 0x04 ∷ 0x53 ∷ 0xEB ∷ 0xAA ∷ []) false ≡ Damaged (refusal WrongCheck 0 0 0) 5)
    -- a length field of a frame with one byte too many, which is not waited for, and with none too many
    × (scan (0x53 ∷ 0x00 ∷ 0xA1 ∷ 0x05 ∷ 0x04 ∷ 0x60 ∷ 0xEB ∷ []) false ≡ Damaged (refusal FrameTooLong 0 0 0) 7)
    × (scan (0x53 ∷ 0x00 ∷ 0xA0 ∷ 0x05 ∷ 0x04 ∷ 0x60 ∷ 0xEB ∷ []) false ≡ More 1440)
    -- one with no room for the fields
    × (scan (0x53 ∷ 0x00 ∷ 0x06 ∷ 0x00 ∷ 0x04 ∷ 0x60 ∷ 0xEB ∷ 0x53 ∷ []) false ≡ Damaged (refusal PayloadTooShort 0 7 6) 7)
