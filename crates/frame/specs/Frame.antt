-- A frame (R102): 0x53, address, whole length u16, control, code, payload, check.
use Rattle.std.specs.Prelude.{Bool, ◌-◌, List, [], ◌∷◌, ◌++◌, ℕ, ◌+◌, ◌/◌, ◌%◌, cond, length, take, drop, eqb, leb, ltb}
use Rattle.payload_util.specs.Prelude.{byte_at, u16_at, u16_bytes, require, ◌also◌, Outcome, outcome, guard_of, tail_where, Effect, put_checked}
use Rattle.payload_util.specs.Guards.{at_least, declared_len}
use Rattle.codes.specs.CommandCode.{read_command}
use Rattle.codes.specs.ReplyCode.{read_reply}
use Rattle.crc.specs.Crc.{crc_of}
use Rattle.crc.specs.Sum.{sum_of, twos_complement}
use Rattle.frame.specs.declared.Frame.{Frame}
use Rattle.payload_util.specs.Refusals.{Guard, refusal}
use Rattle.payload_util.specs.declared.Row.TheVariants.{FrameTooLong, NotAFrame, WrongCheck}

-- the first byte of every frame, the house limit, and what the CRC starts from
abbrev pub som : ℕ
som = 0x53

abbrev pub longest : ℕ
longest = 1440

abbrev pub crc_start : ℕ
crc_start = 0x1D0F

-- a reply's address has its top bit set
abbrev pub is_reply : List ℕ → Bool
is_reply f = leb 128 (byte_at f 1)

-- control bits 0 and 1 are the sequence, bit 2 asks for a CRC; no higher bit is accepted, such as bit 3, which announces a security block
abbrev pub asks_crc : List ℕ → Bool
asks_crc f = leb 4 (byte_at f 4)

abbrev pub fields_of : List ℕ → Frame
fields_of f = record { address = byte_at f 1 % 128; reply = is_reply f; sequence = byte_at f 4 % 4; crc = asks_crc f; code = byte_at f 5 }

-- the check of bytes, as a number: their CRC, or the two's complement of their sum
unfoldable pub check_over : Bool → List ℕ → ℕ
check_over crc s = cond crc (crc_of crc_start s) (twos_complement (sum_of 0 s))

-- it has two bytes or one, low byte first
abbrev pub check_len : Bool → ℕ
check_len crc = cond crc 2 1

abbrev pub check_bytes : Bool → List ℕ → List ℕ
check_bytes crc s = take (check_len crc) (u16_bytes (check_over crc s))

-- where it is in a whole frame
abbrev pub check_at : Bool → List ℕ → ℕ
check_at crc f = length f - check_len crc

-- row 21: the bytes from there on, of which `u16_at` counts one past the end as 0, are the check of all earlier bytes
unfoldable pub right_check : Bool → List ℕ → Guard
right_check crc f = require (eqb (u16_at f (check_at crc f)) (check_over crc (take (check_at crc f) f))) (refusal WrongCheck 0 0 0)

-- rows 1 and 2: the code is in the table that the address picks
unfoldable pub known_code : Bool → ℕ → Guard
known_code reply b = cond reply (guard_of (read_reply b)) (guard_of (read_command b))

-- what a reader checks, in this order
unfoldable pub front : List ℕ → Guard
front f =
    at_least 7 0 f
    also require (eqb (byte_at f 0) som) (refusal NotAFrame 0 0 0)
    also require (leb (length f) longest) (refusal FrameTooLong 0 0 0)
    also declared_len (u16_at f 2) 0 f

unfoldable pub control : List ℕ → Guard
control f =
    require (ltb (byte_at f 4) 8) (refusal NotAFrame 0 0 0)
    also at_least (6 + check_len (asks_crc f)) 0 f
    also right_check (asks_crc f) f

unfoldable pub check_frame : List ℕ → Guard
check_frame f = front f also control f also known_code (is_reply f) (byte_at f 5)

abbrev pub read_frame : List ℕ → Outcome Frame
read_frame f = outcome (check_frame f) (fields_of f)

-- the payload is what is between the code and the check
abbrev pub payload_in : Frame → List ℕ → List ℕ
payload_in r f = take (length f - (6 + check_len r.crc)) (drop 6 f)

abbrev pub frame_payload : List ℕ → List ℕ
frame_payload f = tail_where (check_frame f) (payload_in (fields_of f) f)

-- how long a frame is with its payload
abbrev pub frame_len : Frame → List ℕ → ℕ
frame_len r p = 6 + length p + check_len r.crc

-- what a writer refuses, in this order, if the frame would have so many bytes; lack of room comes last
unfoldable pub refuse_frame : Frame → ℕ → Guard
refuse_frame r len =
    require (ltb r.address 128) (refusal NotAFrame r.code 0 0)
    also require (ltb r.sequence 4) (refusal NotAFrame r.code 0 0)
    also known_code r.reply r.code
    also require (leb len longest) (refusal FrameTooLong r.code 0 0)

-- the bytes before the payload, in a frame of so many bytes
abbrev pub head_bytes : Frame → ℕ → List ℕ
head_bytes r len =
    som ∷ (r.address + cond r.reply 128 0) ∷ len % 256 ∷ len / 256 ∷ (r.sequence + cond r.crc 4 0) ∷ r.code ∷ []

abbrev pub body_bytes : Frame → List ℕ → List ℕ
body_bytes r p = head_bytes r (frame_len r p) ++ p

abbrev pub frame_bytes : Frame → List ℕ → List ℕ
frame_bytes r p = body_bytes r p ++ check_bytes r.crc (body_bytes r p)

abbrev pub write_frame : Frame → List ℕ → List ℕ → Effect
write_frame r p out = put_checked (refuse_frame r (frame_len r p)) r.code (frame_bytes r p) out
