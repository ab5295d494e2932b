-- The frames of a stream: what it has at a place, s being the bytes that are there from the place on.
use Rattle.std.specs.Prelude.{Bool, not, ◌&&◌, List, ℕ, ◌+◌, cond, length, take, drop, eqb, leb, ltb, Ok, Err}
use Rattle.std.specs.List.{position_or_len}
use Rattle.payload_util.specs.Prelude.{byte_at, u16_at, Outcome, refusal}
use Rattle.payload_util.specs.declared.Row.TheVariants.{FrameTooLong}
use Rattle.frame.specs.declared.Frame.{Frame}
use Rattle.frame.specs.declared.scanner.Scanned.{Scanned}
use Rattle.frame.specs.declared.scanner.Scanned.TheVariants.{Read, Damaged, Other, More}
use Rattle.frame.specs.Frame.{som, longest, read_frame}

-- how many bytes there are before the next one that can begin a frame
abbrev pub before : List ℕ → ℕ
before s = position_or_len (λ b. eqb b som) s

-- how many bytes a frame needs that begins here: seven, and once these are there as many as its length field says
abbrev pub needed : List ℕ → ℕ
needed s = cond (ltb (length s) 7) 7 (u16_at s 2)

-- the frame that begins here, of as many bytes as it needs or as there are; row 22 for more than a frame may have
abbrev pub read_at : List ℕ → Outcome Frame
read_at s = cond (leb (needed s) longest) (read_frame (take (needed s) s)) (Err (refusal FrameTooLong 0 0 0))

-- a frame that is refused is passed over up to the next byte that can begin one
abbrev pub told : Outcome Frame → List ℕ → Scanned
told (Ok r) s = Read r (needed s)
told (Err e) s = Damaged e (1 + before (drop 1 s))

-- more bytes are waited for if some may come, and if a frame may have as many
abbrev pub waits : List ℕ → Bool → Bool
waits s ended = not ended && ltb (length s) (needed s) && leb (needed s) longest

abbrev pub scan : List ℕ → Bool → Scanned
scan s ended =
    cond (eqb (length s) 0) (More (needed s))
    (cond (eqb (byte_at s 0) som)
    (cond (waits s ended) (More (needed s)) (told (read_at s) s))
    (Other (before s)))
