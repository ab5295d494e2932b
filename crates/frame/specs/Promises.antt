-- The theorems of frames.
use Rattle.payload_util.specs.Bytes.{Bytes}
use Rattle.payload_util.specs.Writing.{Leaves}
use Rattle.std.specs.Prelude.{◌⊎◌, ◌≡◌, Bool, true, false, List, [], ◌++◌, ℕ, ◌≤◌, ◌<◌, length, take, drop, Ok, Err}
use Rattle.payload_util.specs.Prelude.{byte_at, put}
use Rattle.payload_util.specs.declared.Refusal.{Refusal}
use Rattle.frame.specs.declared.Frame.{Frame}
use Rattle.frame.specs.declared.scanner.Scanned.TheVariants.{Read, Damaged, Other, More}
use Rattle.frame.specs.Frame.{longest, read_frame, payload_in, frame_payload, write_frame}
use Rattle.frame.specs.Scan.{needed, scan}
use Rattle.payload_util.specs.Refusals.{refusal}
use Rattle.payload_util.specs.declared.Row.TheVariants.{UnknownCommand, UnknownReply}

-- R102.8: writing what was read puts the frame into every buffer, or refuses by row 15 with the frame's length
abbrev pub WritesBack : Type 0
WritesBack =
    (f out : List ℕ) (r : Frame) → Bytes f → read_frame f ≡ Ok r → write_frame r (frame_payload f) out ≡ put r.code f out

-- R102.9, R102.10: what is written is read as the same record and payload, and is no longer than the house limit
abbrev pub ReadsBack : Type 0
ReadsBack =
    (r : Frame) (p out : List ℕ) (n : ℕ) → (write_frame r p out).0 ≡ Ok n
    → (read_frame (take n (write_frame r p out).1) ≡ Ok r)
    × (frame_payload (take n (write_frame r p out).1) ≡ p)
    × (n ≤ longest)

-- R102.7: the part of a frame that was read, without a second look at its check, is its payload
abbrev pub SamePayload : Type 0
SamePayload = (f : List ℕ) (r : Frame) → read_frame f ≡ Ok r → payload_in r f ≡ frame_payload f

-- R102.13: a refusal of the reader has code byte 0, or is that of an unknown code; one of the writer has the code given
abbrev pub CodeBytes : Type 0
CodeBytes =
    ((f : List ℕ) (e : Refusal) → read_frame f ≡ Err e
    → (e.code ≡ 0) ⊎ (e ≡ refusal UnknownCommand (byte_at f 5) 0 0) ⊎ (e ≡ refusal UnknownReply (byte_at f 5) 0 0))
    × ((r : Frame) (p out : List ℕ) (e : Refusal) → (write_frame r p out).0 ≡ Err e → e.code ≡ r.code)

-- R7.2: what a writer leaves of a buffer
abbrev pub Untouched : Type 0
Untouched = (r : Frame) (p out : List ℕ) → Leaves (write_frame r p out) out

-- a stream has a good frame at its front
abbrev pub BeginsFrame : List ℕ → Type 0
BeginsFrame s = (n : ℕ) × (r : Frame) × (read_frame (take n s) ≡ Ok r)

-- at none of the first n places of a stream does a good frame begin
abbrev pub NoFrame : ℕ → List ℕ → Type 0
NoFrame n s = (i : ℕ) → i < n → BeginsFrame (drop i s) → ⊥

-- R12.8: a good frame at the front is found, whatever follows it
abbrev pub FindsFrames : Type 0
FindsFrames = (f t : List ℕ) (r : Frame) (ended : Bool) → read_frame f ≡ Ok r → scan (f ++ t) ended ≡ Read r (length f)

-- R12.8: what is found is a good frame, of bytes that are there
abbrev pub FoundIsRead : Type 0
FoundIsRead =
    (s : List ℕ) (ended : Bool) (r : Frame) (n : ℕ) → scan s ended ≡ Read r n
    → (7 ≤ n) × (n ≤ length s) × (read_frame (take n s) ≡ Ok r)

-- R12.7: no place is passed over at which a good frame begins, whatever bytes still come; and something is passed over, of the bytes that are there
abbrev pub PassesNone : Type 0
PassesNone =
    (s t : List ℕ) (ended : Bool) (n : ℕ) → (ended ≡ true → t ≡ [])
    → (scan s ended ≡ Other n) ⊎ ((e : Refusal) × (scan s ended ≡ Damaged e n))
    → (1 ≤ n) × (n ≤ length s) × NoFrame n (s ++ t)

-- R12.9: more bytes are asked for only if there are fewer, and never more than a frame may have; once a stream has ended, only where nothing is left
abbrev pub WaitsShortly : Type 0
WaitsShortly =
    (s : List ℕ) (ended : Bool) (n : ℕ) → scan s ended ≡ More n → (length s < n) × (n ≤ longest) × (ended ≡ true → s ≡ [])

-- R12.8: a damaged frame is refused as a reader refuses it, unless it says that it is longer than a frame may be
abbrev pub RefusedAsRead : Type 0
RefusedAsRead =
    (s : List ℕ) (ended : Bool) (e : Refusal) (n : ℕ) → scan s ended ≡ Damaged e n → needed s ≤ longest
    → read_frame (take (needed s) s) ≡ Err e

-- R12.8: a refusal is the same however the bytes come in parts; more of them may be passed over
abbrev pub SameInParts : Type 0
SameInParts =
    (s t : List ℕ) (ended : Bool) (e : Refusal) (n : ℕ) → scan s false ≡ Damaged e n
    → (m : ℕ) × (scan (s ++ t) ended ≡ Damaged e m) × (n ≤ m)
