-- The theorems of frames.
-- Assumes nothing.
use mathlib.Core.Path.{◌≡◌, ap, ap₂, ◌∙◌}
use mathlib.Core.List.{List}
use Prim.Native.Nat.{ℕ}
use native.Mathlib.Omega.{arith}
use lib.ListN.{length}
use Rattle.payload_util.specs.Writing.{Effect, room_last, put_checked, put}
use Rattle.payload_util.specs.Guards.{room}
use Rattle.payload_util.proofs.Guards.{gives_pass}
use Rattle.payload_util.proofs.Scheme.{wrote, counted, leaves}
use Rattle.frame.specs.Frame.{check_frame, fields_of, payload_in, frame_payload, frame_len, refuse_frame, frame_bytes, write_frame}
use Rattle.frame.specs.Promises.{WritesBack, ReadsBack, SamePayload, Untouched}
use Rattle.frame.proofs.Laws.{accepted, writable}
use Rattle.frame.proofs.Back.{bytes_back, refuse_back}
use Rattle.frame.proofs.Forth.{len, forth, forth_payload}

pub same_payload : SamePayload
same_payload f r e =
    let (pass, is) = gives_pass (check_frame f) (fields_of f) r e in
    rw (pass, ← is)

pub writes_back : WritesBack
writes_back f out r b e =
    let (pass, is) = gives_pass (check_frame f) (fields_of f) r e in
    let a = accepted f pass in
    let inside : frame_payload f ≡ payload_in (fields_of f) f = rw pass in
    let all : write_frame (fields_of f) (payload_in (fields_of f) f) out ≡ put (fields_of f).code f out =
    ap₂ {C = Effect} (λ g bs. put_checked g (fields_of f).code bs out) (refuse_back f b a) (bytes_back f b a) in
    ap (λ (p : List ℕ). write_frame r p out) inside ∙ rw (← is) all

pub reads_back : ReadsBack
reads_back r p out n e =
    let (front, pass) = wrote (refuse_frame r (frame_len r p)) r.code (frame_bytes r p) out n e in
    let count = counted (room_last (refuse_frame r (frame_len r p)) (room r.code (length (frame_bytes r p)) (length out))) (frame_bytes r p) out n e in
    (rw front (forth r p pass), rw front (forth_payload r p pass), omega (arith, count, len r p pass, (writable r (frame_len r p) pass).short))

pub untouched : Untouched
untouched r p out = leaves (refuse_frame r (frame_len r p)) r.code (frame_bytes r p) out
