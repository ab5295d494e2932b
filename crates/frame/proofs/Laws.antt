-- What the checks of a frame say, and what the writer's say.
-- Assumes nothing.
use mathlib.Core.Path.{◌≡◌}
use mathlib.Core.Bool.{Bool, true, false}
use mathlib.Core.List.{List, [], ◌++◌, append-nil}
use Prim.Native.Nat.{ℕ, ◌+◌, ◌≤◌, ◌<◌}
use native.Mathlib.Omega.{arith}
use borrow.Author.Tests.{ltb-true, leb-true, eqb-true, lt-ltb, le-leb, eq-eqb}
use lib.Dec.{ltb, leb, eqb}
use lib.ListN.{length, take}
use Rattle.payload_util.specs.Bytes.{byte_at, u16_at}
use Rattle.payload_util.specs.Refusals.{require, Pass, refusal}
use Rattle.payload_util.specs.Guards.{at_least, declared_len}
use Rattle.payload_util.proofs.Guards.{check_pass, also_pass, least_pass, pass_least, declared_pass}
use Rattle.frame.specs.declared.Frame.{Frame}
use Rattle.frame.specs.Frame.{som, longest, is_reply, asks_crc, check_over, check_len, check_at, right_check, known_code, front, control, check_frame, refuse_frame}
use Rattle.payload_util.specs.declared.Row.TheVariants.{FrameTooLong, NotAFrame}

-- a check over two parts, if the second is empty
pub check_alone : (crc : Bool) (s : List ℕ) → check_over crc (s ++ []) ≡ check_over crc s
check_alone crc s = rw append-nil

pub record Accepted (f : List ℕ) : Type 0 where
  pub begins : byte_at f 0 ≡ som
  pub short : length f ≤ longest
  pub declared : length f ≡ u16_at f 2
  pub plain : byte_at f 4 < 8
  pub room : 6 + check_len (asks_crc f) ≤ length f
  pub right : u16_at f (check_at (asks_crc f) f) ≡ check_over (asks_crc f) (take (check_at (asks_crc f) f) f)
  pub known : known_code (is_reply f) (byte_at f 5) ≡ Pass

pub accepted : (f : List ℕ) → check_frame f ≡ Pass → Accepted f
unfolding check_frame front control right_check
accepted f e =
    let a = also_pass (front f) _ e in
    let least = also_pass (at_least 7 0 f) _ a.0 in
    let begins = also_pass (require (eqb (byte_at f 0) som) (refusal NotAFrame 0 0 0)) _ least.1 in
    let short = also_pass (require (leb (length f) longest) (refusal FrameTooLong 0 0 0)) _ begins.1 in
    let b = also_pass (control f) _ a.1 in
    let plain = also_pass (require (ltb (byte_at f 4) 8) (refusal NotAFrame 0 0 0)) _ b.0 in
    let room = also_pass (at_least (6 + check_len (asks_crc f)) 0 f) _ plain.1 in
    record {
      begins = eqb-true _ _ (check_pass _ _ begins.0);
      short = leb-true _ _ (check_pass _ _ short.0);
      declared = declared_pass _ 0 f short.1;
      plain = ltb-true _ _ (check_pass _ _ plain.0);
      room = least_pass _ 0 f room.0;
      right = eqb-true _ _ (check_pass _ _ room.1);
      known = b.1;
    }

len_pos : (crc : Bool) → 1 ≤ check_len crc
len_pos true = omega arith
len_pos false = omega arith

-- an accepted frame has seven bytes
pub long : (f : List ℕ) → Accepted f → 7 ≤ length f
long f a = omega (arith, a.room, len_pos (asks_crc f))

-- the checks say no more
pub accepts : (f : List ℕ) → Accepted f → check_frame f ≡ Pass
unfolding check_frame front control right_check declared_len
accepts f a =
    simp (pass_least 7 0 f (long f a), eq-eqb _ _ a.begins, le-leb _ _ a.short, eq-eqb _ _ a.declared, lt-ltb _ _ a.plain, pass_least _ 0 f a.room, eq-eqb _ _ a.right, a.known)

pub record Writable (r : Frame) (len : ℕ) : Type 0 where
  pub address : r.address < 128
  pub sequence : r.sequence < 4
  pub known : known_code r.reply r.code ≡ Pass
  pub short : len ≤ longest

pub writable : (r : Frame) (len : ℕ) → refuse_frame r len ≡ Pass → Writable r len
unfolding refuse_frame
writable r len e =
    let address = also_pass (require (ltb r.address 128) (refusal NotAFrame r.code 0 0)) _ e in
    let sequence = also_pass (require (ltb r.sequence 4) (refusal NotAFrame r.code 0 0)) _ address.1 in
    let known = also_pass (known_code r.reply r.code) _ sequence.1 in
    record {
      address = ltb-true _ _ (check_pass _ _ address.0);
      sequence = ltb-true _ _ (check_pass _ _ sequence.0);
      known = known.0;
      short = leb-true _ _ (check_pass _ _ known.1);
    }

-- the fields and the length fit
pub writable_fits : (r : Frame) (len : ℕ) → refuse_frame r len ≡ Pass → (r.address < 128) × (r.sequence < 4) × (len < 65536)
writable_fits r len e = let w = writable r len e in (w.address, w.sequence, omega (arith, w.short))
