-- What is written is read as the same record and payload.
-- Assumes nothing.
use mathlib.Core.Path.{◌≡◌, refl, sym, ap, ◌∙◌}
use mathlib.Core.Bool.{Bool, true, false, cond}
use mathlib.Core.List.{List, [], ◌∷◌, ◌++◌}
use Prim.Native.Nat.{ℕ, ◌+◌, ◌-◌, ◌*◌, ◌/◌, ◌%◌, ◌<◌}
use native.Mathlib.Nat.{add-mod_right, mod-eq_of_lt}
use native.Mathlib.Omega.{arith}
use borrow.Author.Tests.{le-leb, lt-leb}
use lib.Dec.{leb}
use lib.ListN.{length, get_or, take, length-append}
use lib.Seq.{take_at, get_or-append_seam, get_or-append-add}
use Rattle.payload_util.specs.Bytes.{u16_at}
use Rattle.crc.proofs.Laws.{crc_lt}
use Rattle.frame.specs.declared.Frame.{Frame}
use Rattle.frame.specs.Frame.{crc_start, check_over, check_len, check_bytes, check_at, check_frame, read_frame, frame_payload, frame_len, refuse_frame, body_bytes, frame_bytes}
use Rattle.frame.proofs.Laws.{accepts, Writable, writable}
use Rattle.std.specs.Prelude.{Ok}
use Rattle.payload_util.specs.Refusals.{Pass}

-- a number of two bytes at a list's end, and of one
u16_at_end : (s : List ℕ) (x y n : ℕ) → n ≡ length s → u16_at (s ++ x ∷ y ∷ []) n ≡ x + 256 * y
u16_at_end s x y n e = rw (e, get_or-append_seam s x (y ∷ []) 0, get_or-append-add s (x ∷ y ∷ []) 1 0)

u8_at_end : (s : List ℕ) (x n : ℕ) → n ≡ length s → u16_at (s ++ x ∷ []) n ≡ x
u8_at_end s x n e =
    let last : get_or (s ++ x ∷ []) (length s) 0 ≡ x = get_or-append_seam s x [] 0 in
    let past : get_or (s ++ x ∷ []) (length s + 1) 0 ≡ 0 = get_or-append-add s (x ∷ []) 1 0 in
    rw (e, last, past) (omega arith)

-- the check is read as it was written
check_forth : (crc : Bool) (s : List ℕ) → u16_at (s ++ check_bytes crc s) (check_at crc (s ++ check_bytes crc s)) ≡ check_over crc s
unfolding check_over
check_forth true s =
    let v = check_over true s in
    let small : v < 65536 = crc_lt s crc_start (omega arith) in
    u16_at_end s (v % 256) (v / 256) _ (omega (arith, length-append s (v % 256 ∷ v / 256 ∷ []))) ∙ omega arith
check_forth false s =
    let v = check_over false s in
    u8_at_end s (v % 256) _ (omega (arith, length-append s (v % 256 ∷ []))) ∙ omega arith

len_check : (crc : Bool) (s : List ℕ) → length (check_bytes crc s) ≡ check_len crc
len_check true s = refl
len_check false s = refl

-- the top bit of a byte, which is w, put in and taken out
abbrev InTop : Bool → ℕ → ℕ → Type 0
InTop t w a = (leb w (a + cond t w 0) ≡ t) × ((a + cond t w 0) % w ≡ a) × (a + cond t w 0 < 2 * w)

top_in : (t : Bool) (w a : ℕ) → a < w → InTop t w a
top_in true w a h = (le-leb w (a + w) (omega arith), add-mod_right a w ∙ mod-eq_of_lt h, omega arith)
top_in false w a h = (lt-leb w (a + 0) (omega arith), mod-eq_of_lt (omega arith) ∙ omega arith, omega arith)

module _ (r : Frame) (p : List ℕ) (e : refuse_frame r (frame_len r p) ≡ Pass) where
  abbrev w : Writable r (frame_len r p)
  w = writable r (frame_len r p) e

  abbrev top : InTop r.reply 128 r.address
  top = top_in r.reply 128 r.address w.address

  abbrev ctl : InTop r.crc 4 r.sequence
  ctl = top_in r.crc 4 r.sequence w.sequence

  abbrev body : List ℕ
  body = body_bytes r p

  pub len : length (frame_bytes r p) ≡ frame_len r p
  len = omega (arith, length-append body (check_bytes r.crc body), len_check r.crc body)

  at_body : take (check_at r.crc (frame_bytes r p)) (frame_bytes r p) ≡ body
  at_body = take_at body (check_bytes r.crc body) (check_at r.crc (frame_bytes r p)) (omega (arith, len))

  passes : check_frame (frame_bytes r p) ≡ Pass
  passes =
      accepts (frame_bytes r p)
      (record {
        begins = refl;
        short = omega (arith, len, w.short);
        declared = omega (arith, len, w.short);
        plain = ctl.2;
        room = rw ctl.0 (omega (arith, len));
        right = rw ctl.0 (check_forth r.crc body ∙ ap (check_over r.crc) (sym at_body));
        known = rw top.0 w.known;
      })

  pub forth : read_frame (frame_bytes r p) ≡ Ok r
  forth = rw (passes, top.0, top.1, ctl.0, ctl.1)

  pub forth_payload : frame_payload (frame_bytes r p) ≡ p
  forth_payload = rw (passes, ctl.0) (take_at p (check_bytes r.crc body) (length (frame_bytes r p) - (6 + check_len r.crc)) (omega (arith, len)))
