-- For accepted frames, writing what was read returns the frame.
-- Assumes nothing.
use mathlib.Core.Path.{◌≡◌, refl, sym, ap, ◌∙◌}
use mathlib.Core.Bool.{Bool, true, false, cond}
use mathlib.Core.List.{List, [], ◌∷◌, ◌++◌}
use Prim.Native.Nat.{ℕ, suc, ◌+◌, ◌-◌, ◌*◌, ◌%◌, ◌≤◌, ◌<◌}
use native.Mathlib.Nat.{add-mod_right, mod-eq_of_lt}
use native.Mathlib.Omega.{arith}
use native.Mathlib.Numerals.{add-one}
use borrow.Author.Tests.{leb-true, leb-false, lt-ltb, le-leb}
use lib.Dec.{leb}
use lib.ListN.{length, take, drop, length-drop, take-append-drop, drop_of_length-le}
use lib.Seq.{length-take-le, take-add, drop-cons}
use Rattle.payload_util.specs.Bytes.{Bytes, byte_at, u16_at}
use Rattle.payload_util.proofs.Words.{low_byte, high_byte}
use Rattle.payload_util.proofs.Parts.{by_head}
use Rattle.frame.specs.Frame.{asks_crc, check_over, check_len, check_bytes, check_at, fields_of, payload_in, frame_len, refuse_frame, head_bytes, frame_bytes}
use Rattle.frame.proofs.Laws.{Accepted, long}
use Rattle.payload_util.specs.Refusals.{Pass}

-- a byte put together again from its top bit, which is w, and the rest
top_back : (t : Bool) (w b : ℕ) → leb w b ≡ t → b < 2 * w → b % w + cond t w 0 ≡ b
top_back true w b e h =
    let k : b ≡ b - w + w = omega (arith, leb-true w b e) in
    omega (arith, k, ap (λ (n : ℕ). n % w) k ∙ add-mod_right (b - w) w ∙ mod-eq_of_lt {m = w} (omega arith))
top_back false w b e h = omega (arith, mod-eq_of_lt (leb-false w b e))

-- the last byte of a list, and the last two
last_one : (f : List ℕ) (n : ℕ) → n + 1 ≡ length f → drop n f ≡ byte_at f n ∷ []
last_one f n e = drop-cons f n 0 (omega arith) ∙ ap (◌∷◌ (byte_at f n)) (drop_of_length-le f {i = suc n} (omega arith))

last_two : (f : List ℕ) (n : ℕ) → n + 2 ≡ length f → drop n f ≡ byte_at f n ∷ byte_at f (n + 1) ∷ []
last_two f n e =
    drop-cons f n 0 (omega arith) ∙ ap (◌∷◌ (byte_at f n)) (rw (← add-one n) (last_one f (n + 1) (omega arith)))

-- the check's bytes are at the frame's end
check_back : (crc : Bool) (f s : List ℕ) → Bytes f → check_len crc ≤ length f → u16_at f (check_at crc f) ≡ check_over crc s
    → check_bytes crc s ≡ drop (check_at crc f) f
check_back true f s b h e =
    let n = length f - 2 in
    rw (← e, low_byte f n (n + 1) b, high_byte f n (n + 1) b) (sym (last_two f n (omega arith)))
check_back false f s b h e =
    let n = length f - 1 in
    rw (← e, low_byte f n (n + 1) b) (sym (last_one f n (omega arith)))

module _ (f : List ℕ) (bytes : Bytes f) (a : Accepted f) where
  abbrev at_check : ℕ
  at_check = check_at (asks_crc f) f

  abbrev inside : List ℕ
  inside = payload_in (fields_of f) f

  whole : frame_len (fields_of f) inside ≡ length f
  whole =
      let l : length inside ≡ length f - (6 + check_len (asks_crc f)) = length-take-le (length f - (6 + check_len (asks_crc f))) (drop 6 f) (rw length-drop (omega (arith, a.room))) in
      omega (arith, a.room)

  head_back : head_bytes (fields_of f) (length f) ≡ take 6 f
  head_back =
      by_head 6 f (take 6) (omega (arith, long f a))
      (rw (a.begins, top_back _ 128 (byte_at f 1) refl (bytes 1), top_back _ 4 (byte_at f 4) refl a.plain, a.declared, low_byte f 2 3 bytes, high_byte f 2 3 bytes))

  pub bytes_back : frame_bytes (fields_of f) inside ≡ f
  bytes_back =
      let reach : 6 + (length f - (6 + check_len (asks_crc f))) ≡ at_check = omega (arith, a.room) in
      let body : head_bytes (fields_of f) (length f) ++ inside ≡ take at_check f =
      ap (λ (l : List ℕ). l ++ inside) head_back ∙ sym (take-add 6 (length f - (6 + check_len (asks_crc f))) f) ∙ ap (λ (n : ℕ). take n f) reach in
      rw whole
      (ap (λ (l : List ℕ). l ++ check_bytes (asks_crc f) l) body
      ∙ rw (check_back (asks_crc f) f _ bytes (omega (arith, a.room)) a.right) (take-append-drop at_check f))

  pub refuse_back : refuse_frame (fields_of f) (frame_len (fields_of f) inside) ≡ Pass
  unfolding refuse_frame
  refuse_back =
      rw (lt-ltb (byte_at f 1 % 128) 128 (omega arith), lt-ltb (byte_at f 4 % 4) 4 (omega arith), a.known, whole, le-leb _ _ a.short)
