-- What a walker hands out, by the contracts of `start` and `next`: the records of an accepted payload in order, and nothing after them;
-- a refused payload has no walker; and nothing at any step from a hand-made offset with fewer than 14 bytes left.
-- Assumes nothing.
use mathlib.Core.Path.{◌≡◌, refl, sym, ap, ◌∙◌}
use mathlib.Core.List.{List, ◌∷◌, ◌++◌, map}
use Prim.Native.Nat.{ℕ, zero, suc, ◌+◌, ◌*◌, ◌/◌, ◌≤◌, ◌<◌}
use native.Mathlib.Nat.{suc-add, zero-add}
use native.Mathlib.Omega.{arith}
use borrow.Author.Tests.{lt-ltb, le-ltb}
use lib.ListN.{length, drop, length-drop, replicate}
use lib.Seq.{drop-drop}
use denote.Ref.{Bor}
use Rattle.std.specs.Prelude.{Option, None, Some, Ok, Err}
use Rattle.payload_util.specs.Bytes.{each}
use Rattle.payload_util.specs.declared.Refusal.{Refusal}
use Rattle.payload_util.specs.Refusals.{Pass}
use Rattle.payload_util.specs.Form.{check, whole}
use Rattle.payload_util.proofs.Guards.{gives_pass}
use Rattle.led.specs.Led.{led_of, leds}
use Rattle.led.specs.declared.LedRecord.{LedRecord}
use Rattle.led_walker.specs.Walk.{start_led, walk}
use Rattle.led_walker.specs.declared.LedWalker.{LedWalker}

-- a walker with fewer than 14 bytes left from its offset, whatever that is, is finished at every step
pub finished : (m : ℕ) (w : LedWalker) → length (drop w.offset w.payload.now) < 14 → walk m w ≡ replicate m None
unfolding walk
finished zero w h = refl
finished (suc m) w h =
    rw (lt-ltb (length (drop w.offset w.payload.now)) 14 h) (ap (λ (l : List (Option LedRecord)). None ∷ l) (finished m w h))

-- if n whole records are left from the offset, and no more, they are handed out in order, and nothing after them
walks : (n m : ℕ) (s : Bor (List ℕ)) (offset : ℕ) → 14 * n ≤ length (drop offset s.now) → length (drop offset s.now) < 14 * n + 14
    → walk (n + m) (record { payload = s; offset = offset }) ≡ map Some (each led_of 14 n (drop offset s.now)) ++ replicate m None
unfolding walk
walks zero m s offset h k = rw zero-add (finished m (record { payload = s; offset = offset }) (omega arith))
walks (suc n) m s offset h k =
    let e : length (drop (offset + 14) s.now) + 14 ≡ length (drop offset s.now) = simp length-drop (omega (arith, length-drop offset s.now)) in
    rw (suc-add, le-ltb (length (drop offset s.now)) 14 (omega arith))
    (ap (λ (l : List (Option LedRecord)). Some (led_of (drop offset s.now)) ∷ l)
    (walks n m s (offset + 14) (omega arith) (omega arith)
    ∙ ap (λ (l : List ℕ). map Some (each led_of 14 n l) ++ replicate m None) (sym (drop-drop 14 offset s.now))))

module _ (p : Bor (List ℕ)) where
  -- accepted: length / 14 steps hand out its records, in order, and every later step nothing
  pub accepted : (w : LedWalker) → start_led p ≡ Ok w
      → (m : ℕ) → walk (length p.now / 14 + m) w ≡ map Some (whole leds p.now) ++ replicate m None
  accepted w e m =
      let is : record { payload = p; offset = 0 } ≡ w = (gives_pass (check leds p.now) (record { payload = p; offset = 0 }) w e).1 in
      rw (← is) (walks (length p.now / 14) m p 0 (omega arith) (omega arith))

  -- so a payload that the reader accepts has a walker, and one that it refuses has none
  pub starts : check leds p.now ≡ Pass → start_led p ≡ Ok (record { payload = p; offset = 0 })
  starts h = simp h

  pub refused : (r : Refusal) → check leds p.now ≡ Err r → start_led p ≡ Err r
  refused r h = simp h
