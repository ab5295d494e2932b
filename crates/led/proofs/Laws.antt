-- The laws of the colours, and LED's law.
-- Assumes nothing.
use mathlib.Core.Path.{◌≡◌, refl}
use mathlib.Core.List.{List, ◌++◌}
use Prim.Native.Nat.{ℕ, ◌/◌, ◌<◌}
use native.Mathlib.Nat.{mod-add-div}
use native.Mathlib.Omega.{arith}
use lib.Dec.{eqb}
use borrow.Author.Tests.{eqb-true}
use Rattle.std.proofs.lemmas.Bool.{agree_below_at}
use mathlib.Core.Bool.{true}
use lib.ListN.{length, get_or}
use Rattle.payload_util.specs.Bytes.{Bytes, flat}
use Rattle.payload_util.specs.Loss.{up_to, kept, keep, times, without}
use Rattle.payload_util.specs.Guards.{blocks_from}
use Rattle.payload_util.specs.Form.{loss, check, whole}
use Rattle.payload_util.proofs.Guards.{multiple_pass, pass_multiple}
use Rattle.payload_util.proofs.Words.{low_byte, high_byte}
use Rattle.payload_util.proofs.Parts.{by_head}
use Rattle.payload_util.proofs.Each.{each_kept}
use Rattle.payload_util.proofs.Losses.{length_keep}
use Rattle.payload_util.specs.Law.{Law}
use Rattle.payload_util.proofs.Forms.{listed_law}
use Rattle.led.specs.Led.{color_byte, color_of, led_code, led_of, led_bytes, led_limits, leds}
use Rattle.led.specs.declared.LedRecord.{LedRecord}
use Rattle.led.specs.declared.LedColor.{LedColor}
use Rattle.payload_util.specs.Refusals.{Pass}

-- a colour's byte reads back as the colour
pub color_back : (c : LedColor) → color_of (color_byte c) ≡ c
unfolding color_of
color_back c = grind arith

-- a byte up to 7 stays, and one above becomes 0
pub color_kept : (b : ℕ) → b < 256 → color_byte (color_of b) ≡ kept (up_to 7) b
unfolding color_of
color_kept b h = eqb-true _ _ (agree_below_at (λ k. eqb (color_byte (color_of k)) (kept (up_to 7) k)) (λ k. true) 256 b refl h)

-- a payload's byte up to 7 stays, and one above becomes 0
color_at : (p : List ℕ) (i : ℕ) → Bytes p → color_byte (color_of (get_or p i 0)) ≡ kept (up_to 7) (get_or p i 0)
color_at p i b = color_kept (get_or p i 0) (b i)

-- a record's bytes read back as the record, whatever follows
pub led_restored : (r : LedRecord) (t : List ℕ) → led_of (led_bytes r ++ t) ≡ r
led_restored r t = simp (mod-add-div, color_back)

-- the records' bytes are the payload without what is lost
pub led_kept : (p : List ℕ) → Bytes p → check leds p ≡ Pass → flat led_bytes (whole leds p) ≡ without (loss leds) p
led_kept p b g =
    each_kept led_of led_bytes 14 (λ n q. Unit) (λ n q. keep (times n (led_limits 7)) q) refl
    (λ n q c h good. (by_head 14 q (keep (led_limits 7 ++ times n (led_limits 7))) h (simp (low_byte, high_byte, color_at)), tt))
    (length p / 14) p b (multiple_pass 14 led_code p g).0 tt

pub led_law : Law leds
unfolding blocks_from
led_law =
    listed_law (λ r. refl) led_restored (omega arith) (λ p g. (multiple_pass 14 led_code p g).1) led_kept (λ p. simp length_keep)
    (λ rs some e. pass_multiple 14 led_code (flat led_bytes rs) (length rs) (omega arith) some e)
