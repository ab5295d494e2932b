-- Walking an LED payload record by record (R5.2): what starting gives, what a step does, and what n steps hand out.
use Rattle.std.specs.Prelude.{List, [], ◌∷◌, ℕ, zero, suc, ◌+◌, ◌/◌, cond, ltb, length, drop, Option}
use Rattle.std.specs.Borrow.{Bor}
use Rattle.payload_util.specs.Prelude.{Outcome, outcome, check}
use Rattle.led.specs.Led.{leds, led_at}
use Rattle.led.specs.declared.LedRecord.{LedRecord}
use Rattle.led_walker.specs.declared.LedWalker.{LedWalker}

-- a walker at offset 0 if the LED reader accepts the payload, else the reader's refusal
abbrev pub start_led : Bor (List ℕ) → Outcome LedWalker
start_led p = outcome (check leds p.now) (record { payload = p; offset = 0 })

-- the offset after a step: past the record if 14 bytes are left, else unchanged
abbrev pub offset_after : List ℕ → ℕ → ℕ
offset_after p offset = cond (ltb (length (drop offset p)) 14) offset (offset + 14)

-- a walker's step, and the walker after it
abbrev pub stepped : LedWalker → Option LedRecord × LedWalker
stepped w =
    let p = w.payload.now in
    (led_at p w.offset, record { payload = w.payload; offset = offset_after p w.offset })

-- how many records are left from a walker's offset
abbrev pub records_left : LedWalker → ℕ
records_left w = length (drop w.offset w.payload.now) / 14

-- what n steps hand out, in order
unfoldable pub walk : ℕ → LedWalker → List (Option LedRecord)
walk zero w = []
walk (suc n) w = (stepped w).0 ∷ walk n (stepped w).1
