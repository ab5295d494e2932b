-- osdp_LED (0x69), R4.1, §6.9, Tables 16 to 18: records of 14 bytes. Reader and LED; temporary control, on time, off time, on colour, off colour
-- and timer u16; permanent control, on time, off time, on colour and off colour.
use Rattle.std.specs.Prelude.{List, [], ◌∷◌, ◌++◌, ℕ, ◌*◌, cond, ltb, length, drop, Option, None, Some}
use Rattle.payload_util.specs.Prelude.{byte_at, u16_at, u16_bytes, positive_multiple_of, named, Keep, any, up_to, Loss, above_in_each, limited, within_limits, in_order, ◌also◌, Guard, Form, listed}
use Rattle.payload_util.specs.Form.{Listed}
use Rattle.payload_util.specs.declared.Row.{Row}
use Rattle.payload_util.specs.declared.Row.TheVariants.{Folded, SecondGenerationColor}
use Rattle.led.specs.declared.LedColor.{LedColor}
use Rattle.led.specs.declared.Generation.{Generation}
use Rattle.led.specs.declared.LedTemporary.{LedTemporary}
use Rattle.led.specs.declared.LedPermanent.{LedPermanent}
use Rattle.led.specs.declared.LedRecord.{LedRecord}
use Rattle.led.specs.declared.LedColor.TheVariants.{Black, Red, Green, Amber, Blue, Magenta, Cyan, White}
use Rattle.led.specs.declared.Generation.TheVariants.{First, Second}

-- Table 18, R3.4
abbrev pub color_byte : LedColor → ℕ
color_byte Black = 0
color_byte Red = 1
color_byte Green = 2
color_byte Amber = 3
color_byte Blue = 4
color_byte Magenta = 5
color_byte Cyan = 6
color_byte White = 7

abbrev pub color_codes : List LedColor
color_codes = Black ∷ Red ∷ Green ∷ Amber ∷ Blue ∷ Magenta ∷ Cyan ∷ White ∷ []

-- any other byte reads as Black
unfoldable pub color_of : ℕ → LedColor
color_of b = named color_byte (λ c. c) Black color_codes b

abbrev pub highest_color : ℕ
highest_color = 7

-- the highest colour that a generation of readers knows (R104)
abbrev pub highest_known : Generation → ℕ
highest_known First = 4
highest_known Second = highest_color

abbrev pub led_code : ℕ
led_code = 0x69

abbrev pub temporary_of : List ℕ → LedTemporary
temporary_of p = record {
  control = byte_at p 2;
  on_time = byte_at p 3;
  off_time = byte_at p 4;
  on_color = color_of (byte_at p 5);
  off_color = color_of (byte_at p 6);
  timer = u16_at p 7;
}

abbrev pub permanent_of : List ℕ → LedPermanent
permanent_of p = record {
  control = byte_at p 9;
  on_time = byte_at p 10;
  off_time = byte_at p 11;
  on_color = color_of (byte_at p 12);
  off_color = color_of (byte_at p 13);
}

-- the first record of a list
abbrev pub led_of : List ℕ → LedRecord
led_of p = record { reader = byte_at p 0; led = byte_at p 1; temporary = temporary_of p; permanent = permanent_of p }

-- the record at an offset, unless fewer than 14 bytes are left from there
abbrev pub led_at : List ℕ → ℕ → Option LedRecord
led_at p offset = cond (ltb (length (drop offset p)) 14) None (Some (led_of (drop offset p)))

abbrev pub temporary_bytes : LedTemporary → List ℕ
temporary_bytes t =
    t.control ∷ t.on_time ∷ t.off_time ∷ color_byte t.on_color ∷ color_byte t.off_color ∷ u16_bytes t.timer

abbrev pub permanent_bytes : LedPermanent → List ℕ
permanent_bytes t = t.control ∷ t.on_time ∷ t.off_time ∷ color_byte t.on_color ∷ color_byte t.off_color ∷ []

abbrev pub led_bytes : LedRecord → List ℕ
led_bytes r = r.reader ∷ r.led ∷ (temporary_bytes r.temporary ++ permanent_bytes r.permanent)

-- the colours of a record, kept up to the highest
abbrev pub led_limits : ℕ → List Keep
led_limits highest =
    any ∷ any ∷ any ∷ any ∷ any ∷ up_to highest ∷ up_to highest ∷ any ∷ any ∷ any ∷ any ∷ any ∷ up_to highest ∷ up_to highest ∷ []

-- reading loses colours above the highest
abbrev pub led_loss : ℕ → Loss
led_loss highest = above_in_each 14 (led_limits highest)

-- the row for the first colour of record k, by offset, that is above the highest
unfoldable pub record_within : Row → ℕ → List ℕ → ℕ → Guard
record_within row highest p k = in_order (limited row led_code (led_loss highest) p) (14 * k) 14

-- the row for the first colour of the payload, by offset, that is above the highest
abbrev pub colors_within : Row → ℕ → List ℕ → Guard
colors_within row highest p = within_limits row led_code (led_loss highest) p

-- strict's rule for colours (R5.6, R104): row 17 for one that reading would fold; for the first generation then row 18 for one that it does not know
abbrev pub colors_known : Generation → List ℕ → Guard
colors_known Second p = colors_within Folded highest_color p
colors_known First p = colors_within Folded highest_color p also colors_within SecondGenerationColor (highest_known First) p

abbrev pub led_row : Listed LedRecord
led_row = record {
  code = led_code;
  width = 14;
  check = positive_multiple_of 14;
  fields = led_of;
  bytes = led_bytes;
  loss = led_loss highest_color;
}

abbrev pub leds : Form
leds = listed led_row
