-- The starred payloads of R8.1, as one list.
use Rattle.std.specs.Prelude.{◌-◌, replicate, ℤ, ◌≡◌, List, [], ◌∷◌, ◌++◌, ℕ, length, Ok, Err}
use Rattle.payload_util.specs.Prelude.{Form, fixed, tailed, listed, read, Effect}
use Rattle.payload_util.specs.Form.{Record, ReadsAs, written, normalise as normalise_of}
use Rattle.payload_util.specs.declared.Refusal.{Refusal}
use Rattle.raw_card.specs.Raw.{bits_of}
use Rattle.led.specs.declared.LedRecord.{LedRecord}
use Rattle.led.specs.declared.LedColor.{LedColor}
use Rattle.led.specs.declared.LedColor.TheVariants.{Black, Red, Green}
use Rattle.led.specs.declared.Generation.{Generation}
use Rattle.led.specs.declared.Generation.TheVariants.{Second}
use Rattle.output.specs.declared.OutputControlCode.TheVariants.{TemporaryOnResume}
use Rattle.text.specs.declared.TextCommand.TheVariants.{PermanentNoWrap}
use Rattle.nak.specs.declared.NakErrorCode.TheVariants.{UnknownCommandCode, UnableToProcessCommandRecord}
use Rattle.osdp.specs.declared.Side.{Side}
use Rattle.osdp.specs.declared.Side.TheVariants.{Command}
use Rattle.osdp.specs.declared.Kind.{Kind}
use Rattle.osdp.specs.declared.Kind.TheVariants.{Led, Out, Text, BioRead, FileTransfer, Raw, Nak}
use Rattle.osdp.specs.Kinds.{form}
use Rattle.osdp.specs.ByCode.{check, strict, normalise}
use Rattle.osdp.specs.Signed.{answer_of, count_of}
use Rattle.payload_util.specs.Refusals.{Outcome, Guard, Pass, refusal}
use Rattle.payload_util.specs.declared.Row.TheVariants.{Folded, PayloadNotMultiple, UnknownOutputCode, UnprintableText}

-- What a kind says of a payload: what it reads as, how it is refused, what it normalises to, and how a list refuses to give the record at an index. Of a
-- record: what is written, and how writing into a buffer is refused.
-- By side and code byte: what check and strict answer, and what normalise writes. And RAW's single bits, and what C is told.
pub data Case : Type 0 where
  reads : (k : Kind) → List ℕ → Record (form k) → Case
  is_refused : Kind → List ℕ → Refusal → Case
  normalises : Kind → List ℕ → List ℕ → Case
  has_no_record : Kind → List ℕ → ℕ → Refusal → Case
  is_written : (k : Kind) → Record (form k) → List ℕ → Case
  is_not_written : (k : Kind) → Record (form k) → List ℕ → Refusal → Case
  check_says : Side → ℕ → List ℕ → Guard → Case
  strict_says : Side → ℕ → List ℕ → Generation → Guard → Case
  normalise_gives : Side → ℕ → List ℕ → List ℕ → Case
  has_bits : ℕ → List ℕ → List ℕ → Case
  is_told : Guard → ℤ → Case
  is_counted : Outcome ℕ → ℤ → Case

-- the reader refuses the payload; a list's, whichever record is asked for
abbrev pub RefusedAs : Form → List ℕ → Refusal → Type 0
RefusedAs (fixed k) p e = read (fixed k) p ≡ Err e
RefusedAs (tailed k) p e = read (tailed k) p ≡ Err e
RefusedAs (listed k) p e = (i : ℕ) → read (listed k) p i ≡ Err e

abbrev pub RecordRefused : Form → List ℕ → ℕ → Refusal → Type 0
RecordRefused (fixed k) p i e = ⊥
RecordRefused (tailed k) p i e = ⊥
RecordRefused (listed k) p i e = read (listed k) p i ≡ Err e

-- a buffer of zeros as long as the payload, and what is left when q is written into it
abbrev pub zeros : List ℕ → List ℕ
zeros p = replicate (length p) 0

abbrev pub filled : List ℕ → List ℕ → Effect
filled p q = (Ok (length q), q ++ replicate (length p - length q) 0)

abbrev pub Holds : Case → Type 0
Holds (reads k p r) = ReadsAs (form k) p r
Holds (is_refused k p e) = RefusedAs (form k) p e
Holds (normalises k p q) = normalise_of (form k) p (zeros p) ≡ filled p q
Holds (normalise_gives side b p q) = normalise side b p (zeros p) ≡ filled p q
Holds (is_written k r q) = written (form k) r (zeros q) ≡ filled q q
Holds (is_not_written k r out e) = written (form k) r out ≡ (Err e, out)
Holds (has_no_record k p i e) = RecordRefused (form k) p i e
Holds (check_says side b p g) = check side b p ≡ g
Holds (strict_says side b p generation g) = strict side b p generation ≡ g
Holds (has_bits count bytes bits) = bits_of count bytes ≡ bits
Holds (is_told g n) = answer_of g ≡ n
Holds (is_counted w n) = count_of w ≡ n

infixr 10 ◌and◌
pub data AllHold : List Case → Type 0 where
  none : AllHold []
  ◌and◌ : {c : Case} {cs : List Case} → Holds c → AllHold cs → AllHold (c ∷ cs)

-- temporary green over black, timer 100, permanent red; with another colour in the place of green
abbrev pub green_bytes : ℕ → List ℕ
green_bytes color = 0x00 ∷ 0x00 ∷ 0x02 ∷ 0x05 ∷ 0x05 ∷ color ∷ 0x00 ∷ 0x64 ∷ 0x00 ∷ 0x01 ∷ 0x01 ∷ 0x00 ∷ 0x01 ∷ 0x01 ∷ []

abbrev pub green : LedColor → LedRecord
green color = record {
  reader = 0;
  led = 0;
  temporary = record { control = 2; on_time = 5; off_time = 5; on_color = color; off_color = Black; timer = 100 };
  permanent = record { control = 1; on_time = 1; off_time = 0; on_color = Red; off_color = Red };
}

-- a record of zeros
abbrev pub dark : LedRecord
dark = record {
  reader = 0;
  led = 0;
  temporary = record { control = 0; on_time = 0; off_time = 0; on_color = Black; off_color = Black; timer = 0 };
  permanent = record { control = 0; on_time = 0; off_time = 0; on_color = Black; off_color = Black };
}

unfoldable pub starred : List Case
starred =
    reads Led (green_bytes 0x02) (green Green ∷ [])
    ∷ strict_says Command 0x69 (green_bytes 0x02) Second Pass
    ∷ reads Led (green_bytes 0x08) (green Black ∷ [])
    ∷ normalises Led (green_bytes 0x08) (green_bytes 0x00)
    ∷ strict_says Command 0x69 (green_bytes 0x08) Second (Err (refusal Folded 0x69 5 8))
    ∷ is_refused Led (replicate 13 0x00) (refusal PayloadNotMultiple 0x69 14 13)
    ∷ is_refused Led [] (refusal PayloadNotMultiple 0x69 14 0)
    ∷ reads Led (replicate 28 0x00) (dark ∷ dark ∷ [])
    ∷ reads Out (0x03 ∷ 0x05 ∷ 0x0A ∷ 0x00 ∷ []) (record { output = 3; code = TemporaryOnResume; timer = 10 } ∷ [])
    ∷ normalises Out (0x03 ∷ 0x05 ∷ 0x0A ∷ 0x00 ∷ []) (0x03 ∷ 0x05 ∷ 0x0A ∷ 0x00 ∷ [])
    ∷ check_says Command 0x68 (0x03 ∷ 0x05 ∷ 0x0A ∷ 0x00 ∷ []) Pass
    ∷ normalise_gives Command 0x68 (0x03 ∷ 0x05 ∷ 0x0A ∷ 0x00 ∷ []) (0x03 ∷ 0x05 ∷ 0x0A ∷ 0x00 ∷ [])
    ∷ is_refused Out (0x03 ∷ 0x05 ∷ 0x0A ∷ 0x00 ∷ 0x04 ∷ 0x07 ∷ 0x00 ∷ 0x00 ∷ []) (refusal UnknownOutputCode 0x68 0 0)
    ∷ reads Text (0x00 ∷ 0x01 ∷ 0x00 ∷ 0x01 ∷ 0x01 ∷ 0x02 ∷ 0x48 ∷ 0x69 ∷ []) (record { reader = 0; command = PermanentNoWrap; temp_time_s = 0; row = 1; column = 1 }, 0x48 ∷ 0x69 ∷ [])
    ∷ is_refused Text (0x00 ∷ 0x09 ∷ 0x00 ∷ 0x01 ∷ 0x01 ∷ 0x01 ∷ 0x1F ∷ []) (refusal UnprintableText 0x6B 0 0)
    ∷ reads Raw (0x00 ∷ 0x00 ∷ 0x00 ∷ 0x00 ∷ []) (record { reader = 0; format_code = 0; bit_count = 0 }, [])
    ∷ reads Raw (0x00 ∷ 0x00 ∷ 0x1A ∷ 0x00 ∷ 0x12 ∷ 0x34 ∷ 0x56 ∷ 0x80 ∷ [])
    (record { reader = 0; format_code = 0; bit_count = 26 }, 0x12 ∷ 0x34 ∷ 0x56 ∷ 0x80 ∷ [])
    ∷ reads Nak (0x03 ∷ 0xAA ∷ []) (record { error = UnknownCommandCode }, [])
    ∷ normalises Nak (0x03 ∷ 0xAA ∷ []) (0x03 ∷ [])
    ∷ reads Nak (0x09 ∷ 0xAA ∷ []) (record { error = UnableToProcessCommandRecord }, 0xAA ∷ [])
    ∷ normalises BioRead (0x00 ∷ 0x12 ∷ 0x03 ∷ 0x32 ∷ []) (0x00 ∷ 0x00 ∷ 0x00 ∷ 0x32 ∷ [])
    ∷ strict_says Command 0x73 (0x00 ∷ 0x12 ∷ 0x03 ∷ 0x32 ∷ []) Second (Err (refusal Folded 0x73 1 0x12))
    ∷ reads FileTransfer (0x01 ∷ 0x05 ∷ 0x00 ∷ 0x00 ∷ 0x00 ∷ 0x00 ∷ 0x00 ∷ 0x00 ∷ 0x00 ∷ 0x02 ∷ 0x00 ∷ 0xAB ∷ 0xCD ∷ [])
    (record { file_type = 1; total_size = 5; offset = 0 }, 0xAB ∷ 0xCD ∷ [])
    ∷ []
