-- Examples beside the starred ones: each is what docs/REQUIREMENTS.md says, and is proved of the definitions.
use Rattle.std.specs.Prelude.{replicate, pos, negsuc, List, [], ◌∷◌, ◌++◌, Ok, Err}
use Rattle.led.specs.declared.LedRecord.{LedRecord}
use Rattle.led.specs.declared.LedColor.TheVariants.{Green, Amber, Cyan, White}
use Rattle.led.specs.declared.Generation.TheVariants.{First, Second}
use Rattle.led.specs.Examples.{colored}
use Rattle.text.specs.declared.TextCommand.TheVariants.{PermanentNoWrap, TemporaryNoWrap}
use Rattle.biometric.specs.declared.BioType.TheVariants.{RightThumb, RightLittle}
use Rattle.biometric.specs.declared.BioFormat.TheVariants.{FingerprintRawPgm, FingerprintAnsi378}
use Rattle.nak.specs.declared.NakErrorCode.TheVariants.{UnknownCommandCode}
use Rattle.osdp.specs.declared.Side.TheVariants.{Command, Reply}
use Rattle.osdp.specs.declared.Kind.TheVariants.{Led, Out, Text, BioRead, BioMatch, FileTransfer, Mfg, Raw, Fmt, BioReadR, BioMatchR, Nak, Xrd, Keypad, ComSet, Com, PdId, LStatR, AcuRxSize, KeepActive}
use Rattle.osdp.specs.Starred.{Case, reads, is_refused, has_no_record, is_written, is_not_written, check_says, strict_says, normalise_gives, has_bits, is_told, is_counted, green_bytes}
use Rattle.payload_util.specs.Refusals.{Pass, refusal}
use Rattle.payload_util.specs.declared.Row.TheVariants.{UnknownCommand, UnknownReply, PayloadLength, PayloadTooShort, PayloadNotMultiple, DeclaredLength, UnknownOutputCode, UnprintableText, UnknownTextCommand, UnknownNakError, EmptyList, TailTooLong, TailLength, NotCarried, BufferTooShort, NoSuchRecord, Folded, SecondGenerationColor, NotAFrame, WrongCheck, FrameTooLong, PayloadTooLong}

-- the example of each row of the refusal table (R7)
unfoldable pub row_examples : List Case
row_examples =
    check_says Command 0x63 [] (Err (refusal UnknownCommand 0x63 0 0))
    ∷ check_says Reply 0x42 [] (Err (refusal UnknownReply 0x42 0 0))
    ∷ is_refused BioRead (0x00 ∷ 0x01 ∷ 0x01 ∷ []) (refusal PayloadLength 0x73 4 3)
    ∷ is_refused Nak [] (refusal PayloadTooShort 0x41 1 0)
    ∷ is_refused Led [] (refusal PayloadNotMultiple 0x69 14 0)
    ∷ is_refused Raw (0x00 ∷ 0x00 ∷ 0x08 ∷ 0x00 ∷ []) (refusal DeclaredLength 0x50 5 4)
    ∷ is_refused Out (0x03 ∷ 0x07 ∷ 0x0A ∷ 0x00 ∷ []) (refusal UnknownOutputCode 0x68 0 0)
    ∷ is_refused Text (0x00 ∷ 0x01 ∷ 0x00 ∷ 0x01 ∷ 0x01 ∷ 0x01 ∷ 0x1F ∷ []) (refusal UnprintableText 0x6B 0 0)
    ∷ is_refused Text (0x00 ∷ 0x09 ∷ 0x00 ∷ 0x01 ∷ 0x01 ∷ 0x00 ∷ []) (refusal UnknownTextCommand 0x6B 0 0)
    ∷ is_refused Nak (0x0A ∷ []) (refusal UnknownNakError 0x41 0 0)
    ∷ is_not_written Led [] (replicate 2 0xA5) (refusal EmptyList 0x69 0 0)
    ∷ is_not_written Text (record { reader = 0; command = PermanentNoWrap; temp_time_s = 0; row = 1; column = 1 }, replicate 256 0x41) (replicate 2 0xA5) (refusal TailTooLong 0x6B 0 0)
    ∷ is_not_written Raw (record { reader = 0; format_code = 0; bit_count = 9 }, 0x00 ∷ []) (replicate 2 0xA5) (refusal TailLength 0x50 0 0)
    ∷ check_says Command 0x60 [] (Err (refusal NotCarried 0x60 0 0))
    ∷ is_not_written Mfg (record { oui_0 = 0x00; oui_1 = 0x06; oui_2 = 0x8E }, []) (replicate 2 0xA5) (refusal BufferTooShort 0x80 3 2)
    ∷ has_no_record Led (replicate 14 0x00) 1 (refusal NoSuchRecord 0x69 1 1)
    ∷ strict_says Command 0x73 (0x00 ∷ 0x12 ∷ 0x00 ∷ 0x32 ∷ []) Second (Err (refusal Folded 0x73 1 0x12))
    ∷ strict_says Command 0x69 (green_bytes 0x05) First (Err (refusal SecondGenerationColor 0x69 5 5))
    ∷ check_says Command 0x80 (replicate 65547 0x00) (Err (refusal PayloadTooLong 0x80 65546 65547))
    ∷ []

-- R7.3: two rows apply, and the first of them is given
unfoldable pub order_examples : List Case
order_examples =
    check_says Command 0x63 (replicate 65547 0x00) (Err (refusal UnknownCommand 0x63 0 0))
    ∷ check_says Reply 0x42 (replicate 65547 0x00) (Err (refusal UnknownReply 0x42 0 0))
    ∷ check_says Command 0x60 (replicate 65547 0x00) (Err (refusal NotCarried 0x60 0 0))
    ∷ check_says Command 0x69 (replicate 65547 0x00) (Err (refusal PayloadTooLong 0x69 65546 65547))
    ∷ strict_says Command 0x60 [] Second (Err (refusal NotCarried 0x60 0 0))
    ∷ strict_says Command 0x80 (replicate 65547 0x00) Second (Err (refusal PayloadTooLong 0x80 65546 65547))
    ∷ strict_says Command 0x73 (0x00 ∷ 0x12 ∷ 0x00 ∷ []) Second (Err (refusal PayloadLength 0x73 4 3))
    ∷ is_refused Out (0x03 ∷ 0x07 ∷ 0x0A ∷ []) (refusal PayloadNotMultiple 0x68 4 3)
    ∷ is_refused Text (0x00 ∷ 0x01 ∷ 0x00 ∷ 0x01 ∷ 0x01 ∷ 0x02 ∷ 0x1F ∷ []) (refusal DeclaredLength 0x6B 8 7)
    ∷ is_not_written Text (record { reader = 0; command = PermanentNoWrap; temp_time_s = 0; row = 1; column = 1 }, replicate 256 0x1F) [] (refusal UnprintableText 0x6B 0 0)
    ∷ []

-- R104: what each generation is told
unfoldable pub generation_examples : List Case
generation_examples =
    strict_says Command 0x69 (colored 4 4 4 4) First Pass
    ∷ strict_says Command 0x69 (colored 7 7 7 7) Second Pass
    -- a colour of the second generation alone, at each of its places
    ∷ strict_says Command 0x69 (colored 7 4 4 4) First (Err (refusal SecondGenerationColor 0x69 5 7))
    ∷ strict_says Command 0x69 (colored 4 6 4 4) First (Err (refusal SecondGenerationColor 0x69 6 6))
    ∷ strict_says Command 0x69 (colored 4 4 5 4) First (Err (refusal SecondGenerationColor 0x69 12 5))
    ∷ strict_says Command 0x69 (colored 4 4 4 5) First (Err (refusal SecondGenerationColor 0x69 13 5))
    ∷ strict_says Command 0x69 (colored 0 1 2 3 ++ colored 4 4 4 7) First (Err (refusal SecondGenerationColor 0x69 27 7))
    -- row 17 comes before row 18, wherever it is
    ∷ strict_says Command 0x69 (colored 5 4 4 8) First (Err (refusal Folded 0x69 13 8))
    ∷ strict_says Command 0x69 (colored 8 5 4 4) First (Err (refusal Folded 0x69 5 8))
    ∷ strict_says Command 0x69 (colored 5 4 4 4 ++ colored 4 4 4 0xFF) First (Err (refusal Folded 0x69 27 0xFF))
    -- the checks of the reader come before both
    ∷ strict_says Command 0x69 (replicate 13 0x05) First (Err (refusal PayloadNotMultiple 0x69 14 13))
    -- a biometric type is row 17 for both
    ∷ strict_says Command 0x73 (0x00 ∷ 0x12 ∷ 0x00 ∷ 0x32 ∷ []) First (Err (refusal Folded 0x73 1 0x12))
    ∷ strict_says Command 0x73 (0x00 ∷ 0x11 ∷ 0x02 ∷ 0x32 ∷ []) First Pass
    ∷ []

-- R2.5: a payload of each kind under its code byte
unfoldable pub code_examples : List Case
code_examples =
    normalise_gives Command 0x69 (green_bytes 0x08) (green_bytes 0x00)
    ∷ normalise_gives Command 0x68 (0x03 ∷ 0x05 ∷ 0x0A ∷ 0x00 ∷ []) (0x03 ∷ 0x05 ∷ 0x0A ∷ 0x00 ∷ [])
    ∷ normalise_gives Command 0x6B (0x00 ∷ 0x01 ∷ 0x00 ∷ 0x01 ∷ 0x01 ∷ 0x02 ∷ 0x48 ∷ 0x69 ∷ []) (0x00 ∷ 0x01 ∷ 0x00 ∷ 0x01 ∷ 0x01 ∷ 0x02 ∷ 0x48 ∷ 0x69 ∷ [])
    ∷ normalise_gives Command 0x73 (0x00 ∷ 0x12 ∷ 0x03 ∷ 0x32 ∷ []) (0x00 ∷ 0x00 ∷ 0x00 ∷ 0x32 ∷ [])
    ∷ normalise_gives Command 0x74 (0x00 ∷ 0x01 ∷ 0x01 ∷ 0x32 ∷ 0x01 ∷ 0x00 ∷ 0xEE ∷ []) (0x00 ∷ 0x01 ∷ 0x01 ∷ 0x32 ∷ 0x01 ∷ 0x00 ∷ 0xEE ∷ [])
    ∷ normalise_gives Command 0x7C (0x01 ∷ 0x02 ∷ 0x03 ∷ 0x04 ∷ 0x05 ∷ 0x06 ∷ 0x07 ∷ 0x08 ∷ 0x09 ∷ 0x01 ∷ 0x00 ∷ 0xAA ∷ []) (0x01 ∷ 0x02 ∷ 0x03 ∷ 0x04 ∷ 0x05 ∷ 0x06 ∷ 0x07 ∷ 0x08 ∷ 0x09 ∷ 0x01 ∷ 0x00 ∷ 0xAA ∷ [])
    ∷ normalise_gives Command 0x80 (0x00 ∷ 0x06 ∷ 0x8E ∷ []) (0x00 ∷ 0x06 ∷ 0x8E ∷ [])
    ∷ normalise_gives Reply 0x50 (0x00 ∷ 0x00 ∷ 0x1A ∷ 0x00 ∷ 0x12 ∷ 0x34 ∷ 0x56 ∷ 0x80 ∷ []) (0x00 ∷ 0x00 ∷ 0x1A ∷ 0x00 ∷ 0x12 ∷ 0x34 ∷ 0x56 ∷ 0x80 ∷ [])
    ∷ normalise_gives Reply 0x51 (0x00 ∷ 0x00 ∷ 0x02 ∷ 0x41 ∷ 0x42 ∷ []) (0x00 ∷ 0x00 ∷ 0x02 ∷ 0x41 ∷ 0x42 ∷ [])
    ∷ normalise_gives Reply 0x57 (0x09 ∷ 0x12 ∷ 0x03 ∷ 0x32 ∷ 0x01 ∷ 0x00 ∷ 0xEE ∷ []) (0x09 ∷ 0x00 ∷ 0x00 ∷ 0x32 ∷ 0x01 ∷ 0x00 ∷ 0xEE ∷ [])
    ∷ normalise_gives Reply 0x58 (0x00 ∷ 0x01 ∷ 0x63 ∷ []) (0x00 ∷ 0x01 ∷ 0x63 ∷ [])
    ∷ normalise_gives Reply 0x41 (0x03 ∷ 0xAA ∷ []) (0x03 ∷ [])
    ∷ normalise_gives Reply 0xB1 (0x01 ∷ 0x02 ∷ []) (0x01 ∷ 0x02 ∷ [])
    ∷ normalise_gives Reply 0x53 (0x00 ∷ 0x02 ∷ 0x31 ∷ 0x0D ∷ []) (0x00 ∷ 0x02 ∷ 0x31 ∷ 0x0D ∷ [])
    ∷ normalise_gives Command 0x6E (0x7F ∷ 0x80 ∷ 0x25 ∷ 0x00 ∷ 0x00 ∷ []) (0x7F ∷ 0x80 ∷ 0x25 ∷ 0x00 ∷ 0x00 ∷ [])
    ∷ normalise_gives Reply 0x54 (0x7F ∷ 0x80 ∷ 0x25 ∷ 0x00 ∷ 0x00 ∷ []) (0x7F ∷ 0x80 ∷ 0x25 ∷ 0x00 ∷ 0x00 ∷ [])
    ∷ normalise_gives Reply 0x45 (0x00 ∷ 0x06 ∷ 0x8E ∷ 0x01 ∷ 0x02 ∷ 0x0D ∷ 0xF0 ∷ 0xAD ∷ 0xBA ∷ 0x03 ∷ 0x04 ∷ 0x05 ∷ []) (0x00 ∷ 0x06 ∷ 0x8E ∷ 0x01 ∷ 0x02 ∷ 0x0D ∷ 0xF0 ∷ 0xAD ∷ 0xBA ∷ 0x03 ∷ 0x04 ∷ 0x05 ∷ [])
    ∷ normalise_gives Reply 0x48 (0x01 ∷ 0x00 ∷ []) (0x01 ∷ 0x00 ∷ [])
    ∷ normalise_gives Command 0x7B (0xA0 ∷ 0x05 ∷ []) (0xA0 ∷ 0x05 ∷ [])
    ∷ normalise_gives Command 0xA7 (0xE8 ∷ 0x03 ∷ []) (0xE8 ∷ 0x03 ∷ [])
    ∷ []

-- R8.2: the short ones of the payloads without a star
unfoldable pub unstarred : List Case
unstarred =
    reads Fmt (0x00 ∷ 0x00 ∷ 0x02 ∷ 0x41 ∷ 0x42 ∷ []) (record { reader = 0; direction = 0; char_count = 2 }, 0x41 ∷ 0x42 ∷ [])
    ∷ reads Mfg (0x00 ∷ 0x06 ∷ 0x8E ∷ []) (record { oui_0 = 0x00; oui_1 = 0x06; oui_2 = 0x8E }, [])
    ∷ reads Xrd (0x01 ∷ []) (record { mode = 1 }, [])
    ∷ reads BioMatchR (0x00 ∷ 0x01 ∷ 0x63 ∷ []) (record { reader = 0; result = 1; score = 0x63 })
    ∷ reads BioMatch (0x00 ∷ 0x01 ∷ 0x01 ∷ 0x32 ∷ 0x01 ∷ 0x00 ∷ 0xEE ∷ []) (record { head = record { reader = 0; bio_type = RightThumb; bio_format = FingerprintRawPgm; quality = 0x32 } }, 0xEE ∷ [])
    ∷ is_written Text (record { reader = 0; command = PermanentNoWrap; temp_time_s = 0; row = 1; column = 1 }, replicate 255 0x41) (0x00 ∷ 0x01 ∷ 0x00 ∷ 0x01 ∷ 0x01 ∷ 0xFF ∷ replicate 255 0x41)
    ∷ []

abbrev pub distinct_led : LedRecord
distinct_led = record {
  reader = 1;
  led = 2;
  temporary = record { control = 3; on_time = 4; off_time = 5; on_color = Cyan; off_color = White; timer = 0x0908 };
  permanent = record { control = 10; on_time = 11; off_time = 12; on_color = Green; off_color = Amber };
}

-- R4, R101: every field has another value, so that none can stand for another; R4.12, R4.15 and R5.5
unfoldable pub field_examples : List Case
field_examples =
    reads Led (0x01 ∷ 0x02 ∷ 0x03 ∷ 0x04 ∷ 0x05 ∷ 0x06 ∷ 0x07 ∷ 0x08 ∷ 0x09 ∷ 0x0A ∷ 0x0B ∷ 0x0C ∷ 0x02 ∷ 0x03 ∷ []) (distinct_led ∷ [])
    ∷ reads Text (0x05 ∷ 0x03 ∷ 0x06 ∷ 0x07 ∷ 0x08 ∷ 0x01 ∷ 0x41 ∷ []) (record { reader = 5; command = TemporaryNoWrap; temp_time_s = 6; row = 7; column = 8 }, 0x41 ∷ [])
    ∷ reads BioRead (0x09 ∷ 0x05 ∷ 0x02 ∷ 0x32 ∷ []) (record { head = record { reader = 9; bio_type = RightLittle; bio_format = FingerprintAnsi378; quality = 0x32 } })
    ∷ reads BioMatch (0x09 ∷ 0x05 ∷ 0x02 ∷ 0x32 ∷ 0x01 ∷ 0x00 ∷ 0xEE ∷ []) (record { head = record { reader = 9; bio_type = RightLittle; bio_format = FingerprintAnsi378; quality = 0x32 } }, 0xEE ∷ [])
    ∷ reads BioReadR (0x09 ∷ 0x05 ∷ 0x02 ∷ 0x32 ∷ 0x01 ∷ 0x00 ∷ 0xEE ∷ []) (record { head = record { reader = 9; bio_type = RightLittle; bio_format = FingerprintAnsi378; quality = 0x32 } }, 0xEE ∷ [])
    ∷ reads FileTransfer (0x01 ∷ 0x02 ∷ 0x03 ∷ 0x04 ∷ 0x05 ∷ 0x06 ∷ 0x07 ∷ 0x08 ∷ 0x09 ∷ 0x01 ∷ 0x00 ∷ 0xAA ∷ []) (record { file_type = 1; total_size = 0x05040302; offset = 0x09080706 }, 0xAA ∷ [])
    ∷ reads Raw (0x07 ∷ 0x08 ∷ 0x09 ∷ 0x00 ∷ 0xAA ∷ 0xBB ∷ []) (record { reader = 7; format_code = 8; bit_count = 9 }, 0xAA ∷ 0xBB ∷ [])
    ∷ reads Fmt (0x07 ∷ 0x08 ∷ 0x01 ∷ 0x41 ∷ []) (record { reader = 7; direction = 8; char_count = 1 }, 0x41 ∷ [])
    ∷ reads Xrd (0x01 ∷ 0x02 ∷ []) (record { mode = 1 }, 0x02 ∷ [])
    ∷ reads Keypad (0x07 ∷ 0x02 ∷ 0x31 ∷ 0x7F ∷ []) (record { reader = 7; digit_count = 2 }, 0x31 ∷ 0x7F ∷ [])
    ∷ reads ComSet (0xFF ∷ 0x01 ∷ 0x02 ∷ 0x03 ∷ 0x04 ∷ []) (record { address = 0xFF; baud = 0x04030201 })
    ∷ reads Com (0xFF ∷ 0x01 ∷ 0x02 ∷ 0x03 ∷ 0x04 ∷ []) (record { address = 0xFF; baud = 0x04030201 })
    ∷ reads PdId (0x01 ∷ 0x02 ∷ 0x03 ∷ 0x04 ∷ 0x05 ∷ 0x06 ∷ 0x07 ∷ 0x08 ∷ 0x09 ∷ 0x0A ∷ 0x0B ∷ 0x0C ∷ [])
    (record { oui_0 = 1; oui_1 = 2; oui_2 = 3; model = 4; version = 5; serial = 0x09080706; firmware_major = 10; firmware_minor = 11; firmware_build = 12 })
    ∷ reads LStatR (0x02 ∷ 0xFF ∷ []) (record { tamper = 2; power = 0xFF })
    ∷ reads AcuRxSize (0x01 ∷ 0x02 ∷ []) (record { max_size = 0x0201 })
    ∷ reads KeepActive (0x01 ∷ 0x02 ∷ []) (record { duration_ms = 0x0201 })
    ∷ is_written ComSet (record { address = 0x7F; baud = 0x00002580 }) (0x7F ∷ 0x80 ∷ 0x25 ∷ 0x00 ∷ 0x00 ∷ [])
    ∷ is_written Nak (record { error = UnknownCommandCode }, 0xAA ∷ []) (0x03 ∷ 0xAA ∷ [])
    ∷ has_bits 26 (0x12 ∷ 0x34 ∷ 0x56 ∷ 0x80 ∷ []) (0 ∷ 0 ∷ 0 ∷ 1 ∷ 0 ∷ 0 ∷ 1 ∷ 0 ∷ 0 ∷ 0 ∷ 1 ∷ 1 ∷ 0 ∷ 1 ∷ 0 ∷ 0 ∷ 0 ∷ 1 ∷ 0 ∷ 1 ∷ 0 ∷ 1 ∷ 1 ∷ 0 ∷ 1 ∷ 0 ∷ [])
    ∷ has_bits 99 (0x80 ∷ []) (1 ∷ 0 ∷ 0 ∷ 0 ∷ 0 ∷ 0 ∷ 0 ∷ 0 ∷ [])
    ∷ is_told Pass (pos 0)
    ∷ is_told (Err (refusal PayloadTooLong 0x80 65546 65547)) (negsuc 27)
    ∷ is_counted (Ok 3) (pos 3)
    ∷ is_counted (Err (refusal BufferTooShort 0x80 3 2)) (negsuc 14)
    ∷ []

-- R101.10: refusals of the seven kinds
unfoldable pub refusal_examples : List Case
refusal_examples =
    is_refused Keypad (0x00 ∷ []) (refusal PayloadTooShort 0x53 2 1)
    ∷ is_refused Keypad (0x00 ∷ 0x01 ∷ []) (refusal DeclaredLength 0x53 3 2)
    ∷ is_refused Keypad (0x00 ∷ 0x01 ∷ 0x31 ∷ 0x32 ∷ []) (refusal DeclaredLength 0x53 3 4)
    ∷ is_not_written Keypad (record { reader = 0; digit_count = 1 }, []) (replicate 3 0xA5) (refusal TailLength 0x53 0 0)
    ∷ is_not_written Keypad (record { reader = 0; digit_count = 1 }, 0x31 ∷ 0x32 ∷ []) [] (refusal TailLength 0x53 0 0)
    ∷ is_not_written Keypad (record { reader = 0; digit_count = 1 }, 0x31 ∷ []) (replicate 2 0xA5) (refusal BufferTooShort 0x53 3 2)
    ∷ is_refused ComSet (0x00 ∷ 0x00 ∷ 0x00 ∷ 0x00 ∷ []) (refusal PayloadLength 0x6E 5 4)
    ∷ is_refused Com (0x00 ∷ 0x00 ∷ 0x00 ∷ 0x00 ∷ 0x00 ∷ 0x00 ∷ []) (refusal PayloadLength 0x54 5 6)
    ∷ is_refused PdId (replicate 13 0x00) (refusal PayloadLength 0x45 12 13)
    ∷ is_refused LStatR (0x00 ∷ []) (refusal PayloadLength 0x48 2 1)
    ∷ is_refused AcuRxSize (0x00 ∷ 0x00 ∷ 0x00 ∷ []) (refusal PayloadLength 0x7B 2 3)
    ∷ is_refused KeepActive [] (refusal PayloadLength 0xA7 2 0)
    ∷ is_not_written KeepActive (record { duration_ms = 1000 }) (replicate 1 0xA5) (refusal BufferTooShort 0xA7 2 1)
    ∷ []

-- R105: of each kind with a length or a count, one that asks for nothing behind its fixed fields, and one that asks for the most
unfoldable pub length_examples : List Case
length_examples =
    is_refused Text (0x00 ∷ 0x01 ∷ 0x00 ∷ 0x01 ∷ 0x01 ∷ 0x00 ∷ 0x41 ∷ []) (refusal DeclaredLength 0x6B 6 7)
    ∷ is_refused Text (0x00 ∷ 0x01 ∷ 0x00 ∷ 0x01 ∷ 0x01 ∷ 0xFF ∷ []) (refusal DeclaredLength 0x6B 261 6)
    ∷ is_refused BioMatch (0x00 ∷ 0x01 ∷ 0x01 ∷ 0x32 ∷ 0x00 ∷ 0x00 ∷ 0xEE ∷ []) (refusal DeclaredLength 0x74 6 7)
    ∷ is_refused BioMatch (0x00 ∷ 0x01 ∷ 0x01 ∷ 0x32 ∷ 0xFF ∷ 0xFF ∷ []) (refusal DeclaredLength 0x74 65541 6)
    ∷ is_refused FileTransfer (replicate 11 0x00 ++ 0xAB ∷ []) (refusal DeclaredLength 0x7C 11 12)
    ∷ is_refused FileTransfer (replicate 9 0x00 ++ 0xFF ∷ 0xFF ∷ []) (refusal DeclaredLength 0x7C 65546 11)
    ∷ is_refused Raw (replicate 4 0x00 ++ 0xA5 ∷ []) (refusal DeclaredLength 0x50 4 5)
    ∷ is_refused Raw (0x00 ∷ 0x00 ∷ 0xFF ∷ 0xFF ∷ []) (refusal DeclaredLength 0x50 8196 4)
    ∷ is_refused Fmt (replicate 3 0x00 ++ 0x41 ∷ []) (refusal DeclaredLength 0x51 3 4)
    ∷ is_refused Fmt (0x00 ∷ 0x00 ∷ 0xFF ∷ []) (refusal DeclaredLength 0x51 258 3)
    ∷ is_refused BioReadR (0x00 ∷ 0x01 ∷ 0x01 ∷ 0x32 ∷ 0x00 ∷ 0x00 ∷ 0xEE ∷ []) (refusal DeclaredLength 0x57 6 7)
    ∷ is_refused BioReadR (0x00 ∷ 0x01 ∷ 0x01 ∷ 0x32 ∷ 0xFF ∷ 0xFF ∷ []) (refusal DeclaredLength 0x57 65541 6)
    ∷ is_refused Keypad (replicate 2 0x00 ++ 0x31 ∷ []) (refusal DeclaredLength 0x53 2 3)
    ∷ is_refused Keypad (0x00 ∷ 0xFF ∷ []) (refusal DeclaredLength 0x53 257 2)
    ∷ []

-- the number that C is told for each row
unfoldable pub number_examples : List Case
number_examples =
    is_told (Err (refusal UnknownCommand 0 0 0)) (negsuc 0)
    ∷ is_told (Err (refusal UnknownReply 0 0 0)) (negsuc 1)
    ∷ is_told (Err (refusal PayloadLength 0 0 0)) (negsuc 2)
    ∷ is_told (Err (refusal PayloadTooShort 0 0 0)) (negsuc 3)
    ∷ is_told (Err (refusal PayloadNotMultiple 0 0 0)) (negsuc 4)
    ∷ is_told (Err (refusal DeclaredLength 0 0 0)) (negsuc 5)
    ∷ is_told (Err (refusal UnknownOutputCode 0 0 0)) (negsuc 6)
    ∷ is_told (Err (refusal UnprintableText 0 0 0)) (negsuc 7)
    ∷ is_told (Err (refusal UnknownTextCommand 0 0 0)) (negsuc 8)
    ∷ is_told (Err (refusal UnknownNakError 0 0 0)) (negsuc 9)
    ∷ is_told (Err (refusal EmptyList 0 0 0)) (negsuc 10)
    ∷ is_told (Err (refusal TailTooLong 0 0 0)) (negsuc 11)
    ∷ is_told (Err (refusal TailLength 0 0 0)) (negsuc 12)
    ∷ is_told (Err (refusal NotCarried 0 0 0)) (negsuc 13)
    ∷ is_told (Err (refusal BufferTooShort 0 0 0)) (negsuc 14)
    ∷ is_told (Err (refusal NoSuchRecord 0 0 0)) (negsuc 15)
    ∷ is_told (Err (refusal Folded 0 0 0)) (negsuc 16)
    ∷ is_told (Err (refusal SecondGenerationColor 0 0 0)) (negsuc 17)
    ∷ is_told (Err (refusal NotAFrame 0 0 0)) (negsuc 19)
    ∷ is_told (Err (refusal WrongCheck 0 0 0)) (negsuc 20)
    ∷ is_told (Err (refusal FrameTooLong 0 0 0)) (negsuc 21)
    ∷ is_told (Err (refusal PayloadTooLong 0 0 0)) (negsuc 27)
    ∷ []
