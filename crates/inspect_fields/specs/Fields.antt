-- The fixed fields of each kind's record as numbers, in the Rust's order: each number as it is, each code as its byte.
use Rattle.std.specs.Prelude.{List, [], ◌∷◌, ◌++◌, ℕ, ◌-◌, ◌/◌, length, drop, replicate, Ok, Err, Option, None, Some}
use Rattle.payload_util.specs.Form.{read}
use Rattle.led.specs.Led.{color_byte, led_at}
use Rattle.led.specs.declared.LedRecord.{LedRecord}
use Rattle.output.specs.Output.{output_byte, read_out_at}
use Rattle.output.specs.declared.OutputRecord.{OutputRecord}
use Rattle.text.specs.Text.{text_command_byte, text_kind}
use Rattle.text.specs.declared.Text.{Text as TextRecord}
use Rattle.biometric.specs.Biometric.{bio_type_byte, bio_format_byte, bio_read, bio_match}
use Rattle.biometric.specs.declared.BioHead.{BioHead}
use Rattle.file_transfer.specs.FileTransfer.{file_transfer}
use Rattle.file_transfer.specs.declared.FileTransfer.{FileTransfer as FileTransferRecord}
use Rattle.mfg.specs.Mfg.{mfg}
use Rattle.mfg.specs.declared.Mfg.{Mfg as MfgRecord}
use Rattle.raw_card.specs.Raw.{raw}
use Rattle.raw_card.specs.Fmt.{fmt}
use Rattle.raw_card.specs.declared.Raw.{Raw as RawRecord}
use Rattle.raw_card.specs.declared.Fmt.{Fmt as FmtRecord}
use Rattle.bio.specs.Bio.{bio_read_r, bio_match_r}
use Rattle.bio.specs.declared.BioMatchR.{BioMatchR as BioMatchRRecord}
use Rattle.nak.specs.Nak.{nak_error_byte, nak}
use Rattle.nak.specs.declared.Nak.{Nak as NakRecord}
use Rattle.xrd.specs.Xrd.{xrd}
use Rattle.xrd.specs.declared.Xrd.{Xrd as XrdRecord}
use Rattle.keypad.specs.Keypad.{keypad}
use Rattle.keypad.specs.declared.Keypad.{Keypad as KeypadRecord}
use Rattle.plain.specs.Com.{com_set, com_reply}
use Rattle.plain.specs.PdId.{pd_id}
use Rattle.plain.specs.LStat.{l_stat_r}
use Rattle.plain.specs.Number.{acu_rx_size, keep_active}
use Rattle.plain.specs.declared.com.AddressAndBaud.{AddressAndBaud}
use Rattle.plain.specs.declared.pdid.PdId.{PdId as PdIdRecord}
use Rattle.plain.specs.declared.lstat.LStatR.{LStatR as LStatRRecord}
use Rattle.plain.specs.declared.acu_rx_size.AcuRxSize.{AcuRxSize as AcuRxSizeRecord}
use Rattle.plain.specs.declared.keep_active.KeepActive.{KeepActive as KeepActiveRecord}
use Rattle.osdp.specs.declared.Kind.{Kind}
use Rattle.osdp.specs.declared.Kind.TheVariants.{Led, Out, Text, BioRead, BioMatch, FileTransfer, Mfg, Raw, Fmt, BioReadR, BioMatchR, Nak, Xrd, Keypad, ComSet, Com, PdId, LStatR, AcuRxSize, KeepActive}
use Rattle.payload_util.specs.Refusals.{Outcome}

-- temporary, then permanent
abbrev pub led_fields : LedRecord → List ℕ
led_fields r =
    let t = r.temporary in
    let u = r.permanent in
    r.reader ∷ r.led
    ∷ t.control ∷ t.on_time ∷ t.off_time ∷ color_byte t.on_color ∷ color_byte t.off_color ∷ t.timer
    ∷ u.control ∷ u.on_time ∷ u.off_time ∷ color_byte u.on_color ∷ color_byte u.off_color ∷ []

abbrev pub out_fields : OutputRecord → List ℕ
out_fields r = r.output ∷ output_byte r.code ∷ r.timer ∷ []

abbrev pub text_fields : TextRecord → List ℕ
text_fields t = t.reader ∷ text_command_byte t.command ∷ t.temp_time_s ∷ t.row ∷ t.column ∷ []

-- BIOREAD's, BIOMATCH's and BIOREADR's
abbrev pub head_fields : BioHead → List ℕ
head_fields h = h.reader ∷ bio_type_byte h.bio_type ∷ bio_format_byte h.bio_format ∷ h.quality ∷ []

abbrev pub file_transfer_fields : FileTransferRecord → List ℕ
file_transfer_fields f = f.file_type ∷ f.total_size ∷ f.offset ∷ []

abbrev pub mfg_fields : MfgRecord → List ℕ
mfg_fields m = m.oui_0 ∷ m.oui_1 ∷ m.oui_2 ∷ []

abbrev pub raw_fields : RawRecord → List ℕ
raw_fields r = r.reader ∷ r.format_code ∷ r.bit_count ∷ []

abbrev pub fmt_fields : FmtRecord → List ℕ
fmt_fields f = f.reader ∷ f.direction ∷ f.char_count ∷ []

abbrev pub bio_match_r_fields : BioMatchRRecord → List ℕ
bio_match_r_fields r = r.reader ∷ r.result ∷ r.score ∷ []

abbrev pub nak_fields : NakRecord → List ℕ
nak_fields n = nak_error_byte n.error ∷ []

abbrev pub xrd_fields : XrdRecord → List ℕ
xrd_fields x = x.mode ∷ []

abbrev pub keypad_fields : KeypadRecord → List ℕ
keypad_fields k = k.reader ∷ k.digit_count ∷ []

-- COMSET's and COM's
abbrev pub address_and_baud_fields : {code : ℕ} → AddressAndBaud code → List ℕ
address_and_baud_fields r = r.address ∷ r.baud ∷ []

abbrev pub pd_id_fields : PdIdRecord → List ℕ
pd_id_fields r =
    r.oui_0 ∷ r.oui_1 ∷ r.oui_2 ∷ r.model ∷ r.version ∷ r.serial
    ∷ r.firmware_major ∷ r.firmware_minor ∷ r.firmware_build ∷ []

abbrev pub l_stat_r_fields : LStatRRecord → List ℕ
l_stat_r_fields r = r.tamper ∷ r.power ∷ []

abbrev pub acu_rx_size_fields : AcuRxSizeRecord → List ℕ
acu_rx_size_fields r = r.max_size ∷ []

abbrev pub keep_active_fields : KeepActiveRecord → List ℕ
keep_active_fields r = r.duration_ms ∷ []

-- the fields where there is a record, else none
abbrev pub of_record : {A : Type 0} → (A → List ℕ) → Outcome A → List ℕ
of_record fields (Ok a) = fields a
of_record fields (Err e) = []

-- of a record in a list, its index and its offset stand before its fields
abbrev pub placed : ℕ → ℕ → List ℕ → List ℕ
placed width offset fields = offset / width ∷ offset ∷ fields

-- none where fewer than 14 bytes are left
abbrev pub of_led : ℕ → Option LedRecord → List ℕ
of_led offset (Some r) = placed 14 offset (led_fields r)
of_led offset None = []

-- LED's and OUT's record is the one that starts at the offset
abbrev pub fields_of : Kind → List ℕ → ℕ → List ℕ
fields_of Led p offset = of_led offset (led_at p offset)
fields_of Out p offset = of_record (λ r. placed 4 offset (out_fields r)) (read_out_at (drop offset p))
fields_of Text p offset = of_record text_fields (read text_kind p)
fields_of BioRead p offset = of_record (λ r. head_fields r.head) (read bio_read p)
fields_of BioMatch p offset = of_record (λ r. head_fields r.head) (read bio_match p)
fields_of FileTransfer p offset = of_record file_transfer_fields (read file_transfer p)
fields_of Mfg p offset = of_record mfg_fields (read mfg p)
fields_of Raw p offset = of_record raw_fields (read raw p)
fields_of Fmt p offset = of_record fmt_fields (read fmt p)
fields_of BioReadR p offset = of_record (λ r. head_fields r.head) (read bio_read_r p)
fields_of BioMatchR p offset = of_record bio_match_r_fields (read bio_match_r p)
fields_of Nak p offset = of_record nak_fields (read nak p)
fields_of Xrd p offset = of_record xrd_fields (read xrd p)
fields_of Keypad p offset = of_record keypad_fields (read keypad p)
fields_of ComSet p offset = of_record address_and_baud_fields (read com_set p)
fields_of Com p offset = of_record address_and_baud_fields (read com_reply p)
fields_of PdId p offset = of_record pd_id_fields (read pd_id p)
fields_of LStatR p offset = of_record l_stat_r_fields (read l_stat_r p)
fields_of AcuRxSize p offset = of_record acu_rx_size_fields (read acu_rx_size p)
fields_of KeepActive p offset = of_record keep_active_fields (read keep_active p)

-- filled up with zeros to 15
abbrev pub padded : List ℕ → List ℕ
padded fields = fields ++ replicate (15 - length fields) 0
