-- The twenty kinds (R2.5, R101): the row of each, and the kind that a code byte names, or row 1, 2 or 14.
use Rattle.std.specs.Prelude.{List, [], ◌∷◌, ℕ, Ok, Err}
use Rattle.payload_util.specs.Prelude.{named, Outcome, guard_of, Form, code}
use Rattle.codes.specs.CommandCode.{read_command}
use Rattle.codes.specs.ReplyCode.{read_reply}
use Rattle.led.specs.Led.{leds}
use Rattle.output.specs.Output.{outputs}
use Rattle.text.specs.Text.{text_kind}
use Rattle.biometric.specs.Biometric.{bio_read, bio_match}
use Rattle.file_transfer.specs.FileTransfer.{file_transfer}
use Rattle.mfg.specs.Mfg.{mfg}
use Rattle.raw_card.specs.Raw.{raw}
use Rattle.raw_card.specs.Fmt.{fmt}
use Rattle.bio.specs.Bio.{bio_read_r, bio_match_r}
use Rattle.nak.specs.Nak.{nak}
use Rattle.xrd.specs.Xrd.{xrd}
use Rattle.keypad.specs.Keypad.{keypad}
use Rattle.plain.specs.Com.{com_set, com_reply}
use Rattle.plain.specs.PdId.{pd_id}
use Rattle.plain.specs.LStat.{l_stat_r}
use Rattle.plain.specs.Number.{acu_rx_size, keep_active}
use Rattle.osdp.specs.declared.Side.{Side}
use Rattle.osdp.specs.declared.Side.TheVariants.{Command, Reply}
use Rattle.osdp.specs.declared.Kind.{Kind}
use Rattle.osdp.specs.declared.Kind.TheVariants.{Led, Out, Text, BioRead, BioMatch, FileTransfer, Mfg, Raw, Fmt, BioReadR, BioMatchR, Nak, Xrd, Keypad, ComSet, Com, PdId, LStatR, AcuRxSize, KeepActive}
use Rattle.payload_util.specs.Refusals.{Guard, refusal}
use Rattle.payload_util.specs.declared.Row.TheVariants.{NotCarried}

infixr 20 ◌then◌
abbrev pub form : Kind → Form
form Led = leds
form Out = outputs
form Text = text_kind
form BioRead = bio_read
form BioMatch = bio_match
form FileTransfer = file_transfer
form Mfg = mfg
form Raw = raw
form Fmt = fmt
form BioReadR = bio_read_r
form BioMatchR = bio_match_r
form Nak = nak
form Xrd = xrd
form Keypad = keypad
form ComSet = com_set
form Com = com_reply
form PdId = pd_id
form LStatR = l_stat_r
form AcuRxSize = acu_rx_size
form KeepActive = keep_active

abbrev pub kinds : Side → List Kind
kinds Command = Led ∷ Out ∷ Text ∷ BioRead ∷ BioMatch ∷ FileTransfer ∷ Mfg ∷ ComSet ∷ AcuRxSize ∷ KeepActive ∷ []
kinds Reply = Raw ∷ Fmt ∷ BioReadR ∷ BioMatchR ∷ Nak ∷ Xrd ∷ Keypad ∷ Com ∷ PdId ∷ LStatR ∷ []

-- the side's code table has the byte: row 1 or 2 if not
abbrev pub in_table : Side → ℕ → Guard
in_table Command b = guard_of (read_command b)
in_table Reply b = guard_of (read_reply b)

-- what is asked of a value, if there is one
abbrev pub ◌then◌ : {A B : Type 0} → Outcome A → (A → Outcome B) → Outcome B
◌then◌ (Ok a) f = f a
◌then◌ (Err e) f = Err e

-- the kind among these whose code the byte is, or row 14
abbrev pub carried : List Kind → ℕ → Outcome Kind
carried ks b = named (λ k. code (form k)) Ok (Err (refusal NotCarried b 0 0)) ks b

-- the kind that a code byte names on a side: row 1 or 2 if the side has no such code, row 14 if the code's payload is not carried
unfoldable pub kind_of : Side → ℕ → Outcome Kind
kind_of side b = in_table side b then λ known. carried (kinds side) b
