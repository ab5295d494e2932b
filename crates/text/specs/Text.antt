-- osdp_TEXT (0x6B), R4.3, §6.12, Tables 21 and 22: reader, command, time, row, column, length, and so many bytes of text.
use Rattle.std.specs.Prelude.{Bool, ◌&&◌, ◌≡◌, List, [], ◌∷◌, ℕ, zero, suc, ◌/◌, ◌%◌, leb, length, drop, Ok, Err}
use Rattle.payload_util.specs.Prelude.{byte_at, require, ◌also◌, head_and_tail, at_most, in_order, named, Outcome, guard_of, value_or, nothing, Form, tailed}
use Rattle.text.specs.declared.Text.{Text}
use Rattle.text.specs.declared.TextCommand.{TextCommand}
use Rattle.text.specs.declared.TextCommand.TheVariants.{PermanentNoWrap, PermanentWrap, TemporaryNoWrap, TemporaryWrap}
use Rattle.payload_util.specs.Refusals.{Guard, refusal}
use Rattle.payload_util.specs.declared.Row.TheVariants.{UnknownTextCommand, UnprintableText}

abbrev pub text_code : ℕ
text_code = 0x6B

-- Table 21, R3.8
abbrev pub text_command_byte : TextCommand → ℕ
text_command_byte PermanentNoWrap = 0x01
text_command_byte PermanentWrap = 0x02
text_command_byte TemporaryNoWrap = 0x03
text_command_byte TemporaryWrap = 0x04

abbrev pub text_commands : List TextCommand
text_commands = PermanentNoWrap ∷ PermanentWrap ∷ TemporaryNoWrap ∷ TemporaryWrap ∷ []

-- the command that has this byte; row 9 for any other byte
unfoldable pub read_text_command : ℕ → Outcome TextCommand
read_text_command b = named text_command_byte Ok (Err (refusal UnknownTextCommand text_code 0 0)) text_commands b

-- a byte of a text lies in 0x20 to 0x7E
abbrev pub shown : ℕ → Bool
shown b = leb 0x20 b && leb b 0x7E

-- the answer to a yes or no: row 8 for no
abbrev pub told : Bool → Guard
told t = require t (refusal UnprintableText text_code 0 0)

abbrev pub printable_at : List ℕ → ℕ → Guard
printable_at s i = told (shown (byte_at s i))

-- each byte, in order
unfoldable pub printable : List ℕ → Guard
printable s = in_order (printable_at s) 0 (length s)

-- the n low bytes of a number, lowest first
unfoldable pub bytes_of : ℕ → ℕ → List ℕ
bytes_of zero w = []
bytes_of (suc n) w = w % 256 ∷ bytes_of n (w / 256)

-- the word of the characters ABCDEFGH
abbrev pub KnownWord : Type 0
KnownWord = bytes_of 8 0x4847_4645_4443_4241 ≡ 0x41 ∷ 0x42 ∷ 0x43 ∷ 0x44 ∷ 0x45 ∷ 0x46 ∷ 0x47 ∷ 0x48 ∷ []

-- a reader checks the least length, the length field, the text and then the command
unfoldable pub text_shape : List ℕ → Guard
text_shape p = head_and_tail 6 (byte_at p 5) text_code p also printable (drop 6 p)

-- the bytes at their offsets, with this command
abbrev pub text_with : TextCommand → List ℕ → Text
text_with command p =
    record { reader = byte_at p 0; command = command; temp_time_s = byte_at p 2; row = byte_at p 3; column = byte_at p 4 }

-- a writer checks that the text is printable, and then that it has at most 255 bytes
abbrev pub text_kind : Form
text_kind = tailed {A = Text} (record {
  code = text_code;
  check = λ c p. text_shape p also guard_of (read_text_command (byte_at p 1));
  fields = λ p. text_with (value_or PermanentNoWrap (read_text_command (byte_at p 1))) p;
  rest = drop 6;
  refuse = λ c t s. printable s also at_most 255 c s;
  bytes = λ t s. t.reader ∷ text_command_byte t.command ∷ t.temp_time_s ∷ t.row ∷ t.column ∷ length s ∷ s;
  loss = nothing;
})
