-- osdp_NAK (0x41), R4.12, §7.3: the error of Table 47, and completion codes. They are read with one error only, and written with every error.
use Rattle.std.specs.Prelude.{List, [], ◌∷◌, ℕ, cond, eqb, drop, Ok, Err}
use Rattle.payload_util.specs.Prelude.{byte_at, ◌also◌, at_least, named, Outcome, guard_of, value_or, rest_unless, Form, tailed}
use Rattle.nak.specs.declared.NakErrorCode.TheVariants.{NoError, BadCrcOrChecksum, CommandLengthError, UnknownCommandCode, UnexpectedSequenceNumber, SecurityBlockTypeNotSupported, EncryptedCommunicationRequired, BioTypeNotSupported, BioFormatNotSupported, UnableToProcessCommandRecord}
use Rattle.nak.specs.declared.NakErrorCode.{NakErrorCode}
use Rattle.nak.specs.declared.Nak.{Nak}
use Rattle.payload_util.specs.Refusals.{Pass, refusal}
use Rattle.payload_util.specs.declared.Row.TheVariants.{UnknownNakError}

abbrev pub nak_code : ℕ
nak_code = 0x41

-- Table 47, R3.9
abbrev pub nak_error_byte : NakErrorCode → ℕ
nak_error_byte NoError = 0x00
nak_error_byte BadCrcOrChecksum = 0x01
nak_error_byte CommandLengthError = 0x02
nak_error_byte UnknownCommandCode = 0x03
nak_error_byte UnexpectedSequenceNumber = 0x04
nak_error_byte SecurityBlockTypeNotSupported = 0x05
nak_error_byte EncryptedCommunicationRequired = 0x06
nak_error_byte BioTypeNotSupported = 0x07
nak_error_byte BioFormatNotSupported = 0x08
nak_error_byte UnableToProcessCommandRecord = 0x09

abbrev pub nak_errors : List NakErrorCode
nak_errors =
    NoError ∷ BadCrcOrChecksum ∷ CommandLengthError ∷ UnknownCommandCode ∷ UnexpectedSequenceNumber
    ∷ SecurityBlockTypeNotSupported ∷ EncryptedCommunicationRequired ∷ BioTypeNotSupported ∷ BioFormatNotSupported
    ∷ UnableToProcessCommandRecord ∷ []

-- row 10 for any other byte
unfoldable pub read_nak_error : ℕ → Outcome NakErrorCode
read_nak_error b = named nak_error_byte Ok (Err (refusal UnknownNakError nak_code 0 0)) nak_errors b

-- the error byte with which completion codes are read
abbrev pub completion_error : ℕ
completion_error = nak_error_byte UnableToProcessCommandRecord

abbrev pub completion_codes : List ℕ → List ℕ
completion_codes p = cond (eqb (byte_at p 0) completion_error) (drop 1 p) []

abbrev pub nak : Form
nak = tailed {A = Nak} (record {
  code = nak_code;
  check = λ c p. at_least 1 c p also guard_of (read_nak_error (byte_at p 0));
  fields = λ p. record { error = value_or NoError (read_nak_error (byte_at p 0)) };
  rest = completion_codes;
  refuse = λ c n t. Pass;
  bytes = λ n t. nak_error_byte n.error ∷ t;
  loss = rest_unless completion_error;
})
