-- osdp_BIOREAD (0x73), R4.4, §6.14: reader, type, format, quality.
-- osdp_BIOMATCH (0x74), R4.5, §6.15: the same four fields, length u16, template.
use Rattle.std.specs.Prelude.{List, [], ◌∷◌, ◌++◌, ℕ, length, drop}
use Rattle.payload_util.specs.Prelude.{byte_at, u16_at, u16_bytes, exact_len, head_and_tail, at_most, named, Keep, any, up_to, Loss, above, Form, fixed, tailed}
use Rattle.payload_util.specs.Refusals.{Guard, Pass}
use Rattle.biometric.specs.declared.BioHead.{BioHead}
use Rattle.biometric.specs.declared.BioRead.{BioRead}
use Rattle.biometric.specs.declared.BioMatch.{BioMatch}
use Rattle.biometric.specs.declared.BioType.{BioType}
use Rattle.biometric.specs.declared.BioFormat.{BioFormat}
use Rattle.biometric.specs.declared.BioType.TheVariants.{NotSpecified, RightThumb, RightIndex, RightMiddle, RightRing, RightLittle, LeftThumb, LeftIndex, LeftMiddle, LeftRing, LeftLittle, RightIris, RightRetina, LeftIris, LeftRetina, Face, RightHandGeometry, LeftHandGeometry}
use Rattle.biometric.specs.declared.BioFormat.TheVariants.{NotSpecified as NoFormat, FingerprintRawPgm, FingerprintAnsi378}

-- Table 24, R3.5
abbrev pub bio_type_byte : BioType → ℕ
bio_type_byte NotSpecified = 0x00
bio_type_byte RightThumb = 0x01
bio_type_byte RightIndex = 0x02
bio_type_byte RightMiddle = 0x03
bio_type_byte RightRing = 0x04
bio_type_byte RightLittle = 0x05
bio_type_byte LeftThumb = 0x06
bio_type_byte LeftIndex = 0x07
bio_type_byte LeftMiddle = 0x08
bio_type_byte LeftRing = 0x09
bio_type_byte LeftLittle = 0x0A
bio_type_byte RightIris = 0x0B
bio_type_byte RightRetina = 0x0C
bio_type_byte LeftIris = 0x0D
bio_type_byte LeftRetina = 0x0E
bio_type_byte Face = 0x0F
bio_type_byte RightHandGeometry = 0x10
bio_type_byte LeftHandGeometry = 0x11

abbrev pub bio_types : List BioType
bio_types =
    NotSpecified ∷ RightThumb ∷ RightIndex ∷ RightMiddle ∷ RightRing ∷ RightLittle ∷ LeftThumb ∷ LeftIndex ∷ LeftMiddle
    ∷ LeftRing ∷ LeftLittle ∷ RightIris ∷ RightRetina ∷ LeftIris ∷ LeftRetina ∷ Face ∷ RightHandGeometry
    ∷ LeftHandGeometry ∷ []

-- any other byte is NotSpecified
unfoldable pub bio_type_of : ℕ → BioType
bio_type_of b = named bio_type_byte (λ c. c) NotSpecified bio_types b

abbrev pub highest_type : ℕ
highest_type = 0x11

-- Table 25, R3.6
abbrev pub bio_format_byte : BioFormat → ℕ
bio_format_byte NoFormat = 0x00
bio_format_byte FingerprintRawPgm = 0x01
bio_format_byte FingerprintAnsi378 = 0x02

abbrev pub bio_formats : List BioFormat
bio_formats = NoFormat ∷ FingerprintRawPgm ∷ FingerprintAnsi378 ∷ []

-- any other byte is NotSpecified
unfoldable pub bio_format_of : ℕ → BioFormat
bio_format_of b = named bio_format_byte (λ c. c) NoFormat bio_formats b

abbrev pub highest_format : ℕ
highest_format = 2

abbrev pub head_of : List ℕ → BioHead
head_of p =
    record { reader = byte_at p 0; bio_type = bio_type_of (byte_at p 1); bio_format = bio_format_of (byte_at p 2); quality = byte_at p 3 }

abbrev pub head_bytes : BioHead → List ℕ
head_bytes h = h.reader ∷ bio_type_byte h.bio_type ∷ bio_format_byte h.bio_format ∷ h.quality ∷ []

-- reading loses a type and a format above the highest
abbrev pub bio_limits : List Keep
bio_limits = any ∷ up_to highest_type ∷ up_to highest_format ∷ []

abbrev pub bio_loss : Loss
bio_loss = above bio_limits

unfoldable pub check_template : ℕ → List ℕ → Guard
check_template code p = head_and_tail 6 (u16_at p 4) code p

-- a kind whose record holds a head: a payload is refused by rows 4 and 6, a record by row 12
abbrev pub templated : {A : Type 0} → ℕ → (BioHead → A) → (A → BioHead) → Form
templated code wrap head = tailed (record {
  code = code;
  check = check_template;
  fields = λ p. wrap (head_of p);
  rest = drop 6;
  refuse = λ c a t. at_most 65535 c t;
  bytes = λ a t. head_bytes (head a) ++ u16_bytes (length t) ++ t;
  loss = bio_loss;
})

-- the head by itself
abbrev pub headed : ℕ → Form
headed code = templated code (λ h. h) (λ h. h)

abbrev pub bio_read : Form
bio_read = fixed {A = BioRead} (record {
  code = 0x73;
  check = exact_len 4;
  fields = λ p. record { head = head_of p };
  refuse = λ c r. Pass;
  bytes = λ r. head_bytes r.head;
  loss = bio_loss;
})

abbrev pub bio_match : Form
bio_match = templated {A = BioMatch} 0x74 (λ h. record { head = h }) (λ m. m.head)
