-- osdp_OUT (0x68), R4.2, §6.8, Table 14: records of four bytes. Output, code and timer u16.
use Rattle.std.specs.Prelude.{List, [], ◌∷◌, ℕ, ◌+◌, ◌*◌, ◌/◌, length, Ok, Err}
use Rattle.payload_util.specs.Prelude.{byte_at, u16_at, u16_bytes, ◌also◌, at_least, positive_multiple_of, in_order, named, Outcome, outcome, guard_of, value_or, nothing, Form, listed}
use Rattle.output.specs.declared.OutputControlCode.TheVariants.{Nop, PermanentOffAbortTimed, PermanentOnAbortTimed, PermanentOffAllowTimed, PermanentOnAllowTimed, TemporaryOnResume, TemporaryOffResume}
use Rattle.output.specs.declared.OutputControlCode.{OutputControlCode}
use Rattle.output.specs.declared.OutputRecord.{OutputRecord}
use Rattle.payload_util.specs.Refusals.{Guard, refusal}
use Rattle.payload_util.specs.Form.{Listed}
use Rattle.payload_util.specs.declared.Row.TheVariants.{UnknownOutputCode}

abbrev pub out_code : ℕ
out_code = 0x68

-- Table 14, R3.7
abbrev pub output_byte : OutputControlCode → ℕ
output_byte Nop = 0x00
output_byte PermanentOffAbortTimed = 0x01
output_byte PermanentOnAbortTimed = 0x02
output_byte PermanentOffAllowTimed = 0x03
output_byte PermanentOnAllowTimed = 0x04
output_byte TemporaryOnResume = 0x05
output_byte TemporaryOffResume = 0x06

abbrev pub output_codes : List OutputControlCode
output_codes =
    Nop ∷ PermanentOffAbortTimed ∷ PermanentOnAbortTimed ∷ PermanentOffAllowTimed ∷ PermanentOnAllowTimed ∷ TemporaryOnResume
    ∷ TemporaryOffResume ∷ []

-- the code that has this byte; row 7 for any other byte
unfoldable pub read_output_code : ℕ → Outcome OutputControlCode
read_output_code b = named output_byte Ok (Err (refusal UnknownOutputCode out_code 0 0)) output_codes b

-- the code of the record at an index is known; the codes of all records are known, in order
abbrev pub code_known : List ℕ → ℕ → Guard
code_known p index = guard_of (read_output_code (byte_at p (4 * index + 1)))

unfoldable pub codes_known : List ℕ → Guard
codes_known p = in_order (code_known p) 0 (length p / 4)

-- the code of the record in the first bytes, where it is in the record as a number
abbrev pub code_in_place : List ℕ → ℕ
code_in_place q = byte_at q 1 * 256

-- the record in the first bytes, with this code
abbrev pub out_with : OutputControlCode → List ℕ → OutputRecord
out_with c q = record { output = byte_at q 0; code = c; timer = u16_at q 2 }

abbrev pub out_of : List ℕ → OutputRecord
out_of q = out_with (value_or Nop (read_output_code (byte_at q 1))) q

-- the record in the first bytes: row 4, then row 7
abbrev pub read_out_at : List ℕ → Outcome OutputRecord
read_out_at q = outcome (at_least 4 out_code q also guard_of (read_output_code (byte_at q 1))) (out_of q)

abbrev pub out_bytes : OutputRecord → List ℕ
out_bytes r = r.output ∷ output_byte r.code ∷ u16_bytes r.timer

-- one unknown code refuses the whole list
abbrev pub output_row : Listed OutputRecord
output_row = record {
  code = out_code;
  width = 4;
  check = λ c p. positive_multiple_of 4 c p also codes_known p;
  fields = out_of;
  bytes = out_bytes;
  loss = nothing;
}

abbrev pub outputs : Form
outputs = listed output_row
