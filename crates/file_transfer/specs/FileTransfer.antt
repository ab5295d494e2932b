-- osdp_FILETRANSFER (0x7C), R4.6, §6.21: type, total size u32, offset u32, fragment length u16, fragment. The total and the offset are not compared
-- with the fragment.
use Rattle.std.specs.Prelude.{◌∷◌, ◌++◌, length, drop}
use Rattle.payload_util.specs.Prelude.{byte_at, u16_at, u32_at, u16_bytes, u32_bytes, head_and_tail, at_most, nothing, Form, tailed}
use Rattle.file_transfer.specs.declared.FileTransfer.{FileTransfer}

-- a payload is refused by rows 4 and 6, a record by row 12, since the length field has two bytes
abbrev pub file_transfer : Form
file_transfer = tailed {A = FileTransfer} (record {
  code = 0x7C;
  check = λ c p. head_and_tail 11 (u16_at p 9) c p;
  fields = λ p. record { file_type = byte_at p 0; total_size = u32_at p 1; offset = u32_at p 5 };
  rest = drop 11;
  refuse = λ c f t. at_most 65535 c t;
  bytes = λ f t. f.file_type ∷ u32_bytes f.total_size ++ u32_bytes f.offset ++ u16_bytes (length t) ++ t;
  loss = nothing;
})
