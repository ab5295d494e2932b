-- osdp_COMSET (0x6E), R101.2, §6.13, and osdp_COM (0x54), R101.3, §7.13: address, baud rate u32. Both have one layout.
use Rattle.std.specs.Prelude.{ℕ, ◌∷◌}
use Rattle.payload_util.specs.Prelude.{byte_at, u32_at, u32_bytes, Form}
use Rattle.plain.specs.Exact.{exact}
use Rattle.plain.specs.declared.com.AddressAndBaud.{AddressAndBaud}

-- a kind whose record is an address and a baud rate
abbrev pub address_and_baud : ℕ → Form
address_and_baud code =
    exact {A = AddressAndBaud code} code 5 (λ p. record { address = byte_at p 0; baud = u32_at p 1 }) (λ r. r.address ∷ u32_bytes r.baud)

abbrev pub com_set : Form
com_set = address_and_baud 0x6E

abbrev pub com_reply : Form
com_reply = address_and_baud 0x54
