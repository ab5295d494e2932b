-- osdp_MFG (0x80), R4.7, §6.22: the vendor's OUI of three bytes, and data.
use Rattle.std.specs.Prelude.{◌∷◌, drop}
use Rattle.payload_util.specs.Prelude.{byte_at, at_least, nothing, Form, tailed}
use Rattle.mfg.specs.declared.Mfg.{Mfg}
use Rattle.payload_util.specs.Refusals.{Pass}

abbrev pub mfg : Form
mfg = tailed {A = Mfg} (record {
  code = 0x80;
  check = at_least 3;
  fields = λ p. record { oui_0 = byte_at p 0; oui_1 = byte_at p 1; oui_2 = byte_at p 2 };
  rest = drop 3;
  refuse = λ c m t. Pass;
  bytes = λ m t. m.oui_0 ∷ m.oui_1 ∷ m.oui_2 ∷ t;
  loss = nothing;
})
