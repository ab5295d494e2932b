-- osdp_BIOREADR (0x57), R4.10, §7.14: reader, type, format, quality, length u16, sample. This is the layout of BIOMATCH.
-- osdp_BIOMATCHR (0x58), R4.11, §7.15: reader, result, score.
use Rattle.std.specs.Prelude.{[], ◌∷◌}
use Rattle.payload_util.specs.Prelude.{byte_at, exact_len, nothing, Form, fixed}
use Rattle.payload_util.specs.Refusals.{Pass}
use Rattle.biometric.specs.Biometric.{templated}
use Rattle.bio.specs.declared.BioReadR.{BioReadR}
use Rattle.bio.specs.declared.BioMatchR.{BioMatchR}

abbrev pub bio_read_r : Form
bio_read_r = templated {A = BioReadR} 0x57 (λ h. record { head = h }) (λ r. r.head)

abbrev pub bio_match_r : Form
bio_match_r = fixed {A = BioMatchR} (record {
  code = 0x58;
  check = exact_len 3;
  fields = λ p. record { reader = byte_at p 0; result = byte_at p 1; score = byte_at p 2 };
  refuse = λ c r. Pass;
  bytes = λ r. r.reader ∷ r.result ∷ r.score ∷ [];
  loss = nothing;
})
