-- osdp_LSTATR (0x48), R101.5, §7.6: tamper, power.
use Rattle.std.specs.Prelude.{[], ◌∷◌}
use Rattle.payload_util.specs.Prelude.{byte_at, Form}
use Rattle.plain.specs.Exact.{exact}
use Rattle.plain.specs.declared.lstat.LStatR.{LStatR}

abbrev pub l_stat_r : Form
l_stat_r = exact {A = LStatR} 0x48 2 (λ p. record { tamper = byte_at p 0; power = byte_at p 1 }) (λ r. r.tamper ∷ r.power ∷ [])
