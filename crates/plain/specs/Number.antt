-- osdp_ACURXSIZE (0x7B), R101.6, §6.19: the largest packet that the panel takes, u16. osdp_KEEPACTIVE (0xA7), R101.7, §6.27: milliseconds, u16.
-- Both have one layout.
use Rattle.std.specs.Prelude.{ℕ}
use Rattle.payload_util.specs.Prelude.{u16_at, u16_bytes, Form}
use Rattle.plain.specs.Exact.{exact}
use Rattle.plain.specs.declared.acu_rx_size.AcuRxSize.{AcuRxSize}
use Rattle.plain.specs.declared.keep_active.KeepActive.{KeepActive}

-- a kind whose record is made of one number
abbrev pub one_number : {A : Type 0} → ℕ → (ℕ → A) → (A → ℕ) → Form
one_number code make number = exact code 2 (λ p. make (u16_at p 0)) (λ r. u16_bytes (number r))

abbrev pub acu_rx_size : Form
acu_rx_size = one_number {A = AcuRxSize} 0x7B (λ n. record { max_size = n }) (λ r. r.max_size)

abbrev pub keep_active : Form
keep_active = one_number {A = KeepActive} 0xA7 (λ n. record { duration_ms = n }) (λ r. r.duration_ms)
