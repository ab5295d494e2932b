-- KEYPAD's law.
-- Assumes nothing.
use mathlib.Core.Path.{refl}
use native.Mathlib.Omega.{arith}
use Rattle.payload_util.proofs.Parts.{by_head}
use Rattle.payload_util.specs.Law.{Law}
use Rattle.payload_util.proofs.Forms.{counted_law}
use Rattle.keypad.specs.Keypad.{keypad}

pub keypad_law : Law keypad
keypad_law =
    counted_law 2 (λ k. k.digit_count) (λ p. refl) (λ k t. refl) (λ p. refl) (λ p. refl)
    (λ p b h. by_head 2 p (λ q. q) h refl) (λ k t. refl) (λ k t. refl) (λ k t. omega arith)
