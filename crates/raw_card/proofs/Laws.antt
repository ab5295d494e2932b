-- The laws of RAW and FMT.
-- Assumes nothing.
use mathlib.Core.Path.{refl}
use native.Mathlib.Nat.{mod-add-div}
use native.Mathlib.Omega.{arith}
use Rattle.payload_util.proofs.Words.{low_byte, high_byte}
use Rattle.payload_util.proofs.Parts.{by_head}
use Rattle.payload_util.specs.Law.{Law}
use Rattle.payload_util.proofs.Forms.{counted_law}
use Rattle.raw_card.specs.Raw.{bytes_for, raw}
use Rattle.raw_card.specs.Fmt.{fmt}

pub raw_law : Law raw
raw_law =
    counted_law 4 (λ r. bytes_for r.bit_count) (λ p. refl) (λ r t. refl) (λ p. refl) (λ p. refl)
    (λ p b h. by_head 4 p (λ q. q) h (simp (low_byte, high_byte)))
    (λ r t. simp mod-add-div) (λ r t. refl) (λ r t. omega arith)

pub fmt_law : Law fmt
fmt_law =
    counted_law 3 (λ f. f.char_count) (λ p. refl) (λ f t. refl) (λ p. refl) (λ p. refl)
    (λ p b h. by_head 3 p (λ q. q) h refl)
    (λ f t. refl) (λ f t. refl) (λ f t. omega arith)
