-- The laws of the kinds of one exact length.
-- Assumes nothing.
use mathlib.Core.Path.{◌≡◌, refl}
use mathlib.Core.List.{List}
use Prim.Native.Nat.{ℕ}
use native.Mathlib.Nat.{mod-add-div}
use native.Mathlib.Omega.{arith}
use lib.ListN.{length}
use Rattle.payload_util.specs.Bytes.{Bytes}
use Rattle.payload_util.proofs.Words.{low_byte, high_byte, low_word, high_word}
use Rattle.payload_util.proofs.Guards.{exact_pass, pass_exact}
use Rattle.payload_util.proofs.Parts.{by_head, ended}
use Rattle.payload_util.specs.Law.{Law}
use Rattle.payload_util.proofs.Forms.{fixed_law}
use Rattle.plain.specs.Exact.{exact}
use Rattle.plain.specs.Com.{address_and_baud, com_set, com_reply}
use Rattle.plain.specs.PdId.{pd_id}
use Rattle.plain.specs.LStat.{l_stat_r}
use Rattle.plain.specs.Number.{one_number, acu_rx_size, keep_active}

module _ {A : Type 0} {code len : ℕ} {fields : List ℕ → A} {bytes : A → List ℕ} where
  exact_law : ((r : A) → length (bytes r) ≡ len) → ((r : A) → fields (bytes r) ≡ r)
      → ((p : List ℕ) → Bytes p → length p ≡ len → bytes (fields p) ≡ p) → Law (exact code len fields bytes)
  exact_law size restores keeps =
      fixed_law (λ p b g. keeps p b (exact_pass len code p g)) (λ p b g. refl) (λ r w. restores r) (λ p. refl)
      (λ r w. pass_exact len code (bytes r) (size r))

-- COMSET and COM
pub com_law : (code : ℕ) → Law (address_and_baud code)
com_law code =
    exact_law (λ r. refl) (λ r. simp mod-add-div)
    (λ p b e. by_head 5 p (λ q. q) (omega arith) (simp (low_byte, high_byte, low_word, high_word, ended 5 p e)))

pub com_set_law : Law com_set
com_set_law = com_law _

pub com_reply_law : Law com_reply
com_reply_law = com_law _

pub pd_id_law : Law pd_id
pd_id_law =
    exact_law (λ r. refl) (λ r. simp mod-add-div)
    (λ p b e. by_head 12 p (λ q. q) (omega arith) (simp (low_byte, high_byte, low_word, high_word, ended 12 p e)))

pub l_stat_r_law : Law l_stat_r
l_stat_r_law = exact_law (λ r. refl) (λ r. refl) (λ p b e. by_head 2 p (λ q. q) (omega arith) (simp (ended 2 p e)))

-- ACURXSIZE and KEEPACTIVE: a record is made of its number
module _ {A : Type 0} {code : ℕ} (make : ℕ → A) (number : A → ℕ) where
  number_law : ((n : ℕ) → number (make n) ≡ n) → ((r : A) → make (number r) ≡ r) → Law (one_number code make number)
  number_law number_is whole =
      exact_law (λ r. refl) (λ r. simp (mod-add-div, whole))
      (λ p b e. by_head 2 p (λ q. q) (omega arith) (simp (number_is, low_byte, high_byte, ended 2 p e)))

pub acu_rx_size_law : Law acu_rx_size
acu_rx_size_law = number_law (λ n. record { max_size = n }) (λ r. r.max_size) (λ n. refl) (λ r. refl)

pub keep_active_law : Law keep_active
keep_active_law = number_law (λ n. record { duration_ms = n }) (λ r. r.duration_ms) (λ n. refl) (λ r. refl)
