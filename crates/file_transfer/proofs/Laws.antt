-- FILETRANSFER's law.
-- Assumes nothing.
use mathlib.Core.Path.{refl}
use native.Mathlib.Nat.{mod-add-div}
use native.Mathlib.Omega.{arith}
use lib.ListN.{length}
use Rattle.payload_util.proofs.Words.{fits_word, low_byte, high_byte, low_word, high_word}
use Rattle.payload_util.proofs.Guards.{head_and_tail_pass, pass_head_and_tail}
use Rattle.payload_util.proofs.Parts.{by_head}
use Rattle.payload_util.specs.Law.{Law}
use Rattle.payload_util.proofs.Forms.{tailed_law}
use Rattle.file_transfer.specs.FileTransfer.{file_transfer}

pub file_transfer_law : Law file_transfer
file_transfer_law =
    tailed_law 11
    (λ p b g.
    let (h, e) = head_and_tail_pass 11 _ p _ g in
    by_head 11 p (λ q. q) h (simp (e, low_byte, high_byte, low_word, high_word)))
    (λ p b g. fits_word p _ 11 9 10 b (head_and_tail_pass 11 _ p _ g).1)
    (λ f t w. simp mod-add-div) (λ f t. refl) (λ p u. refl) (λ p. refl)
    (λ f t w. pass_head_and_tail 11 _ _ _ (omega (arith, mod-add-div (length t) 256)))
