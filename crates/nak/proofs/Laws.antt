-- NAK's code table, what reading keeps, and NAK's law.
-- Assumes nothing.
use mathlib.Core.Path.{◌≡◌, refl, sym, ap, ◌∙◌}
use mathlib.Core.Bool.{Bool, true, false, cond}
use mathlib.Core.List.{List, [], ◌∷◌}
use Prim.Native.Nat.{ℕ, ◌≤◌}
use native.Mathlib.Omega.{arith}
use borrow.Author.Tests.{le-leb}
use lib.ListN.{length, take, drop}
use lib.Dec.{eqb}
use Rattle.payload_util.specs.Bytes.{byte_at}
use Rattle.payload_util.specs.Guards.{at_least}
use Rattle.payload_util.specs.Loss.{without}
use Rattle.payload_util.specs.Outcome.{guard_of}
use Rattle.payload_util.specs.Form.{loss, check}
use Rattle.payload_util.proofs.Guards.{also_left, also_right, least_pass, pass_least}
use Rattle.payload_util.proofs.Table.{exact, exact_value}
use Rattle.payload_util.proofs.Parts.{by_head}
use Rattle.payload_util.proofs.Losses.{kept_whole}
use Rattle.payload_util.specs.Law.{Law}
use Rattle.payload_util.proofs.Forms.{tailed_law}
use Rattle.nak.specs.declared.NakErrorCode.{NakErrorCode}
use Rattle.nak.specs.declared.NakErrorCode.TheVariants.{NoError, BadCrcOrChecksum, CommandLengthError, UnknownCommandCode, UnexpectedSequenceNumber, SecurityBlockTypeNotSupported, EncryptedCommunicationRequired, BioTypeNotSupported, BioFormatNotSupported, UnableToProcessCommandRecord}
use Rattle.nak.specs.Nak.{nak_code, nak_error_byte, nak_errors, read_nak_error, completion_error, completion_codes, nak}
use Rattle.std.specs.Prelude.{Ok}
use Rattle.payload_util.specs.Refusals.{Pass, refusal}
use Rattle.payload_util.specs.declared.Row.TheVariants.{UnknownNakError}

-- a code's byte reads as the code, and a byte that reads as a code is that code's byte
pub nak_error_back : (c : NakErrorCode) → read_nak_error (nak_error_byte c) ≡ Ok c
unfolding read_nak_error
nak_error_back =
    elim [
      | NoError ↦ refl
      | BadCrcOrChecksum ↦ refl
      | CommandLengthError ↦ refl
      | UnknownCommandCode ↦ refl
      | UnexpectedSequenceNumber ↦ refl
      | SecurityBlockTypeNotSupported ↦ refl
      | EncryptedCommunicationRequired ↦ refl
      | BioTypeNotSupported ↦ refl
      | BioFormatNotSupported ↦ refl
      | UnableToProcessCommandRecord ↦ refl
    ]

pub nak_error_exact : (b : ℕ) (c : NakErrorCode) → read_nak_error b ≡ Ok c → nak_error_byte c ≡ b
unfolding read_nak_error
nak_error_exact b c = exact nak_error_byte (refusal UnknownNakError nak_code 0 0) nak_errors b c

-- an accepted payload has an error, and it is known
pub nak_least : (p : List ℕ) → check nak p ≡ Pass → 1 ≤ length p
nak_least p g = least_pass 1 nak_code p (also_left (at_least 1 nak_code p) _ g)

pub nak_known : (p : List ℕ) → check nak p ≡ Pass → guard_of (read_nak_error (byte_at p 0)) ≡ Pass
nak_known p g = also_right (at_least 1 nak_code p) _ g

-- after the first byte reading keeps the completion codes
kept_rest : (t : Bool) (p : List ℕ) → drop 1 (cond t p (take 1 p)) ≡ cond t (drop 1 p) []
kept_rest true p = refl
kept_rest false [] = refl
kept_rest false (b ∷ p) = refl

pub kept_codes : (p : List ℕ) → drop 1 (without (loss nak) p) ≡ completion_codes p
kept_codes p = kept_rest (eqb (byte_at p 0) completion_error) p

-- the error's byte and the completion codes are what is kept
error_and_codes : (t : Bool) (p : List ℕ) → 1 ≤ length p → byte_at p 0 ∷ cond t (drop 1 p) [] ≡ cond t p (take 1 p)
error_and_codes true p h = by_head 1 p (λ q. q) h refl
error_and_codes false p h = by_head 1 p (take 1) h refl

nak_steady : (t : Bool) (p : List ℕ) → check nak (cond t p (take 1 p)) ≡ check nak p
unfolding at_least
nak_steady true p = refl
nak_steady false [] = refl
nak_steady false (b ∷ p) = simp (le-leb 1 (length (b ∷ p)) (omega arith))

pub nak_law : Law nak
unfolding read_nak_error
nak_law =
    tailed_law 1
    (λ p b g.
    rw (exact_value nak_error_byte (refusal UnknownNakError nak_code 0 0) nak_errors (byte_at p 0) NoError (nak_known p g))
    (error_and_codes (eqb (byte_at p 0) completion_error) p (nak_least p g)))
    (λ p b g. refl)
    (λ n t w. simp nak_error_back) (λ n t. refl) (λ p u. sym (kept_codes p) ∙ ap (drop 1) (kept_whole (loss nak) p u refl))
    (λ p. nak_steady (eqb (byte_at p 0) completion_error) p)
    (λ n t w. simp (pass_least 1 nak_code (nak_error_byte n.error ∷ t) (omega arith), nak_error_back))
