-- The biometric head, a head with a template under any code, and the laws of BIOREAD and BIOMATCH.
-- Assumes nothing.
use mathlib.Core.Path.{◌≡◌, refl, ap, ◌∙◌}
use mathlib.Core.List.{List, [], ◌∷◌, ◌++◌}
use Prim.Native.Nat.{ℕ, ◌≤◌}
use native.Mathlib.Nat.{mod-add-div}
use native.Mathlib.Omega.{arith}
use lib.ListN.{length, drop}
use Rattle.payload_util.specs.Bytes.{Bytes, byte_at, u16_at, u16_bytes}
use Rattle.payload_util.specs.Loss.{keep, only_at, without, within_limits}
use Rattle.payload_util.specs.Guards.{exact_len, at_least, declared_len, at_most}
use Rattle.payload_util.specs.declared.Row.{Row}
use Rattle.payload_util.specs.Refusals.{◌also◌, in_order, Pass}
use Rattle.payload_util.proofs.Guards.{exact_pass, head_and_tail_pass, pass_head_and_tail}
use Rattle.payload_util.proofs.InOrder.{also_none}
use Rattle.payload_util.proofs.Limits.{limit_at, by_limits}
use Rattle.payload_util.proofs.Words.{fits_word, low_byte, high_byte}
use Rattle.payload_util.proofs.Parts.{by_head, ended}
use Rattle.payload_util.proofs.Losses.{length_keep}
use Rattle.payload_util.specs.Law.{Law}
use Rattle.payload_util.proofs.Forms.{fixed_law, tailed_law}
use Rattle.biometric.specs.declared.BioHead.{BioHead}
use Rattle.biometric.specs.Biometric.{highest_type, highest_format, head_of, head_bytes, bio_limits, bio_loss, check_template, templated, bio_read, bio_match}
use Rattle.biometric.proofs.Codes.{bio_type_back, bio_format_back, bio_type_kept, bio_format_kept}

-- The head.

-- it has two limits: type and format
pub head_limits : (row : Row) (code : ℕ) (p : List ℕ)
    → within_limits row code bio_loss p ≡ (limit_at row code highest_type p 1 also limit_at row code highest_format p 2)
unfolding in_order
head_limits row code p = by_limits row code bio_loss p 3 (omega arith) ∙ simp also_none

-- the type is folded, and then the format
pub folded_twice : (p : List ℕ) → keep (only_at 2 highest_format) (keep (only_at 1 highest_type) p) ≡ keep bio_limits p
folded_twice [] = refl
folded_twice (a ∷ []) = refl
folded_twice (a ∷ b ∷ []) = refl
folded_twice (a ∷ b ∷ d ∷ p) = refl

-- the head, written again in front of the rest of the payload, gives the payload without what is lost
pub head_kept : (p : List ℕ) → Bytes p → 4 ≤ length p → head_bytes (head_of p) ++ drop 4 p ≡ without bio_loss p
head_kept p b h =
    by_head 4 p (keep bio_limits) h (simp (bio_type_kept (byte_at p 1) (b 1), bio_format_kept (byte_at p 2) (b 2)))

head_back : (h : BioHead) (t : List ℕ) → head_of (head_bytes h ++ t) ≡ h
head_back h t = simp (bio_type_back, bio_format_back)

pub bio_read_law : Law bio_read
unfolding exact_len
bio_read_law =
    fixed_law
    (λ p b g.
    let e = exact_pass 4 _ p g in
    rw (ended 4 p e) at (head_kept p b (omega arith)))
    (λ p b g. refl) (λ r w. ap (λ (h : BioHead). record { head = h }) (head_back r.head [])) (λ p. simp length_keep) (λ r w. refl)

-- A head with a template, under any code.

module _ (code : ℕ) (p : List ℕ) (g : check_template code p ≡ Pass) where
  pub template_pass : (6 ≤ length p) × (length (drop 6 p) ≡ u16_at p 4)
  unfolding check_template
  template_pass = head_and_tail_pass 6 code p (u16_at p 4) g

  -- the length is written as it was read
  length_kept : Bytes p → u16_bytes (length (drop 6 p)) ++ drop 6 p ≡ drop 4 p
  length_kept b = by_head 6 p (drop 4) template_pass.0 (simp (template_pass.1, low_byte p 4 5 b, high_byte p 4 5 b))

  template_fits : Bytes p → at_most 65535 code (drop 6 p) ≡ Pass
  template_fits b = fits_word p code 6 4 5 b template_pass.1

-- the length field is not folded
length_stays : (p : List ℕ) → u16_at (keep bio_limits p) 4 ≡ u16_at p 4
length_stays [] = refl
length_stays (a ∷ []) = refl
length_stays (a ∷ b ∷ []) = refl
length_stays (a ∷ b ∷ d ∷ p) = refl

template_steady : (code : ℕ) (p : List ℕ) → check_template code (keep bio_limits p) ≡ check_template code p
unfolding check_template at_least declared_len
template_steady code p = simp (length_keep, length_stays)

template_written : (code : ℕ) (h : BioHead) (t : List ℕ) → check_template code (head_bytes h ++ u16_bytes (length t) ++ t) ≡ Pass
unfolding check_template
template_written code h t = pass_head_and_tail 6 code _ _ (omega (arith, mod-add-div (length t) 256))

-- A record whose one field is a head: BIOMATCH, and BIOREADR in crate bio.
module _ {A : Type 0} (wrap : BioHead → A) (head : A → BioHead) (there : (h : BioHead) → head (wrap h) ≡ h) (back : (a : A) → wrap (head a) ≡ a)
    (code : ℕ) where
  pub template_law : Law (templated code wrap head)
  template_law =
      tailed_law 6
      (λ p b g.
      let h = (template_pass code p g).0 in
      simp (there, length_kept code p g b) (head_kept p b (omega arith)))
      (λ p b g. template_fits code p g b)
      (λ a t w. ap wrap (head_back (head a) (u16_bytes (length t) ++ t)) ∙ back a) (λ a t. refl) (λ p u. refl) (template_steady code)
      (λ a t w. template_written code (head a) t)

pub bio_match_law : Law bio_match
bio_match_law = template_law (λ h. record { head = h }) (λ m. m.head) (λ h. refl) (λ m. refl) _
