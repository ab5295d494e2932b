-- The laws of OUT's codes, and OUT's law.
-- Assumes nothing.
use mathlib.Core.Path.{◌≡◌, refl, sym, ap, ap₂, ◌∙◌}
use mathlib.Core.Bool.{Bool, true, false}
use mathlib.Core.List.{List, [], ◌∷◌, ◌++◌, append-nil}
use Prim.Native.Nat.{ℕ, zero, suc, ◌+◌, ◌*◌, ◌/◌, ◌≤◌, ◌<◌, min}
use native.Mathlib.Nat.{mod-add-div}
use native.Mathlib.Omega.{arith}
use lib.ListN.{get_or-append, length-append, length, drop, length-drop}
use lib.Seq.{get_or-drop}
use borrow.Author.Tests.{leb-true, leb-false, le-leb}
use lib.Dec.{leb}
use Rattle.std.proofs.lemmas.Bool.Decides.{nat_tests}
use Rattle.std.proofs.lemmas.List.{nil_from_length, get_or-append-add}
use Rattle.payload_util.specs.Bytes.{byte_at, flat}
use Rattle.payload_util.specs.Refusals.{◌also◌, in_order, Guard, Pass, refusal}
use Rattle.payload_util.specs.Guards.{at_least, positive_multiple_of}
use Rattle.payload_util.specs.Outcome.{guard_of, value_or}
use Rattle.payload_util.specs.Form.{check}
use Rattle.payload_util.proofs.Guards.{also_pass, multiple_pass, pass_multiple}
use Rattle.payload_util.proofs.InOrder.{all_pass, pass_all, in_two, shifted, also_none}
use Rattle.payload_util.proofs.Table.{exact, exact_value}
use Rattle.payload_util.proofs.Words.{low_byte, high_byte}
use Rattle.payload_util.proofs.Parts.{by_head}
use Rattle.payload_util.proofs.Each.{each_kept}
use Rattle.payload_util.specs.Law.{Law}
use Rattle.payload_util.proofs.Forms.{listed_law}
use Rattle.output.specs.Output.{out_code, output_byte, output_codes, read_output_code, code_known, codes_known, out_of, read_out_at, out_bytes, outputs}
use Rattle.output.specs.declared.OutputRecord.{OutputRecord}
use Rattle.output.specs.declared.OutputControlCode.{OutputControlCode}
use Rattle.output.specs.declared.OutputControlCode.TheVariants.{Nop}
use Rattle.std.specs.Prelude.{Ok, Err}
use Rattle.payload_util.specs.declared.Row.TheVariants.{UnknownOutputCode}

-- a code's byte reads back as the code
pub output_back : (c : OutputControlCode) → read_output_code (output_byte c) ≡ Ok c
unfolding read_output_code
output_back c = grind arith

-- a byte that reads as a code is that code's byte
pub output_exact : (b : ℕ) (c : OutputControlCode) → read_output_code b ≡ Ok c → output_byte c ≡ b
unfolding read_output_code
output_exact b c e = exact output_byte (refusal UnknownOutputCode out_code 0 0) output_codes b c e

output_kept : (b : ℕ) → guard_of (read_output_code b) ≡ Pass → output_byte (value_or Nop (read_output_code b)) ≡ b
unfolding read_output_code
output_kept b e = exact_value output_byte (refusal UnknownOutputCode out_code 0 0) output_codes b Nop e

-- the bytes up to 6 are codes
pub low_known : (b : ℕ) → b ≤ 6 → guard_of (read_output_code b) ≡ Pass
unfolding read_output_code
low_known zero h = refl
low_known (suc zero) h = refl
low_known (suc (suc zero)) h = refl
low_known (suc (suc (suc zero))) h = refl
low_known (suc (suc (suc (suc zero)))) h = refl
low_known (suc (suc (suc (suc (suc zero))))) h = refl
low_known (suc (suc (suc (suc (suc (suc zero)))))) h = refl
low_known (suc (suc (suc (suc (suc (suc (suc b))))))) h = absurd (omega arith)

pub high_unknown : (b : ℕ) → 6 < b → guard_of (read_output_code b) ≡ Err (refusal UnknownOutputCode out_code 0 0)
unfolding read_output_code
high_unknown b h = grind (arith, nat_tests)

-- ---- the codes of records, part by part

same_codes : (f g : ℕ → Guard) (i n : ℕ) → ((k : ℕ) → k < i + n → f k ≡ g k) → in_order f i n ≡ in_order g i n
unfolding in_order
same_codes f g i zero h = refl
same_codes f g i (suc n) h = ap₂ {C = Guard} (λ a b. a also b) (h i (omega arith)) (same_codes f g (suc i) n (λ k lt. h k (omega arith)))

-- whole records, and then the others
pub codes_split : (m : ℕ) (a b : List ℕ) → length a ≡ 4 * m → codes_known (a ++ b) ≡ (codes_known a also codes_known b)
unfolding codes_known
codes_split m a b e =
    let all : length (a ++ b) / 4 ≡ m + length b / 4 = simp length-append (omega arith) in
    let front : length a / 4 ≡ m = omega arith in
    let z : 0 + m ≡ m + 0 = omega arith in
    rw (all, front) (in_two (code_known (a ++ b)) 0 m (length b / 4)
    ∙ ap₂ {C = Guard} (λ x y. x also y)
    (same_codes (code_known (a ++ b)) (code_known a) 0 m (λ k lt. ap (λ (c : ℕ). guard_of (read_output_code c)) (get_or-append a b 0 (4 * k + 1) (omega arith))))
    (ap (λ (i : ℕ). in_order (code_known (a ++ b)) i (length b / 4)) z ∙ shifted (code_known (a ++ b)) m 0 (length b / 4)
    ∙ same_codes (λ k. code_known (a ++ b) (m + k)) (code_known b) 0 (length b / 4) (λ k lt.
    let at : 4 * (m + k) + 1 ≡ length a + (4 * k + 1) = omega arith in
    ap (λ (c : ℕ). guard_of (read_output_code c)) (ap (λ (i : ℕ). byte_at (a ++ b) i) at ∙ get_or-append-add a b (4 * k + 1) 0))))

-- nothing is left after the last part
pub codes_of_part : (x r s : List ℕ) → s ≡ x ++ r → length x ≡ min 16 (length s) → codes_known s ≡ (codes_known x also codes_known r)
unfolding codes_known in_order
codes_of_part x r s e l = go (leb 16 (length s)) refl
  where
    total : length s ≡ length x + length r
    total = ap length e ∙ length-append x r

    go : (t : Bool) → leb 16 (length s) ≡ t → codes_known s ≡ (codes_known x also codes_known r)
    go true g = ap codes_known e ∙ codes_split 4 x r (omega (arith, leb-true _ _ g))
    go false g =
        let none : length r ≡ 0 = omega (arith, total, leb-false _ _ g) in
        let nil : r ≡ [] = nil_from_length r none in
        ap codes_known (e ∙ ap (λ (l : List ℕ). x ++ l) nil ∙ append-nil x) ∙ sym (also_none (codes_known x))
        ∙ ap (λ (l : List ℕ). codes_known x also codes_known l) (sym nil)

one_code : (x : List ℕ) → length x ≡ 4 → codes_known x ≡ guard_of (read_output_code (byte_at x 1))
unfolding codes_known in_order
one_code x l =
    let n : length x / 4 ≡ 1 = omega arith in
    rw n (also_none (guard_of (read_output_code (byte_at x 1))))

-- one record, and then the others
pub codes_of_record : (x r s : List ℕ) → s ≡ x ++ r → length x ≡ 4
    → codes_known s ≡ (guard_of (read_output_code (byte_at x 1)) also codes_known r)
codes_of_record x r s e l = ap codes_known e ∙ codes_split 1 x r (omega arith) ∙ ap (λ (g : Guard). g also codes_known r) (one_code x l)

-- no record is left
pub no_codes : (s : List ℕ) → length s < 4 → codes_known s ≡ Pass
unfolding codes_known in_order
no_codes s h =
    let n : length s / 4 ≡ 0 = omega arith in
    rw n

pub four_pass : (p : List ℕ) → length p ≡ 16 → byte_at p 1 ≤ 6 → byte_at p 5 ≤ 6 → byte_at p 9 ≤ 6 → byte_at p 13 ≤ 6 → codes_known p ≡ Pass
unfolding in_order codes_known
four_pass p l a b c d =
    let e : length p / 4 ≡ 4 = omega arith in
    rw e (rw (low_known _ a, low_known _ b, low_known _ c, low_known _ d))

module _ (p : List ℕ) (g : check outputs p ≡ Pass) where
  out_blocks : (length p ≡ length p / 4 * 4) × (0 < length p / 4)
  out_blocks = multiple_pass 4 out_code p (also_pass (positive_multiple_of 4 out_code p) (codes_known p) g).0

  out_codes : (k : ℕ) → k < length p / 4 → code_known p k ≡ Pass
  unfolding codes_known
  out_codes = all_pass (code_known p) (length p / 4) (also_pass (positive_multiple_of 4 out_code p) (codes_known p) g).1

  -- each record of an accepted list can be read by itself
  pub record_reads : (k : ℕ) → k < length p / 4 → read_out_at (drop (4 * k) p) ≡ Ok (out_of (drop (4 * k) p))
  unfolding at_least
  record_reads k h =
      let long : 4 ≤ length (drop (4 * k) p) = simp length-drop (omega arith) in
      simp (le-leb 4 (length (drop (4 * k) p)) long, get_or-drop (4 * k) p 1 0, out_codes k h)

-- the codes of records are known in their bytes
code_written : (rs : List OutputRecord) (k : ℕ) → k < length rs → code_known (flat out_bytes rs) k ≡ Pass
code_written [] k h = absurd (omega arith)
code_written (r ∷ rs) zero h = simp output_back
code_written (r ∷ rs) (suc k) h =
    let e : 4 * suc k + 1 ≡ suc (suc (suc (suc (4 * k + 1)))) = omega arith in
    rw e (code_written rs k (omega arith))

written_codes : (rs : List OutputRecord) → length (flat out_bytes rs) ≡ length rs * 4 → codes_known (flat out_bytes rs) ≡ Pass
unfolding codes_known
written_codes rs e =
    pass_all (code_known (flat out_bytes rs)) (length (flat out_bytes rs) / 4) (λ k h. code_written rs k (omega (arith, ap (λ (n : ℕ). n / 4) e)))

-- what is written is accepted
out_written : (rs : List OutputRecord) → 0 < length rs → length (flat out_bytes rs) ≡ length rs * 4 → check outputs (flat out_bytes rs) ≡ Pass
out_written rs some e = simp (pass_multiple 4 out_code (flat out_bytes rs) (length rs) (omega arith) some e, written_codes rs e)

pub out_law : Law outputs
out_law =
    listed_law (λ r. refl) (λ r t. simp (mod-add-div, output_back)) (omega arith) (λ p g. (out_blocks p g).1)
    (λ p b g.
    each_kept out_of out_bytes 4 (λ n q. (k : ℕ) → k < n → code_known q k ≡ Pass) (λ n q. q) refl
    (λ n q c h known. (
      by_head 4 q (λ l. l) h (simp (low_byte, high_byte, output_kept (byte_at q 1) (known 0 (omega arith)))),
      (λ k lt.
          let e : 4 + (4 * k + 1) ≡ 4 * suc k + 1 = omega arith in
          simp (get_or-drop, e) (known (suc k) (omega arith))),
    ))
    (length p / 4) p b (out_blocks p g).0 (out_codes p g))
    (λ p. refl)
    out_written
