-- The codes of all records are known if the highest is: what the check of a list goes by. Assumes nothing.
use Rattle.std.proofs.Common.{◌≡◌, refl, sym, ap, ◌∙◌, ℕ, zero, suc, ◌*◌, ◌/◌, ◌%◌, ◌<◌, ◌≤◌, max, Bool, true, false, leb, List, length, take, drop, fold, arith, length-drop}
use Rattle.std.proofs.Math.Nat.{max-le}
use lib.Bits.{bit_and}
use borrow.Author.Tests.{leb-true, leb-false, le-leb, lt-leb}
use Rattle.std.specs.Simd.{first_chunks}
use Rattle.std.specs.Int.{w32, from_le_bytes}
use Rattle.std.proofs.lemmas.List.{take-append-drop, length-take-le}
use Rattle.std.proofs.lemmas.Nat.Bits.{and_high}
use Rattle.payload_util.specs.Bytes.{byte_at, Bytes}
use Rattle.payload_util.specs.Refusals.{◌also◌, Guard, refusal, require}
use Rattle.payload_util.specs.Outcome.{guard_of}
use Rattle.payload_util.specs.declared.Row.TheVariants.{UnknownOutputCode}
use Rattle.payload_util.proofs.InOrder.{also_assoc, also_none}
use Rattle.output.specs.Output.{out_code, read_output_code, codes_known, code_in_place}
use Rattle.output.proofs.Laws.{low_known, high_unknown, codes_of_record, no_codes}

-- the code in its place, as the code reads it
pub in_place : (s : List ℕ) (w : ℕ) → length s ≡ 4 → Bytes s → w ≡ from_le_bytes w32 s → bit_and w 0xFF00 ≡ code_in_place s
in_place s w l b e =
    let at : w / 256 % 256 ≡ byte_at s 1 = omega (arith, e, b 0, b 1, b 2, b 3) in
    and_high w 8 8 ∙ ap (λ (x : ℕ). x * 256) at

-- row 7, unless so much is at most 6 in its place
abbrev pub limited : ℕ → Guard
limited most = require (leb most 0x600) (refusal UnknownOutputCode out_code 0 0)

one_limited : (b : ℕ) → guard_of (read_output_code b) ≡ limited (b * 256)
one_limited b = by (leb b 6) refl
  where
    by : (t : Bool) → leb b 6 ≡ t → guard_of (read_output_code b) ≡ limited (b * 256)
    by true e =
        let l : b ≤ 6 = leb-true b 6 e in
        let k : b * 256 ≤ 0x600 = omega arith in
        rw (low_known b l, le-leb (b * 256) 0x600 k)
    by false e =
        let h : 6 < b = leb-false b 6 e in
        let k : 0x600 < b * 256 = omega arith in
        rw (high_unknown b h, lt-leb (b * 256) 0x600 k)

both_limited : (a b : ℕ) → limited (max a b) ≡ (limited a also limited b)
both_limited a b = by (leb a 0x600) (leb b 0x600) refl refl
  where
    by : (t u : Bool) → leb a 0x600 ≡ t → leb b 0x600 ≡ u → limited (max a b) ≡ (limited a also limited b)
    by true true e f = rw (e, f, le-leb (max a b) 0x600 (max-le (leb-true a 0x600 e) (leb-true b 0x600 f)))
    by true false e f =
        let l : 0x600 < b = leb-false b 0x600 f in
        let k : 0x600 < max a b = omega arith in
        rw (e, f, lt-leb (max a b) 0x600 k)
    by false u e f =
        let l : 0x600 < a = leb-false a 0x600 e in
        let k : 0x600 < max a b = omega arith in
        rw (e, lt-leb (max a b) 0x600 k)

pub highest_of : (n : ℕ) (s : List ℕ) (most : ℕ) → length s / 4 ≡ n
    → limited (fold (λ m r. max m (code_in_place r)) most (first_chunks 4 n s)) ≡ (limited most also codes_known s)
highest_of zero s most h = rw (no_codes s (omega arith)) (sym (also_none (limited most)))
highest_of (suc n) s most h =
    let rest = drop 4 s in
    let code = code_in_place (take 4 s) in
    let l : length rest / 4 ≡ n = omega (arith, length-drop 4 s) in
    let four : length (take 4 s) ≡ 4 = length-take-le 4 s (omega arith) in
    highest_of n rest (max most code) l
    ∙ ap (λ (g : Guard). g also codes_known rest) (both_limited most code)
    ∙ also_assoc (limited most) (limited code) (codes_known rest)
    ∙ ap (λ (g : Guard). limited most also g)
    (ap (λ (g : Guard). g also codes_known rest) (sym (one_limited (byte_at (take 4 s) 1))) ∙ sym (codes_of_record (take 4 s) rest s (sym (take-append-drop 4 s)) four))
