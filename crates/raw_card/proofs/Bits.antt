-- Where a bit is among all bits of a list of bytes.
-- Assumes nothing.
use mathlib.Core.Path.{◌≡◌, refl, ◌∙◌}
use mathlib.Core.List.{List, [], ◌∷◌, ◌++◌}
use Prim.Native.Nat.{ℕ, zero, suc, ◌+◌, ◌-◌, ◌*◌, ◌/◌, ◌%◌, ◌^◌, ◌<◌, min}
use native.Mathlib.Omega.{arith}
use lib.ListN.{length, get_or, take}
use lib.Seq.{length-take-le, get_or-append-add}
use Rattle.std.proofs.lemmas.Nat.{and_mask}
use Rattle.std.specs.Prelude.{bit_and}
use Rattle.raw_card.specs.Raw.{byte_bits, all_bits}

pub length_all : (bs : List ℕ) → length (all_bits bs) ≡ 8 * length bs
unfolding all_bits
length_all [] = refl
length_all (b ∷ bs) = let e = length_all bs in omega arith

-- n is how many bits are given
pub length_bits : {n : ℕ} (count : ℕ) (bs : List ℕ) → n ≡ min count (8 * length bs) → length (take n (all_bits bs)) ≡ n
length_bits {n} count bs e = length-take-le n (all_bits bs) (omega (arith, length_all bs))

-- bit k of a byte, from the top
bit_of : (b k : ℕ) (rest : List ℕ) → k < 8 → b / 2 ^ (7 - k) % 2 ≡ get_or (byte_bits b ++ rest) k 0
bit_of b zero rest h = refl
bit_of b (suc zero) rest h = refl
bit_of b (suc (suc zero)) rest h = refl
bit_of b (suc (suc (suc zero))) rest h = refl
bit_of b (suc (suc (suc (suc zero)))) rest h = refl
bit_of b (suc (suc (suc (suc (suc zero))))) rest h = refl
bit_of b (suc (suc (suc (suc (suc (suc zero)))))) rest h = refl
bit_of b (suc (suc (suc (suc (suc (suc (suc zero))))))) rest h = omega arith
bit_of b (suc (suc (suc (suc (suc (suc (suc (suc k)))))))) rest h = absurd (omega arith)

-- bit k of byte i among all bits
bit_in : (bs : List ℕ) (i k : ℕ) → i < length bs → k < 8 → get_or bs i 0 / 2 ^ (7 - k) % 2 ≡ get_or (all_bits bs) (8 * i + k) 0
unfolding all_bits
bit_in [] i k h l = absurd (omega arith)
bit_in (b ∷ bs) zero k h l = let z : 8 * 0 + k ≡ k = omega arith in rw z (bit_of b k (all_bits bs) l)
bit_in (b ∷ bs) (suc i) k h l =
    let s : 8 * suc i + k ≡ 8 + (8 * i + k) = omega arith in
    let here : get_or (byte_bits b ++ all_bits bs) (8 + (8 * i + k)) 0 ≡ get_or (all_bits bs) (8 * i + k) 0 = get_or-append-add (byte_bits b) (all_bits bs) (8 * i + k) 0 in
    rw (s, here) (bit_in bs i k (omega arith) l)

pub bit_at : (bs : List ℕ) (i k : ℕ) → i < length bs → k < 8 → bit_and (get_or bs i 0 / 2 ^ (7 - k)) 1 ≡ get_or (all_bits bs) (8 * i + k) 0
bit_at bs i k h l = and_mask (get_or bs i 0 / 2 ^ (7 - k)) 1 ∙ bit_in bs i k h l
