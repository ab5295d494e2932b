-- A text that is checked in two parts; the test on a word of n bytes, byte by byte; the bytes of a word; and what `all` and `position` answer. Assumes nothing.
use mathlib.Core.Path.{◌≡◌, refl, sym, ap, ap₂, ◌∙◌}
use mathlib.Core.Bool.{Bool, true, false, not, cond, ◌&&◌}
use mathlib.Core.List.{List, [], ◌∷◌}
use Prim.Native.Nat.{ℕ, zero, suc, ◌+◌, ◌-◌, ◌*◌, ◌/◌, ◌%◌, ◌≤◌, ◌<◌}
use native.Mathlib.Omega.{arith}
use borrow.Author.Tests.{eq-eqb, ne_eqb, eqb-true, eqb-false, leb-true, ltb-true}
use lib.Bits.{bit_and, bit_or, and_block, or_block, and_le_r, or_lt, and_zero_r}
use lib.Dec.{leb, ltb, eqb}
use lib.ListN.{length, get_or, take, drop}
use lib.Seq.{take_all, drop-cons, drop-drop}
use Rattle.payload_util.specs.Bytes.{Bytes}
use Rattle.payload_util.specs.Refusals.{◌also◌, in_order, Guard}
use Rattle.payload_util.proofs.InOrder.{also_assoc}
use Rattle.std.proofs.lemmas.Bool.{agree_below, agree_below_at, and_parts}
use Rattle.text.specs.Text.{shown, told, printable_at, printable, bytes_of, KnownWord}
use Rattle.std.specs.Prelude.{Ok, Err, Some}
use Rattle.std.specs.List.{list_all, position_from}
use Rattle.std.specs.Option.{is_some}
use Rattle.std.specs.Simd.{first_chunks}
use Rattle.std.specs.Int.{w64, from_le_bytes}

-- ---- a text, byte by byte and in two parts

-- an answer as a yes or no
abbrev pub passes : Guard → Bool
passes (Ok _) = true
passes (Err e) = false

later : (b : ℕ) (s : List ℕ) (i n : ℕ) → in_order (printable_at (b ∷ s)) (suc i) n ≡ in_order (printable_at s) i n
unfolding in_order
later b s i zero = refl
later b s i (suc n) = ap (λ (g : Guard). printable_at s i also g) (later b s (suc i) n)

first_byte : (b : ℕ) (s : List ℕ) → printable (b ∷ s) ≡ (told (shown b) also printable s)
unfolding printable in_order
first_byte b s = ap (λ (g : Guard). told (shown b) also g) (later b s 0 (length s))

-- the first n bytes, and then the rest
apart : (n : ℕ) (s : List ℕ) → printable s ≡ (printable (take n s) also printable (drop n s))
unfolding printable in_order
apart zero s = refl
apart (suc n) [] = refl
apart (suc n) (b ∷ s) =
    rw (first_byte b s, first_byte b (take n s), apart n s) (sym (also_assoc (told (shown b)) (printable (take n s)) (printable (drop n s))))

-- ---- the test on a word of n bytes

-- what the test computes of w, and of l, which is w without its top bits; o and u are for the two ends, h has the bits that are looked at
abbrev marks : ℕ → ℕ → ℕ → ℕ → ℕ → ℕ
marks o u h w l = bit_and (bit_or (bit_or w (l + o)) (u - l)) h

abbrev bad : ℕ → ℕ → ℕ → ℕ → ℕ → ℕ
bad m o u h w = marks o u h w (bit_and w m)

-- a byte's mark
abbrev mark : Bool → ℕ
mark true = 0
mark false = 128

-- one byte of the masks m, o, u and h is right: nothing carries out of it, and each of the 256 bytes has its mark
abbrev fits : ℕ → ℕ → ℕ → Bool
fits m o u = ltb (m + o) 256 && leb m u

abbrev marked : ℕ → ℕ → ℕ → ℕ → Bool
marked m o u h = agree_below (λ (b : ℕ). eqb (bad m o u h b) (mark (shown b))) (λ b. true) 256

abbrev lane : ℕ → ℕ → ℕ → ℕ → Bool
lane m o u h = fits m o u && marked m o u h

-- n bytes of them are, and no bit further up is looked at
abbrev lanes : ℕ → ℕ → ℕ → ℕ → ℕ → Bool
lanes zero m o u h = leb m u && eqb h 0
lanes (suc n) m o u h = lane (m % 256) (o % 256) (u % 256) (h % 256) && lanes n (m / 256) (o / 256) (u / 256) (h / 256)

right : (m o u h : ℕ) → lane m o u h ≡ true → (m + o < 256) × (m ≤ u) × ((b : ℕ) → b < 256 → bad m o u h b ≡ mark (shown b))
right m o u h t =
    let (f, a) = and_parts (fits m o u) (marked m o u h) t in
    let (s, d) = and_parts (ltb (m + o) 256) (leb m u) f in
    (ltb-true (m + o) 256 s, leb-true m u d, λ b lt. eqb-true (bad m o u h b) (mark (shown b)) (agree_below_at (λ (x : ℕ). eqb (bad m o u h x) (mark (shown x))) (λ x. true) 256 b a lt))

lowest : (n m o u h : ℕ) → lanes (suc n) m o u h ≡ true
    → (lane (m % 256) (o % 256) (u % 256) (h % 256) ≡ true) × (lanes n (m / 256) (o / 256) (u / 256) (h / 256) ≡ true)
lowest n m o u h t = and_parts (lane (m % 256) (o % 256) (u % 256) (h % 256)) (lanes n (m / 256) (o / 256) (u / 256) (h / 256)) t

lanes_le : (n m o u h : ℕ) → lanes n m o u h ≡ true → m ≤ u
lanes_le zero m o u h t = leb-true m u (and_parts (leb m u) (eqb h 0) t).0
lanes_le (suc n) m o u h t =
    let (one, more) = lowest n m o u h t in
    omega (arith, (right (m % 256) (o % 256) (u % 256) (h % 256) one).1, lanes_le n (m / 256) (o / 256) (u / 256) (h / 256) more)

-- neither the sum nor the difference carries: the lowest byte and the rest are marked apart
marks_step : (O U H q l o u h r k : ℕ) → r < 256 → k + o < 256 → k ≤ u → u < 256 → h < 256 → l ≤ U
    → marks (O * 256 + o) (U * 256 + u) (H * 256 + h) (q * 256 + r) (l * 256 + k) ≡ marks O U H q l * 256 + marks o u h r k
marks_step O U H q l o u h r k hr ho hk hu hh hl =
    let over : l * 256 + k + (O * 256 + o) ≡ (l + O) * 256 + (k + o) = omega arith in
    let under : U * 256 + u - (l * 256 + k) ≡ (U - l) * 256 + (u - k) = omega arith in
    let hd : u - k < 256 = omega arith in
    let h1 : bit_or r (k + o) < 256 = or_lt 8 r (k + o) hr ho in
    rw (
      over,
      under,
      or_block 8 q (l + O) r (k + o) hr ho,
      or_block 8 (bit_or q (l + O)) (U - l) (bit_or r (k + o)) (u - k) h1 hd,
      and_block 8 _ H _ h (or_lt 8 (bit_or r (k + o)) (u - k) h1 hd) hh,
    )

split : (x : ℕ) → x ≡ x / 256 * 256 + x % 256
split x = omega arith

same_marks : {o u h w l o' u' h' w' l' : ℕ} → o ≡ o' → u ≡ u' → h ≡ h' → w ≡ w' → l ≡ l' → marks o u h w l ≡ marks o' u' h' w' l'
same_marks eo eu eh ew el = cc

bad_step : (m o u h w : ℕ) → m % 256 + o % 256 < 256 → m % 256 ≤ u % 256 → m / 256 ≤ u / 256
    → bad m o u h w ≡ bad (m / 256) (o / 256) (u / 256) (h / 256) (w / 256) * 256 + bad (m % 256) (o % 256) (u % 256) (h % 256) (w % 256)
bad_step m o u h w fits low high =
    let l = bit_and (w / 256) (m / 256) in
    let k = bit_and (w % 256) (m % 256) in
    let hl : l ≤ m / 256 = and_le_r (w / 256) (m / 256) in
    let hk : k ≤ m % 256 = and_le_r (w % 256) (m % 256) in
    let masked : bit_and w m ≡ l * 256 + k = ap₂ bit_and (split w) (split m) ∙ and_block 8 (w / 256) (m / 256) (w % 256) (m % 256) (omega arith) (omega arith) in
    same_marks (split o) (split u) (split h) (split w) masked
    ∙ marks_step (o / 256) (u / 256) (h / 256) (w / 256) l (o % 256) (u % 256) (h % 256) (w % 256) k
    (omega arith) (omega arith) (omega arith) (omega arith) (omega arith) (omega arith)

-- no byte is marked if neither the lowest nor another is
joined : (t u : Bool) (a : ℕ) → eqb a 0 ≡ u → told (eqb (a * 256 + mark t) 0) ≡ (told t also told u)
joined true true a e = let z : a ≡ 0 = eqb-true a 0 e in ap told (eq-eqb (a * 256 + 0) 0 (omega arith))
joined true false a e = let z : a ≡ 0 → ⊥ = eqb-false a 0 e in ap told (ne_eqb _ _ (λ (h : a * 256 + 0 ≡ 0). z (omega arith)))
joined false u a e = ap told (ne_eqb _ _ (λ (h : a * 256 + 128 ≡ 0). omega arith))

-- if the masks are right, the test on a word of n bytes is the check of its bytes
pub word_test : (n m o u h w : ℕ) → lanes n m o u h ≡ true → told (eqb (bad m o u h w) 0) ≡ printable (bytes_of n w)
unfolding bytes_of printable in_order
word_test zero m o u h w t = rw (eqb-true h 0 (and_parts (leb m u) (eqb h 0) t).1, and_zero_r)
word_test (suc n) m o u h w t =
    let (one, more) = lowest n m o u h t in
    let (sum, difference, byte) = right (m % 256) (o % 256) (u % 256) (h % 256) one in
    rw (
      bad_step m o u h w sum difference (lanes_le n (m / 256) (o / 256) (u / 256) (h / 256) more),
      byte (w % 256) (omega arith),
      first_byte (w % 256) (bytes_of n (w / 256)),
      ← word_test n (m / 256) (o / 256) (u / 256) (h / 256) (w / 256) more,
    )
    (joined (shown (w % 256)) _ (bad (m / 256) (o / 256) (u / 256) (h / 256) (w / 256)) refl)

-- ---- the word of eight bytes

pub known_word : KnownWord
unfolding bytes_of
known_word = refl

-- the n bytes of p from index i on as a number, lowest first
abbrev pub word_of : ℕ → ℕ → List ℕ → ℕ
word_of zero i p = 0
word_of (suc n) i p = word_of n (suc i) p * 256 + get_or p i 0

-- its bytes are those of p
pub word_bytes : (n i : ℕ) (p : List ℕ) → i + n ≤ length p → Bytes p → bytes_of n (word_of n i p) ≡ take n (drop i p)
unfolding bytes_of
word_bytes zero i p h b = refl
word_bytes (suc n) i p h b =
    let low : (word_of n (suc i) p * 256 + get_or p i 0) % 256 ≡ get_or p i 0 = omega (arith, b i) in
    let rest : (word_of n (suc i) p * 256 + get_or p i 0) / 256 ≡ word_of n (suc i) p = omega (arith, b i) in
    rw (low, rest, drop-cons p i 0 (omega arith)) (ap (λ (l : List ℕ). get_or p i 0 ∷ l) (word_bytes n (suc i) p (omega arith) b))

-- the word of eight bytes, as the code reads it
pub word_read : (s : List ℕ) (w : ℕ) → length s ≡ 8 → Bytes s → w ≡ from_le_bytes w64 s → bytes_of 8 w ≡ s
word_read s w l b e =
    let is : w ≡ word_of 8 0 s = omega (arith, e) in
    ap (bytes_of 8) is ∙ word_bytes 8 0 s (omega arith) b ∙ take_all 8 s (omega arith)

-- ---- what `position` answers over the words, and `all` over single bytes

-- a text's answer as a yes or no
abbrev pub all_shown : List ℕ → Bool
all_shown s = passes (printable s)

both : (a b : Bool) → told (a && b) ≡ (told a also told b)
both true b = refl
both false b = refl

-- over single bytes
pub singly : (s : List ℕ) → told (list_all shown s) ≡ printable s
unfolding printable in_order
singly [] = refl
singly (b ∷ s) =
    rw (first_byte b s, ← singly s) (both (shown b) (list_all shown s))

told_shown : (s : List ℕ) → told (all_shown s) ≡ printable s
told_shown s = rw (← singly s) (told_back (list_all shown s))
  where
    told_back : (t : Bool) → told (passes (told t)) ≡ told t
    told_back true = refl
    told_back false = refl

words_told : (n : ℕ) (s : List ℕ) → (told (list_all all_shown (first_chunks 8 n s)) also printable (drop (n * 8) s)) ≡ printable s
words_told zero s = refl
words_told (suc n) s =
    let a = all_shown (take 8 s) in
    let rest = list_all all_shown (first_chunks 8 n (drop 8 s)) in
    let at : drop (suc n * 8) s ≡ drop (n * 8) (drop 8 s) = ap (λ (i : ℕ). drop i s) (omega arith) ∙ sym (drop-drop (n * 8) 8 s) in
    ap (λ (g : Guard). g also printable (drop (suc n * 8) s)) (both a rest)
    ∙ also_assoc (told a) (told rest) (printable (drop (suc n * 8) s))
    ∙ ap₂ ◌also◌ (told_shown (take 8 s)) (ap (λ (t : List ℕ). told rest also printable t) at ∙ words_told n (drop 8 s))
    ∙ sym (apart 8 s)

-- t is the answer to the first n words, and then comes the rest
pub in_words : (n : ℕ) (s : List ℕ) (t : Bool) → t ≡ list_all all_shown (first_chunks 8 n s) → (told t also printable (drop (n * 8) s)) ≡ printable s
in_words n s t e = rw e (words_told n s)

-- a test that answers as a guard does
pub told_is : (t : Bool) (g : Guard) → told t ≡ g → t ≡ passes g
told_is true g e = rw (← e)
told_is false g e = rw (← e)

-- no word is another one if all are good
pub none_other : {X : Type 0} (good : X → Bool) (i : ℕ) (xs : List X) → not (is_some (position_from (λ x. not (good x)) i xs)) ≡ list_all good xs
none_other good i [] = refl
none_other good i (x ∷ xs) = by (good x) (none_other good (i + 1) xs)
  where
    by : (t : Bool) → not (is_some (position_from (λ y. not (good y)) (i + 1) xs)) ≡ list_all good xs
        → not (is_some (cond (not t) (Some i) (position_from (λ y. not (good y)) (i + 1) xs))) ≡ t && list_all good xs
    by true e = e
    by false e = refl
