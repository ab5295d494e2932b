-- Parts of a list: a copy part by part, a head and a tail put into a buffer, and a payload's first bytes one by one.
-- Assumes nothing.
use mathlib.Core.Path.{◌≡◌, sym, ap, ◌∙◌}
use mathlib.Core.List.{List, [], ◌∷◌, ◌++◌}
use Prim.Native.Nat.{ℕ, zero, suc, ◌+◌, ◌≤◌}
use native.Mathlib.Nat.{add-zero, zero-add}
use native.Mathlib.Omega.{arith}
use lib.ListN.{length, get_or, take, drop, length-append, drop_of_length-le}
use lib.Seq.{paste, take-length, take-append_seam, drop-append-add, drop-cons, drop-drop}
use Rattle.payload_util.specs.Guards.{room}
use Rattle.payload_util.specs.Writing.{put}
use Rattle.std.specs.Prelude.{Ok, Err}
use Rattle.payload_util.specs.Refusals.{Pass}
use Rattle.payload_util.specs.declared.Refusal.{Refusal}

-- e is the block d with s at its front
pub front : (d s e : List ℕ) → e ≡ paste d 0 s (length s) → take (length s) e ≡ s
front d s e p = simp (p, take-length, zero-add, take-append_seam)

-- d is the buffer with the head, and e is d with the tail after it
pub two_parts : (code : ℕ) (h t out d e : List ℕ) → room code (length h + length t) (length out) ≡ Pass
    → d ≡ paste out 0 h (length h) → e ≡ paste d (length h) t (length t)
    → (Ok (length h + length t), e) ≡ put code (h ++ t) out
two_parts code h t out d e fits p q =
    simp (length-append, fits, q, p, take-length, zero-add, take-append_seam, drop-append-add, drop-drop)

-- d is the buffer with the head, e is d with the body after it, and g is e with the tail after both
pub three_parts : (code n : ℕ) (h b t out d e g : List ℕ) → n ≡ length h + length b + length t → room code n (length out) ≡ Pass
    → d ≡ paste out 0 h (length h) → e ≡ paste d (length h) b (length b) → g ≡ paste e (length h + length b) t (length t)
    → (Ok n, g) ≡ put code ((h ++ b) ++ t) out
three_parts code n h b t out d e g is fits p q r =
    let l : length h + length b ≡ length (h ++ b) = sym (length-append h b) in
    let both : e ≡ paste out 0 (h ++ b) (length (h ++ b)) = rw (take-length, ← l) (simp (q, p, take-length, zero-add, take-append_seam, drop-append-add, drop-drop)) in
    rw (is, l) (two_parts code (h ++ b) t out e g (rw (← l, ← is) fits) both (rw (← l) r))

-- ---- a payload's first n bytes, one by one

abbrev pub spell : ℕ → ℕ → List ℕ → List ℕ
spell zero j p = []
spell (suc n) j p = get_or p j 0 ∷ spell n (suc j) p

spelled : (n j : ℕ) (p : List ℕ) → j + n ≤ length p → drop j p ≡ spell n j p ++ drop (j + n) p
spelled zero j p h = ap (λ (k : ℕ). drop k p) (sym (add-zero j))
spelled (suc n) j p h =
    drop-cons p j 0 (omega arith)
    ∙ (let e : suc j + n ≡ j + suc n = omega arith in
    ap (λ (l : List ℕ). get_or p j 0 ∷ l) (spelled n (suc j) p (omega arith) ∙ ap (λ (k : ℕ). spell n (suc j) p ++ drop k p) e))

-- to show what a function gives for a payload, show what it gives for the bytes one by one
pub by_head : {B : Type 0} (n : ℕ) (p : List ℕ) (f : List ℕ → B) {b : B} → n ≤ length p → b ≡ f (spell n 0 p ++ drop n p) → b ≡ f p
by_head n p f h e =
    e ∙ ap f (ap (λ (k : ℕ). spell n 0 p ++ drop k p) (sym (zero-add n)) ∙ sym (spelled n 0 p (omega arith)))

-- nothing follows n bytes
pub ended : (n : ℕ) (p : List ℕ) → length p ≡ n → drop n p ≡ []
ended n p e = drop_of_length-le p {i = n} (omega arith)

-- a list that does not fit is not written
pub put_refused : {n : ℕ} {e : Refusal} (code : ℕ) (bs out : List ℕ) → n ≡ length bs → room code n (length out) ≡ Err e → put code bs out ≡ (Err e, out)
put_refused code bs out l r = let s : room code (length bs) (length out) ≡ Err _ = ap (λ (m : ℕ). room code m (length out)) (sym l) ∙ r in simp s
