-- A buffer into which bytes are written at a place, and one into which a list's records are written one after the other.
-- Assumes nothing.
use mathlib.Core.Path.{◌≡◌, refl, sym, ◌∙◌, ap, ap₂}
use mathlib.Core.List.{List, [], ◌∷◌, ◌++◌, append_assoc, append-nil}
use Prim.Native.Nat.{ℕ, suc, ◌+◌, ◌*◌, ◌-◌, ◌≤◌, ◌<◌}
use native.Mathlib.Nat.{suc-mul, zero-mul, mul-le-mul_right}
use native.Mathlib.Numerals.{add-one}
use native.Mathlib.Omega.{arith}
use lib.ListN.{length, take, drop, get_or, length-append, length-drop, drop_of_length-le}
use borrow.Author.Tests.{lt-ltb}
use Rattle.std.proofs.lemmas.List.{take_rest}
use lib.Seq.{take-suc, take_at, take-length, drop-append-add, drop-drop, length-take-le}
use Rattle.payload_util.specs.Bytes.{flat}
use Rattle.payload_util.specs.Refusals.{◌also◌, Outcome, Guard, Pass}
use Rattle.payload_util.specs.Guards.{room, not_empty}
use Rattle.payload_util.specs.Writing.{Effect, effect, put, put_checked}
use Rattle.payload_util.specs.declared.Refusal.{Refusal}
use Rattle.payload_util.proofs.Guards.{no_refusal, room_pass, pass_room, also_pass}
use Rattle.payload_util.proofs.Each.{length_flat}
use Rattle.lists.specs.List.{answer, list_answer, put_at}
use Rattle.std.specs.Prelude.{Ok, Err}

-- bytes that were put at the front of the part that starts at a place; e is that part afterwards
module _ (code at : ℕ) (bytes out e : List ℕ) (r : Outcome ℕ) where
  pub placed : room code (at + length bytes) (length out) ≡ Pass
      → (r, e) ≡ put code bytes (take (length out - at) (drop at out))
      → (r, take at out ++ (e ++ drop (length out - at) (drop at out))) ≡ put_at code at bytes out
  placed fits h =
      let l = room_pass code (at + length bytes) (length out) fits in
      let end : length out ≤ at + (length out - at) = omega arith in
      let w : ◌≡◌ {A = Effect} (r, e) (Ok (length bytes), bytes ++ drop (length bytes) (drop at out)) =
      h ∙ simp (take_rest, pass_room code (length bytes) (length (drop at out)) (simp length-drop (omega arith))) in
      ap (λ (x : Effect). (x.0, take at out ++ (x.1 ++ drop (length out - at) (drop at out)))) w
      ∙ simp (fits, drop-drop, drop_of_length-le out end, append-nil)

-- a part that does not fit is not written
pub not_placed : (code at : ℕ) (bytes out : List ℕ) {r : Refusal} → room code (at + length bytes) (length out) ≡ Err r
    → put_at code at bytes out ≡ (Err r, out)
not_placed code at bytes out h = simp h

-- ---- records of one size

-- the buffer after k records of a list
abbrev pub state : {X : Type 0} → (X → List ℕ) → ℕ → List X → List ℕ → ℕ → List ℕ
state bytes size xs o k = flat bytes (take k xs) ++ drop (k * size) o

module _ {X : Type 0} (bytes : X → List ℕ) (size : ℕ) (fixed : (x : X) → length (bytes x) ≡ size) where
  flat_append : (a b : List X) → flat bytes (a ++ b) ≡ flat bytes a ++ flat bytes b
  flat_append [] b = refl
  flat_append (x ∷ a) b =
      ap (λ (l : List ℕ). bytes x ++ l) (flat_append a b) ∙ sym (append_assoc (bytes x) (flat bytes a) (flat bytes b))

  -- the guards by the count are the guards by the list
  answer_is : (code : ℕ) (xs : List X) (o : List ℕ)
      → list_answer (length xs) size code (length o)
      ≡ answer (not_empty code xs also room code (length (flat bytes xs)) (length o)) (length xs * size)
  unfolding list_answer
  answer_is code [] o = refl
  answer_is code (x ∷ xs) o = rw (lt-ltb 0 (suc (length xs)) (omega arith), length_flat bytes size fixed (x ∷ xs))

  module _ (code : ℕ) (xs : List X) (o : List ℕ) where
    pub state_start : state bytes size xs o 0 ≡ o
    state_start = ap (λ (n : ℕ). drop n o) (zero-mul size)

    front : (k : ℕ) → k ≤ length xs → length (flat bytes (take k xs)) ≡ k * size
    front k h = length_flat bytes size fixed (take k xs) ∙ ap (λ (n : ℕ). n * size) (length-take-le k xs h)

    state_length : length xs * size ≤ length o → (k : ℕ) → k ≤ length xs → length (state bytes size xs o k) ≡ length o
    state_length f k h =
        let e = front k h in
        let g = mul-le-mul_right size h in
        simp (length-append, length-drop) (omega arith)

    -- one record more, at its place
    state_step : length xs * size ≤ length o → (none : X) (k : ℕ) → k < length xs
        → (put_at code (k * size) (bytes (get_or xs k none)) (state bytes size xs o k)).1 ≡ state bytes size xs o (suc k)
    state_step f none k h =
        let p = flat bytes (take k xs) in
        let r = bytes (get_or xs k none) in
        let e : length p ≡ k * size = front k (omega arith) in
        let s : length r ≡ size = fixed (get_or xs k none) in
        let next : flat bytes (take (suc k) xs) ≡ p ++ (r ++ []) =
        ap (flat bytes) (take-suc xs k none h) ∙ flat_append (take k xs) (get_or xs k none ∷ []) in
        let now : List ℕ = state bytes size xs o k in
        let rest : drop (k * size + size) now ≡ drop (k * size + size) o =
        ap (λ (n : ℕ). drop (n + size) now) (sym e) ∙ drop-append-add p (drop (k * size) o) size ∙ drop-drop size (k * size) o in
        let fits : k * size + size ≤ length now =
        omega (arith, state_length f k (omega arith), mul-le-mul_right size h, suc-mul k size) in
        simp (
          s,
          pass_room code (k * size + size) (length (state bytes size xs o k)) fits,
          take_at p (drop (k * size) o) (k * size) e,
          rest,
          next,
          suc-mul k size,
          append_assoc,
        )

    -- the same, as a loop's turn has it: e is the buffer after the writer of a record that was read from the list
    pub turn : {w : Outcome ℕ} {now e : List ℕ} (none : X) (k : ℕ) → length xs * size ≤ length o → k < length xs
        → now ≡ state bytes size xs o k → ◌≡◌ {A = Effect} (w, e) (put_at code (k * size) (bytes (get_or xs k none)) now)
        → e ≡ state bytes size xs o (k + 1)
    turn none k f h at put =
        ap (λ (x : Effect). x.1) put ∙ ap (λ (l : List ℕ). (put_at code (k * size) (bytes (get_or xs k none)) l).1) at
        ∙ state_step f none k h ∙ rw add-one

    -- for a function that first takes the answer, as `list_answer` gives it, and then writes the records
    module _ {a : Outcome ℕ} (q : a ≡ list_answer (length xs) size code (length o)) where
      abbrev guard : Guard
      guard = not_empty code xs also room code (length (flat bytes xs)) (length o)

      known : a ≡ answer guard (length xs * size)
      known = q ∙ answer_is code xs o

      pub refused_is : {e : Refusal} → a ≡ Err e → ◌≡◌ {A = Effect} (Err e, o) (put_checked (not_empty code xs) code (flat bytes xs) o)
      refused_is {e} p = go guard known
        where
          go : (g : Guard) → a ≡ answer g (length xs * size) → ◌≡◌ {A = Effect} (Err e, o) (effect g (flat bytes xs) o)
          go (Ok _) r = absurd (no_refusal (sym r ∙ p))
          go (Err x) r = ap (λ (y : Outcome ℕ). (y, o)) (sym p ∙ r)

      pub records_fit : {n : ℕ} → a ≡ Ok n → length xs * size ≤ length o
      records_fit {n} p = go guard refl known
        where
          go : (g : Guard) → guard ≡ g → a ≡ answer g (length xs * size) → length xs * size ≤ length o
          go (Ok _) e r = omega (arith, length_flat bytes size fixed xs, room_pass code (length (flat bytes xs)) (length o) (also_pass (not_empty code xs) _ e).1)
          go (Err x) e r = absurd (no_refusal (sym p ∙ r))

      pub written_is : {n : ℕ} {now : List ℕ} (k : ℕ) → a ≡ Ok n → now ≡ state bytes size xs o k → k ≡ length xs
          → ◌≡◌ {A = Effect} (Ok n, now) (put_checked (not_empty code xs) code (flat bytes xs) o)
      written_is {n} {now} k p at all = go guard known
        where
          end : now ≡ flat bytes xs ++ drop (length (flat bytes xs)) o
          end = at ∙ rw (all, take-length, ← length_flat bytes size fixed xs)

          go : (g : Guard) → a ≡ answer g (length xs * size) → ◌≡◌ {A = Effect} (Ok n, now) (effect g (flat bytes xs) o)
          go (Ok _) r = ap₂ {C = Effect} (λ y l. (y, l)) (sym p ∙ r ∙ ap Ok (sym (length_flat bytes size fixed xs))) end
          go (Err x) r = absurd (no_refusal (sym p ∙ r))
