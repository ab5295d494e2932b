-- Bytes folded in place: a payload is written as it came, and then folded where it is.
-- Assumes nothing.
use mathlib.Core.Path.{◌≡◌, refl, sym, ap, ◌∙◌}
use mathlib.Core.List.{List, [], ◌∷◌, ◌++◌, append_assoc, append-nil}
use Prim.Native.Nat.{ℕ, zero, suc, ◌*◌, ◌≤◌}
use native.Mathlib.Nat.{suc-mul, zero-mul}
use native.Mathlib.Omega.{arith}
use lib.Seq.{take_at, drop_at}
use lib.ListN.{length, get_or, set, take, drop, length-append}
use Rattle.payload_util.specs.Guards.{room}
use Rattle.payload_util.specs.Loss.{Keep, up_to, kept, keep, only_at, times}
use Rattle.payload_util.specs.Writing.{Effect, effect, room_last, put_checked, put}
use Rattle.payload_util.specs.declared.Refusal.{Refusal}
use Rattle.payload_util.proofs.Guards.{no_refusal, also_pass}
use Rattle.payload_util.proofs.Losses.{length_keep}
use Rattle.std.specs.Prelude.{Ok, Err}
use Rattle.payload_util.specs.Refusals.{Outcome, Guard, Pass}

-- one byte
pub only_at_lem : (offset highest : ℕ) (p : List ℕ) → set p offset (kept (up_to highest) (get_or p offset 0)) ≡ keep (only_at offset highest) p
only_at_lem zero h [] = refl
only_at_lem (suc n) h [] = refl
only_at_lem zero h (b ∷ bs) = refl
only_at_lem (suc n) h (b ∷ bs) = ap (λ (l : List ℕ). b ∷ l) (only_at_lem n h bs)

pub only_past : (offset highest : ℕ) (p : List ℕ) → length p ≤ offset → keep (only_at offset highest) p ≡ p
only_past zero h [] e = refl
only_past (suc n) h [] e = refl
only_past zero h (b ∷ bs) e = absurd (omega arith)
only_past (suc n) h (b ∷ bs) e = ap (λ (l : List ℕ). b ∷ l) (only_past n h bs (omega arith))

-- ---- limits one after the other

keep_none : (ls : List Keep) → keep ls [] ≡ []
keep_none [] = refl
keep_none (l ∷ ls) = refl

-- later limits apply to what the earlier ones leave
pub keep_append : (ms ls : List Keep) (p : List ℕ)
    → keep (ms ++ ls) p ≡ take (length ms) (keep ms p) ++ keep ls (drop (length ms) (keep ms p))
keep_append [] ls p = refl
keep_append (m ∷ ms) ls [] = sym (keep_none ls)
keep_append (m ∷ ms) ls (b ∷ bs) = ap (λ (l : List ℕ). kept m b ∷ l) (keep_append ms ls bs)

-- limits before an offset leave the bytes from there on as they are
pub drop_keep : (ls : List Keep) (p : List ℕ) → drop (length ls) (keep ls p) ≡ drop (length ls) p
drop_keep [] p = refl
drop_keep (l ∷ ls) [] = refl
drop_keep (l ∷ ls) (b ∷ bs) = drop_keep ls bs

pub keep_front : (ls : List Keep) (p : List ℕ) → keep ls p ≡ keep ls (take (length ls) p) ++ drop (length ls) p
keep_front [] p = refl
keep_front (l ∷ ls) [] = refl
keep_front (l ∷ ls) (b ∷ bs) = ap (λ (r : List ℕ). kept l b ∷ r) (keep_front ls bs)

pub keep_over : (ls : List Keep) (p r : List ℕ) → length ls ≤ length p → keep ls (p ++ r) ≡ keep ls p ++ r
keep_over [] p r h = refl
keep_over (l ∷ ls) [] r h = absurd (omega arith)
keep_over (l ∷ ls) (b ∷ bs) r h = ap (λ (q : List ℕ). kept l b ∷ q) (keep_over ls bs r (omega arith))

pub times_next : (n : ℕ) (ls : List Keep) → times (suc n) ls ≡ times n ls ++ ls
times_next zero ls = append-nil ls
times_next (suc n) ls = ap (λ (m : List Keep). ls ++ m) (times_next n ls) ∙ sym (append_assoc ls (times n ls) ls)

pub length_times : (n : ℕ) (ls : List Keep) → length (times n ls) ≡ n * length ls
length_times zero ls = sym (zero-mul (length ls))
length_times (suc n) ls = length-append ls (times n ls) ∙ omega (arith, length_times n ls, suc-mul n (length ls))

-- ---- a payload was put, and is folded where it is

module _ (g : Guard) (code : ℕ) (ls : List Keep) (p out : List ℕ) {w : Outcome ℕ} {e : List ℕ}
    (is : ◌≡◌ {A = Effect} (w, e) (put_checked g code p out)) where
  abbrev all : Guard
  all = room_last g (room code (length p) (length out))

  -- it is at the front
  pub put_front : {n : ℕ} → w ≡ Ok n → take (length p) e ≡ p
  put_front {n} h = go all is
    where
      go : (a : Guard) → ◌≡◌ {A = Effect} (w, e) (effect a p out) → take (length p) e ≡ p
      go (Ok _) q = ap (λ (x : Effect). take (length p) x.1) q ∙ take_at p (drop (length p) out) (length p) refl
      go (Err x) q = absurd (no_refusal (sym h ∙ ap (λ (x : Effect). x.0) q))

  same_room : put_checked g code (keep ls p) out ≡ effect all (keep ls p) out
  same_room = ap (λ (n : ℕ). effect (room_last g (room code n (length out))) (keep ls p) out) (length_keep ls p)

  pub folds : {n : ℕ} → w ≡ Ok n → (g ≡ Pass → length ls ≤ length p) → ◌≡◌ {A = Effect} (w, keep ls e) (put_checked g code (keep ls p) out)
  folds {n} h fits = go all refl is ∙ sym same_room
    where
      go : (a : Guard) → all ≡ a → ◌≡◌ {A = Effect} (w, e) (effect a p out) → ◌≡◌ {A = Effect} (w, keep ls e) (effect a (keep ls p) out)
      go (Ok _) pass q =
          ap (λ (x : Effect). (x.0, keep ls x.1)) q
          ∙ simp (keep_over ls p (drop (length p) out) (fits (also_pass g (room code (length p) (length out)) pass).0), length_keep)
      go (Err x) stop q = absurd (no_refusal (sym h ∙ ap (λ (x : Effect). x.0) q))

  pub refuses_all : {r : Refusal} → w ≡ Err r → ◌≡◌ {A = Effect} (w, e) (put_checked g code (keep ls p) out)
  refuses_all {r} h = go all is ∙ sym same_room
    where
      go : (a : Guard) → ◌≡◌ {A = Effect} (w, e) (effect a p out) → ◌≡◌ {A = Effect} (w, e) (effect a (keep ls p) out)
      go (Ok _) q = absurd (no_refusal (sym (ap (λ (x : Effect). x.0) q) ∙ h))
      go (Err x) q = q

-- a payload was put, and q is what f makes of the part of the buffer that has it
pub part_folded : (code : ℕ) (f : List ℕ → List ℕ) (p out : List ℕ) {w : Outcome ℕ} {e q : List ℕ} {n : ℕ} → ((l : List ℕ) → length (f l) ≡ length l)
    → ◌≡◌ {A = Effect} (w, e) (put code p out) → w ≡ Ok n → q ≡ f (take n e) → ◌≡◌ {A = Effect} (Ok n, q ++ drop n e) (put code (f p) out)
part_folded code f p out {w} {e} {q} {n} long is h by = go (room code (length p) (length out)) refl is
  where
    go : (r : Guard) → room code (length p) (length out) ≡ r → ◌≡◌ {A = Effect} (w, e) (effect r p out)
        → ◌≡◌ {A = Effect} (Ok n, q ++ drop n e) (put code (f p) out)
    go (Ok u) fits i =
        let there : e ≡ p ++ drop (length p) out = ap (λ (x : Effect). x.1) i in
        let counts : Ok n ≡ Ok (length p) = sym h ∙ ap (λ (x : Effect). x.0) i in
        let size : n ≡ length p = cc in
        let front : take n e ≡ p = ap (take n) there ∙ take_at p (drop (length p) out) n (sym size) in
        let back : drop n e ≡ drop (length p) out = ap (drop n) there ∙ drop_at p (drop (length p) out) n (sym size) in
        let made : q ≡ f p = by ∙ ap f front in
        rw (made, back, size) (simp (long p, fits))
    go (Err x) stop i = absurd (no_refusal (sym h ∙ ap (λ (y : Effect). y.0) i))
