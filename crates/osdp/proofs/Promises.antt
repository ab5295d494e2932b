-- What a user relies on follows from the kinds' laws.
-- Assumes nothing.
use mathlib.Core.Path.{◌≡◌, refl, sym, ap, subst, ◌∙◌}
use mathlib.Core.List.{List, ◌++◌}
use Prim.Native.Nat.{ℕ, ◌≤◌}
use native.Mathlib.Omega.{arith}
use lib.ListN.{length, take, drop}
use Rattle.payload_util.specs.Bytes.{Bytes}
use Rattle.payload_util.specs.Refusals.{◌also◌, Outcome, Guard, Pass}
use Rattle.payload_util.specs.Guards.{room}
use Rattle.payload_util.specs.Writing.{Effect, effect, room_last, put_checked, rewrite}
use Rattle.payload_util.specs.Loss.{limits, without, limited, within_limits}
use Rattle.payload_util.specs.Form.{code, loss, check as check_of, normalise as normalise_of}
use Rattle.payload_util.specs.declared.Refusal.{Refusal}
use Rattle.payload_util.proofs.Guards.{no_refusal, check_pass, also_pass, pass_room}
use Rattle.payload_util.proofs.InOrder.{all_pass}
use Rattle.payload_util.proofs.Losses.{without_le, kept_all, kept_whole}
use Rattle.payload_util.proofs.Scheme.{wrote, counted, normalise_is}
use Rattle.led.specs.declared.Generation.{Generation}
use Rattle.led.specs.declared.Generation.TheVariants.{Second}
use Rattle.osdp.specs.declared.Side.{Side}
use Rattle.osdp.specs.declared.Kind.{Kind}
use Rattle.osdp.specs.declared.Kind.TheVariants.{Nak}
use Rattle.osdp.specs.Kinds.{form, kind_of}
use Rattle.payload_util.specs.declared.Row.TheVariants.{Folded}
use Rattle.osdp.specs.ByCode.{kind_for, check, added, strict_of, strict, normalise}
use Rattle.osdp.specs.Signed.{Short}
use Rattle.osdp.specs.Promises.{LosesNothing, Promises}
use Rattle.osdp.proofs.Laws.{law, uncut, no_limits, second_alike, second_passes}
use Rattle.osdp.proofs.Lookups.{by_kind, kind_gives}
use Rattle.std.specs.Prelude.{Ok, Err}

-- ---- what strict passes is kept whole

unchanged : (g : Generation) (k : Kind) (p : List ℕ) → (k ≡ Nak → ⊥) → added g k p ≡ Pass → without (loss (form k)) p ≡ p
unfolding within_limits
unchanged g k p n passes =
    let e : within_limits Folded (code (form k)) (loss (form k)) p ≡ Pass = sym (second_alike k p) ∙ second_passes g k p passes in
    kept_whole (loss (form k)) p (uncut k p (λ is. absurd (n is))) (kept_all (limits (loss (form k)) p) p
    (λ at lt. check_pass _ _ (all_pass (limited Folded (code (form k)) (loss (form k)) p) (length p) e at lt)))

pub loses_nothing : LosesNothing
loses_nothing k l r m s n p = unchanged Second k p n (no_limits Second k l r m s p)

-- ---- writing

module _ (k : Kind) (p out : List ℕ) (b : Bytes p) where
  -- normalise of one kind
  normal : normalise_of (form k) p out ≡ put_checked (check_of (form k) p) (code (form k)) (without (loss (form k)) p) out
  normal = normalise_is (form k) (law k) p out b

  succeeds : length p ≤ length out → check_of (form k) p ≡ Pass → (n : ℕ) × ((normalise_of (form k) p out).0 ≡ Ok n)
  succeeds room g =
      let l : length (without (loss (form k)) p) ≤ length out = omega (arith, without_le (loss (form k)) p) in
      (length (without (loss (form k)) p), ap (λ (x : Effect). x.0) normal ∙ simp (g, pass_room (code (form k)) _ _ l))

  module _ (n : ℕ) (w : (normalise_of (form k) p out).0 ≡ Ok n) where
    w' : (put_checked (check_of (form k) p) (code (form k)) (without (loss (form k)) p) out).0 ≡ Ok n
    w' = sym (ap (λ (x : Effect). x.0) normal) ∙ w

    passes : check_of (form k) p ≡ Pass
    passes = (wrote (check_of (form k) p) (code (form k)) (without (loss (form k)) p) out n w').1

    written_is : take n (normalise_of (form k) p out).1 ≡ without (loss (form k)) p
    written_is = ap (λ (x : Effect). take n x.1) normal ∙ (wrote (check_of (form k) p) (code (form k)) (without (loss (form k)) p) out n w').0

    no_more : n ≤ length p
    no_more = omega (arith, counted (room_last (check_of (form k) p) (room (code (form k)) _ (length out))) (without (loss (form k)) p) out n w', without_le (loss (form k)) p)

-- ---- by code byte

module _ (side : Side) (c : ℕ) (p out : List ℕ) (b : Bytes p) where
  one : length p ≤ length out → (o : Outcome Kind) → kind_for side c p ≡ o
      → (check side c p ≡ Pass → (n : ℕ) × ((normalise side c p out).0 ≡ Ok n))
      × ((n : ℕ) × ((normalise side c p out).0 ≡ Ok n) → check side c p ≡ Pass)
  one room (Ok k) e = rw e (succeeds k p out b room, λ (n, w). passes k p out b n w)
  one room (Err r) e =
      rw e (λ h. absurd (no_refusal (sym h)), λ (n, h). absurd (no_refusal (sym h)))

  two : (n : ℕ) (o : Outcome Kind) → kind_for side c p ≡ o → (normalise side c p out).0 ≡ Ok n
      → (n ≤ length p) × (check side c (take n (normalise side c p out).1) ≡ Pass)
  two n (Ok k) e h =
      let w : (normalise_of (form k) p out).0 ≡ Ok n = rw e at h in
      let (named, short) = kind_gives side c p k e in
      let same = by_kind side c (without (loss (form k)) p) k named (omega (arith, without_le (loss (form k)) p)) in
      (no_more k p out b n w, rw (e, written_is k p out b n w, same) ((law k).steady p ∙ passes k p out b n w))
  two n (Err r) e h = absurd (no_refusal (sym (rw e at h)))

  refused : (e : Refusal) (o : Outcome Kind) → kind_for side c p ≡ o → check side c p ≡ Err e → normalise side c p out ≡ (Err e, out)
  refused e (Ok k) q h = let h' : check_of (form k) p ≡ Err e = rw q at h in rw q (simp h')
  refused e (Err r) q h = let h' : Err r ≡ Err e = rw q at h in rw q (let same : r ≡ e = cc in rw same)

  three : (g : Generation) (o : Outcome Kind) → kind_for side c p ≡ o → strict side c p g ≡ Pass → (kind_of side c ≡ Ok Nak → ⊥)
      → length p ≤ length out → normalise side c p out ≡ (Ok (length p), p ++ drop (length p) out)
  three g (Ok k) e s n room =
      let s' : strict_of g k p ≡ Pass = rw e at s in
      let (accepted, rest) = also_pass (check_of (form k) p) (added g k p) s' in
      let whole = unchanged g k p (λ is. n ((kind_gives side c p k e).0 ∙ ap Ok is)) rest in
      rw e (normal k p out b ∙ simp (accepted, whole, pass_room (code (form k)) (length p) (length out) room))
  three g (Err r) e s n room = absurd (no_refusal (sym (rw e at s)))

  -- a count that C is told fits
  short : (o : Outcome Kind) → kind_for side c p ≡ o → Short (rewrite o (λ k. normalise_of (form k) p out) out).0
  short (Ok k) e = subst (λ (x : Effect). Short x.0) (sym (normal k p out b)) (go (check_of (form k) p also room (code (form k)) _ _))
    where
      go : (h : Guard) → Short (effect h (without (loss (form k)) p) out).0
      go (Ok _) = omega (arith, without_le (loss (form k)) p, (kind_gives side c p k e).1)
      go (Err r) = tt
  short (Err r) e = tt

pub promises_hold : Promises
promises_hold side c p out b =
    let o = kind_for side c p in (
      (λ room. one side c p out b room o refl),
      (λ n w. two side c p out b n o refl w),
      (λ e h. refused side c p out b e o refl h),
      (λ g s n room. three side c p out b g o refl s n room),
    )

pub normalise_short : (side : Side) (c : ℕ) (p out : List ℕ) → Bytes p → Short (normalise side c p out).0
normalise_short side c p out b = short side c p out b (kind_for side c p) refl
