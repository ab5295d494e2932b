-- The theorems of streams.
-- Assumes nothing.
use mathlib.Core.Logic.{◌⊎◌, inl, inr}
use mathlib.Core.Path.{◌≡◌, refl, sym, ap, ◌∙◌}
use mathlib.Core.Bool.{Bool, true, false, cond, not}
use mathlib.Core.List.{List, [], ◌∷◌, ◌++◌, append-nil}
use Prim.Native.Nat.{ℕ, zero, suc, ◌+◌, ◌≤◌, ◌<◌}
use native.Mathlib.Omega.{arith}
use borrow.Author.Tests.{ltb-true, ltb-false, leb-true, eqb-true, eqb-false, le-ltb, lt-ltb, le-leb, ne_eqb, eq-eqb, both_ways}
use lib.Dec.{ltb, leb, eqb}
use lib.ListN.{length, take, drop, get_or-append, length-append, length-drop, take-append-drop}
use Rattle.std.specs.Prelude.{Ok, Err}
use Rattle.std.proofs.lemmas.Bool.{and_right, and_parts, and_cases}
use Rattle.std.proofs.lemmas.List.{take_at, take-append-le, drop-append-le, nil_from_length, length-take, get_or-take, get_or-drop}
use Rattle.std.proofs.lemmas.List.Sums.{prefix_len-le-length, fails_before_first}
use Rattle.payload_util.specs.Bytes.{byte_at, u16_at}
use Rattle.payload_util.specs.Refusals.{Outcome, refusal}
use Rattle.payload_util.specs.declared.Refusal.{Refusal}
use Rattle.payload_util.specs.declared.Row.TheVariants.{FrameTooLong}
use Rattle.payload_util.proofs.Guards.{gives_pass, no_refusal}
use Rattle.frame.specs.declared.Frame.{Frame}
use Rattle.frame.specs.declared.scanner.Scanned.{Scanned}
use Rattle.frame.specs.declared.scanner.Scanned.TheVariants.{Read, Damaged, Other, More}
use Rattle.frame.specs.Frame.{som, longest, check_frame, fields_of, read_frame}
use Rattle.frame.specs.Scan.{before, needed, read_at, told, waits, scan}
use Rattle.frame.specs.Promises.{BeginsFrame, NoFrame, FindsFrames, FoundIsRead, PassesNone, WaitsShortly, RefusedAsRead, SameInParts}
use Rattle.frame.proofs.Laws.{Accepted, accepted, long}

-- a frame that is read is accepted
read_accepted : (f : List ℕ) (r : Frame) → read_frame f ≡ Ok r → Accepted f
read_accepted f r e = accepted f (gives_pass (check_frame f) (fields_of f) r e).0

-- a byte that is there stays where it is
stays : (s t : List ℕ) (i : ℕ) → i < length s → byte_at (s ++ t) i ≡ byte_at s i
stays s t i h = get_or-append s t 0 i h

-- the length field, once there are seven bytes
needs : (s t : List ℕ) → 7 ≤ length s → needed (s ++ t) ≡ u16_at s 2
needs s t h =
    let seven : ltb (length (s ++ t)) 7 ≡ false = le-ltb _ _ (omega (arith, length-append s t)) in
    rw (seven, stays s t 2 (omega arith), stays s t 3 (omega arith)) refl

needs_all : (s : List ℕ) → 7 ≤ length s → needed s ≡ u16_at s 2
needs_all s h = rw (le-ltb (length s) 7 h) refl

-- ---- the answers

abbrev tag : Scanned → ℕ
tag (Read r n) = 0
tag (Damaged e n) = 1
tag (Other n) = 2
tag (More n) = 3

told_read : (o : Outcome Frame) (s : List ℕ) (r : Frame) (n : ℕ) → told o s ≡ Read r n → (o ≡ Ok r) × (n ≡ needed s)
told_read (Ok q) s r n e = (cc, cc)
told_read (Err x) s r n e = absurd (omega (arith, ap tag e))

told_damaged : (o : Outcome Frame) (s : List ℕ) (e : Refusal) (n : ℕ) → told o s ≡ Damaged e n → (o ≡ Err e) × (n ≡ 1 + before (drop 1 s))
told_damaged (Ok q) s e n h = absurd (omega (arith, ap tag h))
told_damaged (Err x) s e n h = (cc, cc)

told_two : (o : Outcome Frame) (s : List ℕ) (a : Scanned) → 2 ≤ tag a → told o s ≡ a → ⊥
told_two (Ok q) s a h e = omega (arith, ap tag e)
told_two (Err x) s a h e = omega (arith, ap tag e)

module _ (s : List ℕ) (ended : Bool) where
  abbrev Cases : Type 0
  Cases =
      ((length s ≡ 0) × (scan s ended ≡ More (needed s)))
      ⊎ ((0 < length s) × (eqb (byte_at s 0) som ≡ false) × (scan s ended ≡ Other (before s)))
      ⊎ ((0 < length s) × (waits s ended ≡ true) × (scan s ended ≡ More (needed s)))
      ⊎ ((0 < length s) × (byte_at s 0 ≡ som) × (waits s ended ≡ false) × (scan s ended ≡ told (read_at s) s))

  by_test : (z b w : Bool) → eqb (length s) 0 ≡ z → eqb (byte_at s 0) som ≡ b → waits s ended ≡ w → Cases
  by_test true b w p q r = inl (eqb-true _ _ p, rw p refl)
  by_test false false w p q r = inr (inl (omega (arith, eqb-false _ _ p), q, rw (p, q) refl))
  by_test false true true p q r = inr (inr (inl (omega (arith, eqb-false _ _ p), r, rw (p, q, r) refl)))
  by_test false true false p q r = inr (inr (inr (omega (arith, eqb-false _ _ p), eqb-true _ _ q, r, rw (p, q, r) refl)))

  cases : Cases
  cases = by_test (eqb (length s) 0) (eqb (byte_at s 0) som) (waits s ended) refl refl refl

  -- what is told of a frame that begins here
  is_told : (a : Scanned) → tag a < 2 → scan s ended ≡ a
      → (0 < length s) × (byte_at s 0 ≡ som) × (waits s ended ≡ false) × (told (read_at s) s ≡ a)
  is_told a h e =
      elim cases [
        | inl (_, q) ↦ absurd (omega (arith, ap tag (sym q ∙ e)))
        | inr (inl (_, _, q)) ↦ absurd (omega (arith, ap tag (sym q ∙ e)))
        | inr (inr (inl (_, _, q))) ↦ absurd (omega (arith, ap tag (sym q ∙ e)))
        | inr (inr (inr (l, b, w, q))) ↦ (l, b, w, sym q ∙ e)
      ]

waited : (s : List ℕ) (ended : Bool) → waits s ended ≡ true → (ended ≡ false) × (ltb (length s) (needed s) ≡ true) × (leb (needed s) longest ≡ true)
waited s true h = absurd (both_ways false refl h)
waited s false h = let (less, short) = and_parts (ltb (length s) (needed s)) (leb (needed s) longest) h in (refl, less, short)

-- nothing is waited for that is there, or that no frame may have
none_waits : (s : List ℕ) (ended : Bool) → (ltb (length s) (needed s) ≡ false) ⊎ (leb (needed s) longest ≡ false) → waits s ended ≡ false
none_waits s true h = refl
none_waits s false (inl q) = rw q refl
none_waits s false (inr q) = and_right (ltb (length s) (needed s)) (leb (needed s) longest) q

scan_told : (s : List ℕ) (ended : Bool) → 0 < length s → byte_at s 0 ≡ som → waits s ended ≡ false → scan s ended ≡ told (read_at s) s
scan_told s ended some first w = rw (ne_eqb (length s) 0 (λ z. omega arith), eq-eqb _ _ first, w) refl

short_enough : (b : Bool) (o : Outcome Frame) (r : Frame) → cond b o (Err (refusal FrameTooLong 0 0 0)) ≡ Ok r → o ≡ Ok r
short_enough true o r e = e
short_enough false o r e = absurd (no_refusal (sym e))

pub finds_frames : FindsFrames
finds_frames f t r ended e =
    let a = read_accepted f r e in
    let seven = long f a in
    let first : byte_at (f ++ t) 0 ≡ som = stays f t 0 (omega (arith, seven)) ∙ a.begins in
    let need : needed (f ++ t) ≡ length f = needs f t seven ∙ sym a.declared in
    let whole : take (length f) (f ++ t) ≡ f = take_at f t (length f) refl in
    let there = le-ltb (length (f ++ t)) (length f) (omega (arith, length-append f t)) in
    let reads : read_at (f ++ t) ≡ Ok r = rw (need, le-leb _ _ a.short, whole) e in
    scan_told (f ++ t) ended (omega (arith, length-append f t)) first (none_waits (f ++ t) ended (inl (rw need there)))
    ∙ ap (λ o. told o (f ++ t)) reads ∙ ap (Read r) need

pub found_is_read : FoundIsRead
found_is_read s ended r n e =
    let (some, first, w, q) = is_told s ended (Read r n) (omega arith) e in
    let (ok, is) = told_read (read_at s) s r n q in
    let read : read_frame (take n s) ≡ Ok r = rw is (short_enough (leb (needed s) longest) (read_frame (take (needed s) s)) r ok) in
    let a = read_accepted (take n s) r read in
    let l = length-take n s in
    let seven : 7 ≤ length s = omega (arith, long (take n s) a) in
    let field : u16_at (take n s) 2 ≡ u16_at s 2 = rw (get_or-take n s 2 0 (omega (arith, long (take n s) a)), get_or-take n s 3 0 (omega (arith, long (take n s) a))) refl in
    (omega (arith, long (take n s) a), omega (arith, a.declared, field, needs_all s seven), read)

pub waits_shortly : WaitsShortly
waits_shortly s ended n e =
    elim (cases s ended) [
      | inl (z, q) ↦
          let m : n ≡ needed s = cc in
          let seven : needed s ≡ 7 = rw (lt-ltb (length s) 7 (omega (arith, z))) refl in
          (omega (arith, z), omega (arith), λ _. nil_from_length s z)
      | inr (inl (_, _, q)) ↦ absurd (omega (arith, ap tag (sym q ∙ e)))
      | inr (inr (inl (_, w, q))) ↦
          let m : n ≡ needed s = cc in
          let (lasts, less, short) = waited s ended w in
          (omega (arith, ltb-true _ _ less), omega (arith, leb-true _ _ short), λ h. absurd (both_ways ended lasts h))
      | inr (inr (inr (_, _, _, q))) ↦ absurd (told_two (read_at s) s (More n) (omega arith) (sym q ∙ e))
    ]

is_other : (s : List ℕ) (ended : Bool) (n : ℕ) → scan s ended ≡ Other n → (0 < length s) × (eqb (byte_at s 0) som ≡ false) × (n ≡ before s)
is_other s ended n e =
    elim (cases s ended) [
      | inl (_, q) ↦ absurd (omega (arith, ap tag (sym q ∙ e)))
      | inr (inl (some, other, q)) ↦ (some, other, cc)
      | inr (inr (inl (_, _, q))) ↦ absurd (omega (arith, ap tag (sym q ∙ e)))
      | inr (inr (inr (_, _, _, q))) ↦ absurd (told_two (read_at s) s (Other n) (omega arith) (sym q ∙ e))
    ]

pub refused_as_read : RefusedAsRead
refused_as_read s ended e n q short =
    let (some, first, w, told_e) = is_told s ended (Damaged e n) (omega arith) q in
    let (err, is) = told_damaged (read_at s) s e n told_e in
    rw (le-leb (needed s) longest short) at err

-- ---- what is passed over

one_more : (b : Bool) (m n : ℕ) → m ≤ n → cond b (1 + m) 0 ≤ cond b (1 + n) 0
one_more true m n h = omega arith
one_more false m n h = omega arith

by_seven : (s : List ℕ) (b : Bool) → ltb (length s) 7 ≡ b → waits s false ≡ false → 7 ≤ length s
by_seven s false p h = ltb-false _ _ p
by_seven s true p h = let no : true ≡ false = rw (p, p) at h in absurd (both_ways true no refl)

-- more bytes may be passed over once more are there
before_more : (s t : List ℕ) → before s ≤ before (s ++ t)
before_more [] t = omega arith
before_more (x ∷ s) t = one_more (not (eqb x som)) (before s) (before (s ++ t)) (before_more s t)

seven_there : (s : List ℕ) → waits s false ≡ false → 7 ≤ length s
seven_there s h = by_seven s (ltb (length s) 7) refl h

-- nothing more is waited for: it is there, or no frame may have as much
none_left : (s : List ℕ) → waits s false ≡ false → (ltb (length s) (needed s) ≡ false) ⊎ (leb (needed s) longest ≡ false)
none_left s w = and_cases (ltb (length s) (needed s)) (leb (needed s) longest) w

read_at_more : (s t : List ℕ) → needed (s ++ t) ≡ needed s → waits s false ≡ false → read_at (s ++ t) ≡ read_at s
read_at_more s t need w =
    elim (none_left s w) [
      | inl h ↦ rw (need, take-append-le (needed s) s t (ltb-false _ _ h)) refl
      | inr h ↦ rw (need, h) refl
    ]

waits_more : (s t : List ℕ) (ended : Bool) → needed (s ++ t) ≡ needed s → waits s false ≡ false → waits (s ++ t) ended ≡ false
waits_more s t ended need w =
    elim (none_left s w) [
      | inl h ↦ none_waits (s ++ t) ended (inl (rw need (le-ltb _ _ (omega (arith, ltb-false _ _ h, length-append s t)))))
      | inr h ↦ none_waits (s ++ t) ended (inr (rw need h))
    ]

pub same_in_parts : SameInParts
same_in_parts s t ended e n q =
    let (some, first, w, told_e) = is_told s false (Damaged e n) (omega arith) q in
    let (err, is) = told_damaged (read_at s) s e n told_e in
    let seven = seven_there s w in
    let need : needed (s ++ t) ≡ needed s = needs s t seven ∙ sym (needs_all s seven) in
    let more = length-append s t in
    let said = read_at_more s t need w in
    let first' : byte_at (s ++ t) 0 ≡ som = stays s t 0 some ∙ first in (
      1 + before (drop 1 (s ++ t)),
      scan_told (s ++ t) ended (omega (arith, more)) first' (waits_more s t ended need w) ∙ ap (λ o. told o (s ++ t)) (said ∙ err),
      rw (is, drop-append-le 1 s t some) (omega (arith, before_more (drop 1 s) t)),
    )

-- a byte that is not the first of a frame
none_begins : (s : List ℕ) → eqb (byte_at s 0) som ≡ false → BeginsFrame s → ⊥
none_begins s h (m, r, e) =
    let a = read_accepted (take m s) r e in
    let some : 0 < m = omega (arith, long (take m s) a, length-take m s) in
    let first : byte_at s 0 ≡ som = sym (get_or-take m s 0 0 some) ∙ a.begins in
    eqb-false _ _ h first

none_before : (s t : List ℕ) (i : ℕ) → i < before s → BeginsFrame (drop i (s ++ t)) → ⊥
none_before s t i h =
    let within = prefix_len-le-length (λ b. not (eqb b som)) s in
    let other : eqb (byte_at s i) som ≡ false = fails_before_first (λ b. eqb b som) s i 0 h in
    let here : i + 0 ≡ i = omega arith in
    let there : byte_at (drop i (s ++ t)) 0 ≡ byte_at s i = get_or-drop i (s ++ t) 0 0 ∙ ap (byte_at (s ++ t)) here ∙ stays s t i (omega (arith, within)) in
    none_begins (drop i (s ++ t)) (rw there other)

none_after : (s t : List ℕ) (i : ℕ) → 0 < length s → i < before (drop 1 s) → BeginsFrame (drop (suc i) (s ++ t)) → ⊥
none_after [] t i some h b = absurd (omega arith)
none_after (x ∷ s) t i some h b = none_before s t i h b

some_before : (s : List ℕ) → 0 < length s → eqb (byte_at s 0) som ≡ false → 1 ≤ before s
some_before [] some h = absurd (omega arith)
some_before (x ∷ s) some h = rw h (omega arith)

none_refused : (s : List ℕ) (ended : Bool) (e : Refusal) (n : ℕ) → scan s ended ≡ Damaged e n → BeginsFrame s → ⊥
none_refused s ended e n q (m, r, read) =
    let found : scan s ended ≡ Read r (length (take m s)) =
    rw (take-append-drop m s) at (finds_frames (take m s) (drop m s) r ended read) in
    omega (arith, ap tag (sym q ∙ found))

module _ (s t : List ℕ) (ended : Bool) (alone : ended ≡ true → t ≡ []) where
  no_frame_here : (e : Refusal) (n : ℕ) (b : Bool) → ended ≡ b → scan s b ≡ Damaged e n → BeginsFrame (s ++ t) → ⊥
  no_frame_here e n true last q h =
      let same : s ++ t ≡ s = rw (alone last) (append-nil s) in
      none_refused s true e n q (rw same at h)
  no_frame_here e n false last q h =
      let (m, again, _) = same_in_parts s t false e n q in
      none_refused (s ++ t) false e m again h

  none_at : (e : Refusal) (n : ℕ) → scan s ended ≡ Damaged e n → 0 < length s → NoFrame (1 + before (drop 1 s)) (s ++ t)
  none_at e n q some zero h b = no_frame_here e n ended refl q b
  none_at e n q some (suc i) h b = none_after s t i some (omega arith) b

pub passes_none : PassesNone
passes_none s t ended n alone (inl q) =
    let (some, other, is) = is_other s ended n q in
    let within = prefix_len-le-length (λ b. not (eqb b som)) s in
    (rw is (some_before s some other), omega (arith, within), rw is (λ i h b. none_before s t i h b))
passes_none s t ended n alone (inr (e, q)) =
    let (some, first, w, told_e) = is_told s ended (Damaged e n) (omega arith) q in
    let (err, is) = told_damaged (read_at s) s e n told_e in
    let within = prefix_len-le-length (λ b. not (eqb b som)) (drop 1 s) in
    (omega arith, omega (arith, within, length-drop 1 s), rw is (none_at s t ended alone e n q some))
