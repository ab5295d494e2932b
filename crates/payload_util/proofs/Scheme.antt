-- What a kind owes for its row, its law; and what follows from it: R1.3, normalise, and that what is written is read.
-- Assumes nothing.
use mathlib.Core.Path.{◌≡◌, refl, sym, ap, ap₂, ◌∙◌}
use mathlib.Core.Logic.{◌↔◌}
use mathlib.Core.List.{List}
use Prim.Native.Nat.{ℕ, zero, ◌*◌, ◌/◌, ◌<◌}
use native.Mathlib.Omega.{arith}
use lib.ListN.{length, get_or, take, drop, length-append, length-drop}
use lib.Seq.{take_at, drop_at, ext_get_or}
use Rattle.payload_util.specs.Bytes.{Bytes}
use Rattle.payload_util.specs.Refusals.{◌also◌, Outcome, Guard, Pass}
use Rattle.payload_util.specs.Outcome.{outcome, tail_where}
use Rattle.payload_util.specs.Guards.{room, present}
use Rattle.payload_util.specs.Writing.{Effect, effect, room_last, put_checked, Leaves, rewrite}
use Rattle.payload_util.specs.Loss.{without}
use Rattle.payload_util.specs.Form.{Listed, Form, fixed, tailed, listed, code, loss, check, Record, whole, refuse, bytes, read, written, normalise, Accepted, ReadsAs, WritesAs, LosesOnly}
use Rattle.payload_util.specs.Law.{Law}
use Rattle.payload_util.proofs.Guards.{no_refusal, also_pass, gives_pass, pass_present, room_pass}
use Rattle.payload_util.proofs.Each.{length_each, each_at}
use Rattle.std.specs.Prelude.{Ok, Err}

-- ---- what a reader gives is what is in a payload that passes

module _ {A : Type 0} (k : Listed A) (p : List ℕ) where
  abbrev guard : ℕ → Guard
  guard i = check (listed k) p also present k.code i (length p / k.width)

  reads_at : check (listed k) p ≡ Pass → (i : ℕ) → i < length p / k.width
      → read (listed k) p i ≡ Ok (k.fields (drop (k.width * i) p))
  reads_at h i lt = simp (h, pass_present k.code i (length p / k.width) lt)

  list_pass : (r : A) → read (listed k) p 0 ≡ Ok r → check (listed k) p ≡ Pass
  list_pass r e = (also_pass (check (listed k) p) (present k.code 0 (length p / k.width)) (gives_pass (guard 0) (k.fields (drop (k.width * 0) p)) r e).0).0

  list_reads : (check (listed k) p ≡ Pass → zero < length p / k.width)
      → (rs : List A) → ReadsAs (listed k) p rs ↔ ((check (listed k) p ≡ Pass) × (whole (listed k) p ≡ rs))
  list_reads some rs = (
    (λ (r₀, e₀, n, e). (
      list_pass r₀ e₀,
      sym (ext_get_or r₀ rs (whole (listed k) p) (n ∙ sym (length_each k.fields k.width (length p / k.width) p))
          (λ i lt.
          let lt' : i < length p / k.width = omega arith in
          sym (gives_pass (guard i) (k.fields (drop (k.width * i) p)) (get_or rs i r₀) (e i lt')).1
          ∙ sym (each_at k.fields k.width (length p / k.width) p i r₀ lt'))),
    )),
    (λ (h, s). (
      k.fields (drop (k.width * 0) p),
      reads_at h 0 (some h),
      ap length (sym s) ∙ length_each k.fields k.width (length p / k.width) p,
      λ i lt.
          reads_at h i lt
          ∙ ap Ok (sym (each_at k.fields k.width (length p / k.width) p i (k.fields (drop (k.width * 0) p)) lt)
          ∙ ap (λ (l : List A). get_or l i (k.fields (drop (k.width * 0) p))) s),
    )),
  )

pub accepted : (f : Form) (p : List ℕ) → Accepted f p → check f p ≡ Pass
accepted (fixed k) p a = (gives_pass (check (fixed k) p) (k.fields p) a.0 a.1).0
accepted (tailed k) p a = (gives_pass (check (tailed k) p) (k.fields p) a.0 a.1).0
accepted (listed k) p a = list_pass k p a.0 a.1

pub reads : (f : Form) → Law f → (p : List ℕ) (r : Record f) → ReadsAs f p r ↔ ((check f p ≡ Pass) × (whole f p ≡ r))
reads (fixed k) law p r = (gives_pass (check (fixed k) p) (k.fields p) r, λ e. simp (e.0, e.1))
reads (tailed {A} k) law p r = (
  (λ e.
      let (pass, is) = gives_pass (check (tailed k) p) (k.fields p) r.0 e.0 in
      let t : k.rest p ≡ r.1 = ap (λ (g : Guard). tail_where g (k.rest p)) (sym pass) ∙ e.1 in
      (pass, λ i. (is i, t i))),
  (λ e. (simp e.0 (ap Ok (ap (λ (x : A × List ℕ). x.0) e.1)), simp e.0 (ap (λ (x : A × List ℕ). x.1) e.1))),
)
reads (listed k) law p rs = list_reads k p (law.some p) rs

-- what reads as a record is accepted
record_zero : (f : Form) (p : List ℕ) (r : Record f) → ReadsAs f p r → Accepted f p
record_zero (fixed k) p r e = (r, e)
record_zero (tailed k) p r e = (r.0, e.0)
record_zero (listed k) p rs (r₀, e₀, n, e) = (r₀, e₀)

-- what a writer wrote are the record's bytes, and no check refused
pub wrote : (g : Guard) (code : ℕ) (bs out : List ℕ) (n : ℕ) → (put_checked g code bs out).0 ≡ Ok n
    → (take n (put_checked g code bs out).1 ≡ bs) × (g ≡ Pass)
wrote g code bs out n e = go g (room code (length bs) (length out)) e
  where
    go : (g r : Guard) → (effect (room_last g r) bs out).0 ≡ Ok n → (take n (effect (room_last g r) bs out).1 ≡ bs) × (g ≡ Pass)
    go (Ok _) (Ok _) k = (take_at bs (drop (length bs) out) n (cc), refl)
    go (Ok _) (Err x) k = absurd (no_refusal (sym k))
    go (Err x) (Ok _) k = absurd (no_refusal (sym k))
    go (Err x) (Err y) k = absurd (no_refusal (sym k))

-- and the count is theirs
pub counted : (g : Guard) (bs out : List ℕ) (n : ℕ) → (effect g bs out).0 ≡ Ok n → n ≡ length bs
counted (Ok _) bs out n e = cc
counted (Err x) bs out n e = absurd (no_refusal (sym e))

-- ---- what writing leaves of the buffer

pub leaves : (g : Guard) (code : ℕ) (bs out : List ℕ) → Leaves (put_checked g code bs out) out
leaves (Err e) code bs out = refl
leaves (Ok _) code bs out = go (room code (length bs) (length out)) refl
  where
    go : (r : Guard) → room code (length bs) (length out) ≡ r → Leaves (effect r bs out) out
    go (Ok _) q =
        let fits = room_pass code (length bs) (length out) q in
        (fits, length-append bs (drop (length bs) out) ∙ omega (arith, length-drop (length bs) out), drop_at bs (drop (length bs) out) (length bs) refl)
    go (Err e) q = refl

pub rewrite_leaves : {A : Type 0} (o : Outcome A) (writes : A → Effect) (out : List ℕ) → ((a : A) → Leaves (writes a) out)
    → Leaves (rewrite o writes out) out
rewrite_leaves (Ok a) writes out h = h a
rewrite_leaves (Err e) writes out h = refl

pub normalise_leaves : (f : Form) (p out : List ℕ) → Leaves (normalise f p out) out
normalise_leaves f p out = rewrite_leaves (outcome (check f p) (whole f p)) (λ r. written f r out) out (λ r. leaves (refuse f r) (code f) (bytes f r) out)

module _ (f : Form) (law : Law f) where
  injective : (r s : Record f) → refuse f r ≡ Pass → refuse f s ≡ Pass → bytes f r ≡ bytes f s → r ≡ s
  injective r s wr ws e = sym (law.restored r wr) ∙ ap law.back e ∙ law.restored s ws

  keeps : (p : List ℕ) (r : Record f) → Bytes p → ReadsAs f p r → (bytes f r ≡ without (loss f) p) × (refuse f r ≡ Pass)
  keeps p r b e =
      let (pass, is) = (reads f law p r).0 e in
      (sym (ap (bytes f) is) ∙ law.kept p b pass, sym (ap (refuse f) is) ∙ law.writable p b pass)

  pub given : (r : Record f) (b : List ℕ) → WritesAs f r b → (b ≡ bytes f r) × (refuse f r ≡ Pass)
  given r b (out, n, w, e) =
      let (t, g) = wrote (refuse f r) (code f) (bytes f r) out n w in
      (e ∙ t, g)

  pub loses_only : LosesOnly f
  loses_only = (
    (λ p a. (whole f p, (reads f law p (whole f p)).1 (accepted f p a, refl))),
    (λ p q r s bp bq rp rq.
        let (kr, wr) = keeps p r bp rp in
        let (ks, ws) = keeps q s bq rq in
        ((λ e. sym kr ∙ ap (bytes f) e ∙ ks), (λ e. injective r s wr ws (kr ∙ e ∙ sym ks)))),
    (λ r s b c gr gs.
        let (er, wr) = given r b gr in
        let (es, ws) = given s c gs in
        ((λ e. injective r s wr ws (sym er ∙ e ∙ es)), (λ e. er ∙ ap (bytes f) e ∙ sym es))),
  )

  pub accepts : (p : List ℕ) → check f p ≡ Pass → Accepted f p
  accepts p h = record_zero f p (whole f p) ((reads f law p (whole f p)).1 (h, refl))

  -- what is written passes, and reads as the record
  module _ (r : Record f) (b : List ℕ) (w : WritesAs f r b) where
    pub written_passes : check f b ≡ Pass
    written_passes = rw (given r b w).0 (law.readable r (given r b w).1)

    pub written_reads : length (without (loss f) b) ≡ length b → ReadsAs f b r
    written_reads u =
        let (is, ok) = given r b w in
        (reads f law b r).1 (written_passes, rw is (law.reread r ok (rw is at u)))

  -- normalise is the reader's checks, and then the payload without what is lost
  pub normalise_is : (p out : List ℕ) → Bytes p → normalise f p out ≡ put_checked (check f p) (code f) (without (loss f) p) out
  normalise_is p out b = go (check f p) refl
    where
      go : (g : Guard) → check f p ≡ g
          → rewrite (outcome g (whole f p)) (λ r. written f r out) out ≡ put_checked g (code f) (without (loss f) p) out
      go (Ok _) q = ap₂ {C = Effect} (λ g bs. put_checked g (code f) bs out) (law.writable p b q) (law.kept p b q)
      go (Err r) q = refl

  -- so a function that checks, and then writes what is kept, normalises
  pub normalises : {x : Effect} (p out bs : List ℕ) (g : Guard) → Bytes p → x ≡ put_checked g (code f) bs out → g ≡ check f p
      → bs ≡ without (loss f) p → x ≡ normalise f p out
  normalises p out bs g b x is kept = x ∙ ap₂ {C = Effect} (λ g bs. put_checked g (code f) bs out) is kept ∙ sym (normalise_is p out b)
