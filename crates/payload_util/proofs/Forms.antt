-- The laws of a kind with fixed fields, with a tail, and of a list, from facts on its bytes.
-- Assumes nothing.
use mathlib.Core.Path.{◌≡◌, refl, sym, ap, subst, ◌∙◌}
use mathlib.Core.List.{List, [], ◌∷◌, ◌++◌}
use Prim.Native.Nat.{ℕ, zero, ◌+◌, ◌*◌, ◌/◌, ◌≤◌, ◌<◌}
use native.Mathlib.Nat.{mul-div_cancel}
use native.Mathlib.Omega.{arith}
use lib.ListN.{length, drop}
use Rattle.payload_util.specs.Bytes.{Bytes, each, flat}
use Rattle.payload_util.specs.Guards.{head_and_tail, tail_len, not_empty}
use Rattle.payload_util.specs.Loss.{without}
use Rattle.payload_util.specs.Form.{Fixed, Tailed, Listed, fixed, tailed, listed, check}
use Rattle.payload_util.proofs.Guards.{no_refusal, head_and_tail_pass, pass_head_and_tail, tail_len_pass, pass_tail_len}
use Rattle.payload_util.proofs.Each.{length_each, length_flat, each_back}
use Rattle.payload_util.specs.Law.{Law}
use Rattle.payload_util.specs.Refusals.{Pass}

module _ {A : Type 0} {k : Fixed A} where
  pub fixed_law : ((p : List ℕ) → Bytes p → check (fixed k) p ≡ Pass → k.bytes (k.fields p) ≡ without k.loss p)
      → ((p : List ℕ) → Bytes p → check (fixed k) p ≡ Pass → k.refuse k.code (k.fields p) ≡ Pass)
      → ((r : A) → k.refuse k.code r ≡ Pass → k.fields (k.bytes r) ≡ r)
      → ((p : List ℕ) → check (fixed k) (without k.loss p) ≡ check (fixed k) p)
      → ((r : A) → k.refuse k.code r ≡ Pass → check (fixed k) (k.bytes r) ≡ Pass)
      → Law (fixed k)
  fixed_law keeps writable restores steady readable = record {
    some = λ p g. tt;
    kept = keeps;
    writable = writable;
    back = k.fields;
    restored = restores;
    steady = steady;
    readable = readable;
    reread = λ r w u. restores r w;
  }

-- the tail starts at n in what is written, and is read from there unless reading cuts it off
module _ {A : Type 0} {k : Tailed A} (n : ℕ) where
  pub tailed_law : ((p : List ℕ) → Bytes p → check (tailed k) p ≡ Pass → k.bytes (k.fields p) (k.rest p) ≡ without k.loss p)
      → ((p : List ℕ) → Bytes p → check (tailed k) p ≡ Pass → k.refuse k.code (k.fields p) (k.rest p) ≡ Pass)
      → ((r : A) (t : List ℕ) → k.refuse k.code r t ≡ Pass → k.fields (k.bytes r t) ≡ r)
      → ((r : A) (t : List ℕ) → drop n (k.bytes r t) ≡ t)
      → ((p : List ℕ) → length (without k.loss p) ≡ length p → k.rest p ≡ drop n p)
      → ((p : List ℕ) → check (tailed k) (without k.loss p) ≡ check (tailed k) p)
      → ((r : A) (t : List ℕ) → k.refuse k.code r t ≡ Pass → check (tailed k) (k.bytes r t) ≡ Pass)
      → Law (tailed k)
  tailed_law keeps writable restores restores-tail rest_is steady readable = record {
    some = λ p g. tt;
    kept = keeps;
    writable = writable;
    back = λ p. (k.fields p, drop n p);
    restored = λ r w i. (restores r.0 r.1 w i, restores-tail r.0 r.1 i);
    steady = steady;
    readable = λ r w. readable r.0 r.1 w;
    reread = λ r w u i.
        (restores r.0 r.1 w i, (rest_is (k.bytes r.0 r.1) u ∙ restores-tail r.0 r.1) i);
  }

-- `count` of a record is how many bytes its tail has, and reading loses nothing
module _ {A : Type 0} {k : Tailed A} (n : ℕ) (count : A → ℕ) where
  pub counted_law : ((p : List ℕ) → check (tailed k) p ≡ head_and_tail n (count (k.fields p)) k.code p)
      → ((r : A) (t : List ℕ) → k.refuse k.code r t ≡ tail_len (count r) k.code t)
      → ((p : List ℕ) → k.rest p ≡ drop n p)
      → ((p : List ℕ) → without k.loss p ≡ p)
      → ((p : List ℕ) → Bytes p → n ≤ length p → k.bytes (k.fields p) (drop n p) ≡ p)
      → ((r : A) (t : List ℕ) → k.fields (k.bytes r t) ≡ r)
      → ((r : A) (t : List ℕ) → drop n (k.bytes r t) ≡ t)
      → ((r : A) (t : List ℕ) → length (k.bytes r t) ≡ n + length t)
      → Law (tailed k)
  counted_law checks refuses rest_is loses_nothing keeps restores restores-tail size =
      tailed_law n
      (λ p b g. rw (rest_is p, loses_nothing p) (keeps p b (head_and_tail_pass n k.code p _ (sym (checks p) ∙ g)).0))
      (λ p b g. rw (rest_is p) (refuses (k.fields p) (drop n p)
      ∙ pass_tail_len _ k.code (drop n p) (head_and_tail_pass n k.code p _ (sym (checks p) ∙ g)).1))
      (λ r t w. restores r t) restores-tail (λ p u. rest_is p) (λ p. ap (check (tailed k)) (loses_nothing p))
      (λ r t w. checks (k.bytes r t)
      ∙ pass_head_and_tail n k.code _ _ (omega (arith, size r t, ap count (restores r t), tail_len_pass _ k.code t (sym (refuses r t) ∙ w))))

not_empty_lem : {A : Type 0} (code : ℕ) (rs : List A) → zero < length rs → not_empty code rs ≡ Pass
not_empty_lem code [] h = absurd (omega arith)
not_empty_lem code (r ∷ rs) h = refl

some_records : {A : Type 0} (code : ℕ) (rs : List A) → not_empty code rs ≡ Pass → zero < length rs
some_records code [] h = absurd (no_refusal (sym h))
some_records code (r ∷ rs) h = omega arith

-- each record has its bytes, and is read back from them
module _ {A : Type 0} {k : Listed A} where
  pub listed_law : ((r : A) → length (k.bytes r) ≡ k.width)
      → ((r : A) (t : List ℕ) → k.fields (k.bytes r ++ t) ≡ r)
      → zero < k.width
      → ((p : List ℕ) → check (listed k) p ≡ Pass → zero < length p / k.width)
      → ((p : List ℕ) → Bytes p → check (listed k) p ≡ Pass → flat k.bytes (each k.fields k.width (length p / k.width) p) ≡ without k.loss p)
      → ((p : List ℕ) → check (listed k) (without k.loss p) ≡ check (listed k) p)
      → ((rs : List A) → zero < length rs → length (flat k.bytes rs) ≡ length rs * k.width → check (listed k) (flat k.bytes rs) ≡ Pass)
      → Law (listed k)
  listed_law size restores pos some keeps steady readable = record {
    some = some;
    kept = keeps;
    writable = λ p b h.
        not_empty_lem k.code (records p) (subst (λ (n : ℕ). zero < n) (sym (length_each k.fields k.width (length p / k.width) p)) (some p h));
    back = records;
    restored = λ rs x. again rs;
    steady = steady;
    readable = λ rs w. readable rs (some_records k.code rs w) (length_flat k.bytes k.width size rs);
    reread = λ rs w u. again rs;
  }
    where
      records : List ℕ → List A
      records p = each k.fields k.width (length p / k.width) p

      again : (rs : List A) → records (flat k.bytes rs) ≡ rs
      again rs =
          ap (λ (n : ℕ). each k.fields k.width n (flat k.bytes rs))
          (ap (λ (n : ℕ). n / k.width) (length_flat k.bytes k.width size rs) ∙ mul-div_cancel (length rs) pos)
          ∙ each_back k.bytes k.width size k.fields restores rs
