-- The two generations, and when row 18 is given.
-- Assumes nothing.
use mathlib.Core.Path.{◌≡◌, refl, sym, ap, ◌∙◌}
use mathlib.Core.List.{List, [], ◌∷◌}
use Prim.Native.Nat.{ℕ, ◌*◌, ◌/◌}
use native.Mathlib.Omega.{arith}
use lib.ListN.{length}
use Rattle.std.specs.Prelude.{Ok, Err}
use Rattle.payload_util.specs.Refusals.{◌also◌, in_order, Outcome, Guard, Pass}
use Rattle.payload_util.specs.Guards.{exact_len, at_least, blocks_from, declared_len}
use Rattle.payload_util.specs.Outcome.{named}
use Rattle.payload_util.specs.Loss.{Loss, within_limits}
use Rattle.payload_util.specs.Form.{code, loss, check as check_of}
use Rattle.payload_util.specs.declared.Refusal.{Refusal}
use Rattle.payload_util.specs.declared.Row.TheVariants.{Folded, SecondGenerationColor}
use Rattle.payload_util.proofs.Guards.{also_pass, multiple_pass}
use Rattle.payload_util.proofs.Limits.{row_given}
use Rattle.payload_util.proofs.Refusing.{Each, by_order}
use Rattle.led.specs.declared.Generation.{Generation}
use Rattle.led.specs.declared.Generation.TheVariants.{First, Second}
use Rattle.led.specs.Led.{led_code}
use Rattle.led.specs.Promises.{NewColor}
use Rattle.led.proofs.Generations.{row_eighteen}
use Rattle.codes.specs.CommandCode.{read_command}
use Rattle.codes.specs.ReplyCode.{read_reply}
use Rattle.output.specs.Output.{read_output_code, codes_known}
use Rattle.text.specs.Text.{read_text_command, printable, text_shape}
use Rattle.biometric.specs.Biometric.{check_template}
use Rattle.nak.specs.Nak.{read_nak_error}
use Rattle.osdp.specs.declared.Side.{Side}
use Rattle.osdp.specs.declared.Kind.{Kind}
use Rattle.osdp.specs.declared.Kind.TheVariants.{Led}
use Rattle.osdp.specs.Kinds.{form, in_table, kind_of, ◌then◌}
use Rattle.osdp.specs.ByCode.{not_too_long, kind_for, added, strict_of}
use Rattle.osdp.specs.Promises.{Generations, RowEighteen}
use Rattle.osdp.proofs.Laws.{only_led, second_alike, second_passes}
use Rattle.osdp.proofs.Lookups.{kind_gives}

-- ---- what never gives row 18

abbrev pub Never : {A : Type 0} → Outcome A → Type 0
Never o = (e : Refusal) → o ≡ Err e → e.row ≡ SecondGenerationColor → ⊥

order_never : (f : ℕ → Guard) (i n : ℕ) → ((k : ℕ) → Never (f k)) → Never (in_order f i n)
unfolding Each
order_never = by_order (λ e. e.row ≡ SecondGenerationColor → ⊥)

never : (k : Kind) (p : List ℕ) → Never (check_of (form k) p)
unfolding exact_len at_least blocks_from declared_len read_output_code codes_known read_text_command printable text_shape check_template read_nak_error
never k p e h s = grind (arith, order_never)

folds_never : (c : ℕ) (l : Loss) (p : List ℕ) → Never (within_limits Folded c l p)
folds_never c l p e w s = grind (arith, row_given)

named_never : {C : Type 0} (byte_of : C → ℕ) (r : Refusal) (cs : List C) (b : ℕ) → (r.row ≡ SecondGenerationColor → ⊥)
    → Never (named byte_of Ok (Err r) cs b)
named_never byte_of r [] b not e h s = grind arith
named_never byte_of r (c ∷ cs) b not e h s = let rest : Never (named byte_of Ok (Err r) cs b) = named_never byte_of r cs b not in grind arith

table_never : (side : Side) (c : ℕ) → Never (in_table side c)
unfolding read_command read_reply
table_never side c e h s = grind (arith, named_never)

kind_never : (side : Side) (c : ℕ) (p : List ℕ) → Never (kind_for side c p)
unfolding kind_for kind_of not_too_long
kind_never side c p e h s = grind (arith, table_never, named_never)

-- ---- what the generations have in common

module _ (side : Side) (c : ℕ) (p : List ℕ) where
  second_is : (o : Outcome Kind) → (o then λ k. strict_of Second k p)
      ≡ (o then λ k. check_of (form k) p also within_limits Folded (code (form k)) (loss (form k)) p)
  second_is o = grind (arith, second_alike)

  passes : (o : Outcome Kind) → (o then λ k. strict_of First k p) ≡ Pass → (o then λ k. strict_of Second k p) ≡ Pass
  passes o w = grind (arith, also_pass, second_passes)

  refuses : (e : Refusal) (o : Outcome Kind) → (o then λ k. strict_of Second k p) ≡ Err e → (o then λ k. strict_of First k p) ≡ Err e
  refuses e o w = grind arith

  alike : (o : Outcome Kind) → kind_for side c p ≡ o → (kind_of side c ≡ Ok Led → ⊥)
      → (o then λ k. strict_of First k p) ≡ (o then λ k. strict_of Second k p)
  alike o q not = grind (arith, kind_gives, only_led)

pub generations : Generations
generations = (
  (λ side c p. second_is side c p (kind_for side c p)),
  (λ side c p. passes side c p (kind_for side c p)),
  (λ side c p e. refuses side c p e (kind_for side c p)),
  (λ side c p. alike side c p (kind_for side c p) refl),
)

-- ---- row 18

is_led : (g : Generation) (k : Kind) (p : List ℕ) (e : Refusal) → e.row ≡ SecondGenerationColor → added g k p ≡ Err e → k ≡ Led
is_led g k p e s w = grind (arith, folds_never)

records : (p : List ℕ) → check_of (form Led) p ≡ Pass → length p ≡ length p / 14 * 14
records p accepted = (multiple_pass 14 led_code p accepted).0

pub eighteen : RowEighteen
eighteen side c p g e s = (
  (λ w. given (kind_for side c p) refl w),
  (λ (first, named, accepted, new).
      ap (λ (o : Outcome Kind). o then λ k. strict_of g k p) named
      ∙ simp accepted ((row_eighteen g p e (records p accepted) s).1 (first, new))),
)
  where
    of_led : (k : Kind) → k ≡ Led → check_of (form k) p ≡ Pass → added g k p ≡ Err e → (g ≡ First) × (check_of (form Led) p ≡ Pass) × NewColor p e
    of_led k led accepted w =
        let accepted' : check_of (form Led) p ≡ Pass = ap (λ (x : Kind). check_of (form x) p) (sym led) ∙ accepted in
        let (first, new) = (row_eighteen g p e (records p accepted') s).0 (ap (λ (x : Kind). added g x p) (sym led) ∙ w) in
        (first, accepted', new)

    given : (o : Outcome Kind) → kind_for side c p ≡ o → (o then λ k. strict_of g k p) ≡ Err e
        → (g ≡ First) × (kind_for side c p ≡ Ok Led) × (check_of (form Led) p ≡ Pass) × NewColor p e
    given (Ok k) q w =
        let (accepted, rest) : (check_of (form k) p ≡ Pass) × (added g k p ≡ Err e) = grind (arith, never) in
        let led = is_led g k p e s rest in
        let (first, accepted', new) = of_led k led accepted rest in
        (first, q ∙ ap Ok led, accepted', new)
    given (Err r) q w = let same : r ≡ e = cc in absurd (kind_never side c p e (q ∙ ap Err same) s)
