-- What row 6 says of a payload, for every kind.
-- Assumes nothing.
use mathlib.Core.Path.{◌≡◌, refl, sym, ap, ◌∙◌}
use mathlib.Core.List.{List}
use Prim.Native.Nat.{ℕ, ◌+◌, ◌≤◌}
use native.Mathlib.Omega.{arith}
use lib.ListN.{length, drop}
use Rattle.std.specs.Prelude.{Err}
use Rattle.payload_util.specs.Bytes.{byte_at, u16_at}
use Rattle.payload_util.specs.Refusals.{◌also◌, in_order, Guard, Pass}
use Rattle.payload_util.specs.Guards.{exact_len, at_least, blocks_from, declared_len, head_and_tail}
use Rattle.payload_util.specs.Outcome.{guard_of}
use Rattle.payload_util.specs.Form.{code}
use Rattle.payload_util.proofs.Guards.{no_refusal, pass_head_and_tail}
use Rattle.payload_util.proofs.Refusing.{Each, by_both, by_order}
use Rattle.payload_util.specs.declared.Refusal.{Refusal}
use Rattle.payload_util.specs.declared.Row.TheVariants.{PayloadTooShort, DeclaredLength}
use Rattle.output.specs.Output.{read_output_code, codes_known}
use Rattle.text.specs.Text.{read_text_command, printable_at, printable, text_shape}
use Rattle.biometric.specs.Biometric.{check_template}
use Rattle.raw_card.specs.Raw.{bytes_for}
use Rattle.nak.specs.Nak.{read_nak_error}
use Rattle.osdp.specs.declared.Kind.TheVariants.{Led, Out, Text, BioRead, BioMatch, FileTransfer, Mfg, Raw, Fmt, BioReadR, BioMatchR, Nak, Xrd, Keypad, ComSet, Com, PdId, LStatR, AcuRxSize, KeepActive}
use Rattle.osdp.specs.Kinds.{form}
use Rattle.osdp.specs.Promises.{BeginAlike, TellsLengths, RowSix}

-- a refusal that is not for a length
abbrev pub NoLength : Refusal → Type 0
NoLength e = (e.row ≡ DeclaredLength → ⊥) × (e.row ≡ PayloadTooShort → ⊥)

abbrev pub Unlike : Guard → Type 0
Unlike g = (e : Refusal) → g ≡ Err e → NoLength e

order_unlike : (f : ℕ → Guard) (i n : ℕ) → ((k : ℕ) → Unlike (f k)) → Unlike (in_order f i n)
unfolding Each
order_unlike = by_order NoLength

text_unlike : (p : List ℕ) → Unlike (printable (drop 6 p) also guard_of (read_text_command (byte_at p 1)))
unfolding Each printable read_text_command
text_unlike p =
    by_both NoLength (printable (drop 6 p)) (guard_of (read_text_command (byte_at p 1)))
    (order_unlike (printable_at (drop 6 p)) 0 (length (drop 6 p)) (λ k e h. grind arith)) (λ e h. grind arith)

-- checks that never refuse by row 6
not_by_six : {checks : List ℕ → Guard} → ((p : List ℕ) (e : Refusal) → checks p ≡ Err e → e.row ≡ DeclaredLength → ⊥) → TellsLengths checks
not_by_six not p e s h = absurd (not p e h s)

-- rows 4 and 6 by n fixed bytes that ask for more, and then checks that refuse for no length
module _ (n c : ℕ) (more : List ℕ → ℕ) (rest : List ℕ → Guard) where
  abbrev pub asks : List ℕ → Guard
  asks p = head_and_tail n (more p) c p also rest p

  gives : ((p : List ℕ) → Unlike (rest p)) → (p : List ℕ) (e : Refusal) → e.row ≡ DeclaredLength → asks p ≡ Err e
      → (n ≤ length p) × (e.first ≡ n + more p) × (e.second ≡ length p) × (length p ≡ n + more p → ⊥)
  unfolding at_least declared_len
  gives unlike p e s h = let u = unlike p e in grind arith

  counted : ((p : List ℕ) → Unlike (rest p)) → ((p q : List ℕ) → n ≤ length p → n ≤ length q → BeginAlike p q → more p ≡ more q)
      → {checks : List ℕ → Guard} → ((p : List ℕ) → checks p ≡ asks p) → TellsLengths checks
  counted unlike by_head is p e s h =
      let (long, first, second, other) = gives unlike p e s (sym (is p) ∙ h) in (
        second,
        (λ l. other (omega arith)),
        (λ q f b l w.
            let alike : more p ≡ more q = by_head p q long (omega arith) b in
            let fits : head_and_tail n (more q) c q ≡ Pass = pass_head_and_tail n c q (more q) (omega arith) in
            unlike q f (sym (is q ∙ simp fits refl) ∙ w)),
      )

-- fields within the first n bytes are those of a payload that begins alike
module _ (n at : ℕ) where
  byte_alike : at + 1 ≤ n → (p q : List ℕ) → n ≤ length p → n ≤ length q → BeginAlike p q → byte_at p at ≡ byte_at q at
  byte_alike inside p q lp lq b = b at (omega arith) (omega arith)

  u16_alike : at + 2 ≤ n → (p q : List ℕ) → n ≤ length p → n ≤ length q → BeginAlike p q → u16_at p at ≡ u16_at q at
  u16_alike inside p q lp lq b = simp (b at (omega arith) (omega arith), b (at + 1) (omega arith) (omega arith)) refl

-- a kind that checks nothing behind its length
nothing_else : (p : List ℕ) → Unlike Pass
nothing_else p e h = absurd (no_refusal h)

pub six : RowSix
unfolding exact_len at_least blocks_from declared_len read_output_code codes_known read_text_command printable text_shape check_template read_nak_error
six Text =
    counted 6 (code (form Text)) (λ p. byte_at p 5) (λ p. printable (drop 6 p) also guard_of (read_text_command (byte_at p 1))) text_unlike
    (byte_alike 6 5 (omega arith)) (λ p. grind arith)
six BioMatch = counted 6 (code (form BioMatch)) (λ p. u16_at p 4) (λ p. Pass) nothing_else (u16_alike 6 4 (omega arith)) (λ p. grind arith)
six FileTransfer = counted 11 (code (form FileTransfer)) (λ p. u16_at p 9) (λ p. Pass) nothing_else (u16_alike 11 9 (omega arith)) (λ p. grind arith)
six Raw =
    counted 4 (code (form Raw)) (λ p. bytes_for (u16_at p 2)) (λ p. Pass) nothing_else
    (λ p q lp lq b. ap bytes_for (u16_alike 4 2 (omega arith) p q lp lq b)) (λ p. grind arith)
six Fmt = counted 3 (code (form Fmt)) (λ p. byte_at p 2) (λ p. Pass) nothing_else (byte_alike 3 2 (omega arith)) (λ p. grind arith)
six BioReadR = counted 6 (code (form BioReadR)) (λ p. u16_at p 4) (λ p. Pass) nothing_else (u16_alike 6 4 (omega arith)) (λ p. grind arith)
six Keypad = counted 2 (code (form Keypad)) (λ p. byte_at p 1) (λ p. Pass) nothing_else (byte_alike 2 1 (omega arith)) (λ p. grind arith)
six Led = not_by_six (λ p e h s. grind (arith, order_unlike))
six Out = not_by_six (λ p e h s. grind (arith, order_unlike))
six BioRead = not_by_six (λ p e h s. grind arith)
six Mfg = not_by_six (λ p e h s. grind arith)
six BioMatchR = not_by_six (λ p e h s. grind arith)
six Nak = not_by_six (λ p e h s. grind arith)
six Xrd = not_by_six (λ p e h s. grind arith)
six ComSet = not_by_six (λ p e h s. grind arith)
six Com = not_by_six (λ p e h s. grind arith)
six PdId = not_by_six (λ p e h s. grind arith)
six LStatR = not_by_six (λ p e h s. grind arith)
six AcuRxSize = not_by_six (λ p e h s. grind arith)
six KeepActive = not_by_six (λ p e h s. grind arith)
