-- Records folded in place, one after the other.
-- Assumes nothing.
use mathlib.Core.Path.{◌≡◌, sym, ap, ap₂, ◌∙◌}
use mathlib.Core.List.{List, ◌++◌}
use Prim.Native.Nat.{ℕ, ◌+◌, ◌*◌}
use native.Mathlib.Numerals.{add-one}
use lib.ListN.{take, drop}
use Rattle.payload_util.specs.Loss.{Keep, keep, times}
use Rattle.payload_util.proofs.Folds.{keep_append, keep_front, times_next, length_times}
use Rattle.led.specs.Led.{highest_color, led_limits}

abbrev limits : List Keep
limits = led_limits highest_color

-- o is the payload as it came, and q as it is now; one record more, in the w bytes that are lent
pub next_folded : (o q e : List ℕ) (k w : ℕ) → w ≡ 14 → q ≡ keep (times k limits) o → e ≡ keep limits (take w (drop (k * 14) q))
    → take (k * 14) q ++ (e ++ drop w (drop (k * 14) q)) ≡ keep (times (k + 1) limits) o
next_folded o q e k w width is made =
    let m : List Keep = times k limits in
    let rest : List ℕ = drop (k * 14) q in
    let all : e ++ drop w rest ≡ keep limits rest =
    ap₂ {C = List ℕ} (λ x n. x ++ drop n rest) (made ∙ ap (λ (n : ℕ). keep limits (take n rest)) width) width ∙ sym (keep_front limits rest) in
    ap (λ (x : List ℕ). take (k * 14) q ++ x) all
    ∙ ap₂ {C = List ℕ} (λ j r. take j r ++ keep limits (drop j r)) (sym (length_times k limits)) is
    ∙ sym (keep_append m limits o) ∙ ap (λ (ls : List Keep). keep ls o) (sym (times_next k limits) ∙ ap (λ (n : ℕ). times n limits) (sym (add-one k)))
