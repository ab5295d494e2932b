-- The code bytes of refusals.
-- Assumes nothing.
use mathlib.Core.Path.{◌≡◌, sym, ◌∙◌}
use mathlib.Core.Bool.{Bool, true, false}
use mathlib.Core.List.{List}
use mathlib.Core.Logic.{◌⊎◌, inl, inr}
use Prim.Native.Nat.{ℕ}
use lib.ListN.{length}
use Rattle.payload_util.specs.Bytes.{byte_at}
use Rattle.payload_util.specs.Refusals.{◌also◌, Guard, refusal}
use Rattle.payload_util.specs.Guards.{at_least, declared_len, room}
use Rattle.payload_util.specs.Outcome.{outcome}
use Rattle.payload_util.proofs.Guards.{no_refusal}
use Rattle.payload_util.proofs.Refusing.{Each, by_row, by_both, by_code}
use Rattle.payload_util.specs.Writing.{effect}
use Rattle.payload_util.specs.declared.Refusal.{Refusal}
use Rattle.codes.specs.CommandCode.{read_command}
use Rattle.codes.specs.ReplyCode.{read_reply}
use Rattle.codes.proofs.Laws.{command_one, reply_one}
use Rattle.frame.specs.declared.Frame.{Frame}
use Rattle.frame.specs.Frame.{right_check, known_code, front, control, check_frame, fields_of, frame_len, refuse_frame, frame_bytes}
use Rattle.frame.specs.Promises.{CodeBytes}
use Rattle.std.specs.Prelude.{Ok, Err}
use Rattle.payload_util.specs.declared.Row.TheVariants.{UnknownCommand, UnknownReply}

-- what a code table refuses, it refuses by its row
command_row : (b : ℕ) (x : Refusal) → read_command b ≡ Err x → x ≡ refusal UnknownCommand b 0 0
command_row b x q =
    elim (command_one b) [
      | inl (c, p, u) ↦ absurd (no_refusal (sym p ∙ q))
      | inr (p, u) ↦ cc
    ]

reply_row : (b : ℕ) (x : Refusal) → read_reply b ≡ Err x → x ≡ refusal UnknownReply b 0 0
reply_row b x q =
    elim (reply_one b) [
      | inl (c, p, u) ↦ absurd (no_refusal (sym p ∙ q))
      | inr (p, u) ↦ cc
    ]

unknown : (P : Refusal → Type 0) (reply : Bool) (b : ℕ) → P (refusal UnknownCommand b 0 0) → P (refusal UnknownReply b 0 0) → Each P (known_code reply b)
unfolding known_code
unknown P true b p q = by_code P (read_reply b) (λ x h. rw (reply_row b x h) q)
unknown P false b p q = by_code P (read_command b) (λ x h. rw (command_row b x h) p)

module _ (f : List ℕ) where
  abbrev Read : Refusal → Type 0
  Read e = (e.code ≡ 0) ⊎ (e ≡ refusal UnknownCommand (byte_at f 5) 0 0) ⊎ (e ≡ refusal UnknownReply (byte_at f 5) 0 0)

  reading : Each Read (check_frame f)
  unfolding check_frame front control right_check at_least declared_len
  reading = search (by_both Read, by_row Read, unknown Read, inl, inr) depth 9

module _ (r : Frame) (n given : ℕ) where
  abbrev Own : Refusal → Type 0
  Own e = e.code ≡ r.code

  writing : (len : ℕ) → Each Own (refuse_frame r len also room r.code n given)
  unfolding refuse_frame room
  writing len = search (by_both Own, by_row Own, unknown Own)

-- a refusal is that of the checks
refuses_is : {A : Type 0} (g : Guard) (a : A) (e : Refusal) → outcome g a ≡ Err e → g ≡ Err e
refuses_is (Ok _) a e q = absurd (no_refusal q)
refuses_is (Err x) a e q = cc

not_written_is : (g : Guard) (bs out : List ℕ) (e : Refusal) → (effect g bs out).0 ≡ Err e → g ≡ Err e
not_written_is (Ok _) bs out e q = absurd (no_refusal q)
not_written_is (Err x) bs out e q = cc

pub code_bytes : CodeBytes
unfolding Each
code_bytes = (
  (λ f e q. reading f e (refuses_is (check_frame f) (fields_of f) e q)),
  (λ r p out e q. writing r (length (frame_bytes r p)) (length out) (frame_len r p) e (not_written_is _ (frame_bytes r p) out e q)),
)
