-- The laws of a kind's row: with them the theorems over all kinds hold of it.
use Rattle.std.specs.Prelude.{◌≡◌, ℕ, zero, List, ◌/◌, ◌<◌, length}
use Rattle.payload_util.specs.Bytes.{Bytes}
use Rattle.payload_util.specs.Refusals.{Pass}
use Rattle.payload_util.specs.Loss.{without}
use Rattle.payload_util.specs.Form.{Form, fixed, tailed, listed, loss, check, Record, whole, refuse, bytes}

-- a list has a record
abbrev pub Some : Form → List ℕ → Type 0
Some (fixed k) p = Unit
Some (tailed k) p = Unit
Some (listed k) p = zero < length p / k.width

-- What has to be proved of a kind's row.
pub record Law (f : Form) : Type 0 where
  pub some : (p : List ℕ) → check f p ≡ Pass → Some f p
  -- writing what was read gives the payload without what is lost, and is not refused
  pub kept : (p : List ℕ) → Bytes p → check f p ≡ Pass → bytes f (whole f p) ≡ without (loss f) p
  pub writable : (p : List ℕ) → Bytes p → check f p ≡ Pass → refuse f (whole f p) ≡ Pass
  -- the bytes of a record that is not refused give the record back
  pub back : List ℕ → Record f
  pub restored : (r : Record f) → refuse f r ≡ Pass → back (bytes f r) ≡ r
  -- what is lost does not decide whether a payload is accepted
  pub steady : (p : List ℕ) → check f (without (loss f) p) ≡ check f p
  -- what is written is accepted, and holds the record, unless reading cuts a part of it off
  pub readable : (r : Record f) → refuse f r ≡ Pass → check f (bytes f r) ≡ Pass
  pub reread : (r : Record f) → refuse f r ≡ Pass → length (without (loss f) (bytes f r)) ≡ length (bytes f r) → whole f (bytes f r) ≡ r
