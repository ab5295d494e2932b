-- Buffers that are filled up with one byte.
use Rattle.std.specs.Prelude.{◌≡◌, Bool, true, false, cond, List, ◌++◌, ℕ, ◌+◌, ◌-◌, leb, length, drop, replicate}
use Rattle.std.proofs.Math.Seq.{paste}

-- every byte from an index on is b
abbrev pub AllFrom : List ℕ → ℕ → ℕ → Type 0
AllFrom s from b = drop from s ≡ replicate (length s - from) b

-- n bytes: b up to an index, the wanted bytes from there on, and b again after them
abbrev pub around : ℕ → List ℕ → ℕ → ℕ → List ℕ
around at want n b = replicate at b ++ want ++ replicate (n - (at + length want)) b

-- whether the list is long enough, and the list with b at every index from one up to another; a list that is too short stays as it is
unfoldable pub putting : ℕ → ℕ → ℕ → List ℕ → Bool × List ℕ
putting from to b s = cond (leb to (length s)) (true, paste s from (replicate (to - from) b) (to - from)) (false, s)
