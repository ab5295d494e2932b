-- What a line holds.
use Rattle.std.specs.Prelude.{ℕ, List}
use Rattle.inspect_line.specs.declared.Taken.{Taken}

-- its payload; before the payload, its first word
abbrev pub bytes_of : Taken → List ℕ
bytes_of l = l.bytes.items
