-- The sum of a frame (R102.4), from any start: it wraps at 256; and the two's complement of a byte.
use Rattle.std.specs.Prelude.{ℕ, ◌+◌, ◌-◌, ◌%◌, List, fold}

abbrev pub sum_of : ℕ → List ℕ → ℕ
sum_of start s = fold ◌+◌ start s % 256

abbrev pub twos_complement : ℕ → ℕ
twos_complement a = (256 - a) % 256
