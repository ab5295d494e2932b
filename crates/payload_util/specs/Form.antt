-- A kind of payload is one row; what its contracts cite and what R1.3 says of it, in the words of R6, are defined once, for every row.
use Rattle.std.specs.Prelude.{◌≡◌, ◌↔◌, List, [], ℕ, ◌*◌, ◌/◌, ◌<◌, length, get_or, take, drop, Ok}
use Rattle.payload_util.specs.Bytes.{Bytes, each, flat}
use Rattle.payload_util.specs.Refusals.{◌also◌, Outcome, Guard}
use Rattle.payload_util.specs.Guards.{not_empty, present}
use Rattle.payload_util.specs.Loss.{Loss, without}
use Rattle.payload_util.specs.Outcome.{outcome, tail_where}
use Rattle.payload_util.specs.Writing.{Effect, put_checked, rewrite}

-- The row of a kind whose record has only fixed fields: its code byte, what its reader checks, the fields of a payload whether it is
-- accepted or not, what its writer refuses a record for, except lack of room, the bytes of a record, and what reading loses.
pub record Fixed (A : Type 0) : Type 0 where
  pub code : ℕ
  pub check : ℕ → List ℕ → Guard
  pub fields : List ℕ → A
  pub refuse : ℕ → A → Guard
  pub bytes : A → List ℕ
  pub loss : Loss

-- the row of a kind whose record also has a tail; `rest` is the tail of a payload
pub record Tailed (A : Type 0) : Type 0 where
  pub code : ℕ
  pub check : ℕ → List ℕ → Guard
  pub fields : List ℕ → A
  pub rest : List ℕ → List ℕ
  pub refuse : ℕ → A → List ℕ → Guard
  pub bytes : A → List ℕ → List ℕ
  pub loss : Loss

-- the row of a kind that is a list of records of `width` bytes; `fields` is the first record, and the writer refuses only the empty list
pub record Listed (A : Type 0) : Type 0 where
  pub code : ℕ
  pub width : ℕ
  pub check : ℕ → List ℕ → Guard
  pub fields : List ℕ → A
  pub bytes : A → List ℕ
  pub loss : Loss

pub data Form : Type 1 where
  fixed : {A : Type 0} → Fixed A → Form
  tailed : {A : Type 0} → Tailed A → Form
  listed : {A : Type 0} → Listed A → Form

abbrev pub code : Form → ℕ
code (fixed k) = k.code
code (tailed k) = k.code
code (listed k) = k.code

abbrev pub loss : Form → Loss
loss (fixed k) = k.loss
loss (tailed k) = k.loss
loss (listed k) = k.loss

-- the checks of the kind's reader
abbrev pub check : Form → List ℕ → Guard
check (fixed k) p = k.check k.code p
check (tailed k) p = k.check k.code p
check (listed k) p = k.check k.code p

-- a record is its fixed fields, with its tail if it has one; a list counts as one record
abbrev pub Record : Form → Type 0
Record (fixed {A} k) = A
Record (tailed {A} k) = A × List ℕ
Record (listed {A} k) = List A

-- the record in a payload; each record of a list starts where the one before ends
abbrev pub whole : (f : Form) → List ℕ → Record f
whole (fixed k) p = k.fields p
whole (tailed k) p = (k.fields p, k.rest p)
whole (listed k) p = each k.fields k.width (length p / k.width) p

abbrev pub refuse : (f : Form) → Record f → Guard
refuse (fixed k) r = k.refuse k.code r
refuse (tailed k) r = k.refuse k.code r.0 r.1
refuse (listed k) rs = not_empty k.code rs

abbrev pub bytes : (f : Form) → Record f → List ℕ
bytes (fixed k) r = k.bytes r
bytes (tailed k) r = k.bytes r.0 r.1
bytes (listed k) rs = flat k.bytes rs

abbrev pub Reading : Form → Type 0
Reading (fixed {A} k) = Outcome A
Reading (tailed {A} k) = Outcome A
Reading (listed {A} k) = ℕ → Outcome A

abbrev pub Fields : Form → Type 0
Fields (fixed {A} k) = A
Fields (tailed {A} k) = A
Fields (listed {A} k) = A

-- the fixed fields in a payload; for a list, those of its first record
abbrev pub fields : (f : Form) → List ℕ → Fields f
fields (fixed k) p = k.fields p
fields (tailed k) p = k.fields p
fields (listed k) p = k.fields p

-- a reader gives the fixed fields; a list's reader is asked for record i, and refuses by row 16 if there is none
abbrev pub read : (f : Form) → List ℕ → Reading f
read (fixed k) p = outcome (check (fixed k) p) (k.fields p)
read (tailed k) p = outcome (check (tailed k) p) (k.fields p)
read (listed k) p = λ i. outcome (check (listed k) p also present k.code i (length p / k.width)) (k.fields (drop (k.width * i) p))

-- the tail; empty if reading refuses, and if the kind has none
abbrev pub tail : Form → List ℕ → List ℕ
tail (fixed k) p = []
tail (tailed k) p = tail_where (check (tailed k) p) (k.rest p)
tail (listed k) p = []

-- what writing a record leaves: answer and buffer
abbrev pub written : (f : Form) → Record f → List ℕ → Effect
written f r out = put_checked (refuse f r) (code f) (bytes f r) out

abbrev pub Writing : Form → Type 0
Writing (fixed {A} k) = A → List ℕ → Effect
Writing (tailed {A} k) = A → List ℕ → List ℕ → Effect
Writing (listed {A} k) = List A → List ℕ → Effect

-- what writing leaves, for a writer that takes fixed fields, fixed fields and a tail, or a list
abbrev pub write : (f : Form) → Writing f
write (fixed k) = λ r out. written (fixed k) r out
write (tailed k) = λ r t out. written (tailed k) (r, t) out
write (listed k) = λ rs out. written (listed k) rs out

-- normalise: read a payload and write the record again
abbrev pub normalise : Form → List ℕ → List ℕ → Effect
normalise f p out = rewrite (outcome (check f p) (whole f p)) (λ r. written f r out) out

-- the payload is accepted: the reader gives a record; for a list, record 0
abbrev pub Accepted : Form → List ℕ → Type 0
Accepted (fixed {A} k) p = (r : A) × (read (fixed k) p ≡ Ok r)
Accepted (tailed {A} k) p = (r : A) × (read (tailed k) p ≡ Ok r)
Accepted (listed {A} k) p = (r : A) × (read (listed k) p 0 ≡ Ok r)

-- the payload is accepted and reads as this record; for a list, each index i below length / width gives record i of it
abbrev pub ReadsAs : (f : Form) → List ℕ → Record f → Type 0
ReadsAs (fixed k) p r = read (fixed k) p ≡ Ok r
ReadsAs (tailed k) p r = (read (tailed k) p ≡ Ok r.0) × (tail (tailed k) p ≡ r.1)
ReadsAs (listed {A} k) p rs =
    (r₀ : A) × (read (listed k) p 0 ≡ Ok r₀) × (length rs ≡ length p / k.width)
    × ((i : ℕ) → i < length p / k.width → read (listed k) p i ≡ Ok (get_or rs i r₀))

-- the record is written without refusal into some buffer, and these are then the buffer's first bytes, as many as the writer counts
abbrev pub WritesAs : (f : Form) → Record f → List ℕ → Type 0
WritesAs f r b = (out : List ℕ) × (n : ℕ) × ((written f r out).0 ≡ Ok n) × (b ≡ take n (written f r out).1)

-- every accepted payload reads as a record; payloads read as the same record exactly when they are equal without what is lost; records give
-- the same bytes exactly when they are equal
abbrev pub LosesOnly : Form → Type 0
LosesOnly f =
    ((p : List ℕ) → Accepted f p → (r : Record f) × ReadsAs f p r)
    × ((p q : List ℕ) (r s : Record f) → Bytes p → Bytes q → ReadsAs f p r → ReadsAs f q s → (r ≡ s) ↔ (without (loss f) p ≡ without (loss f) q))
    × ((r s : Record f) (b c : List ℕ) → WritesAs f r b → WritesAs f s c → (b ≡ c) ↔ (r ≡ s))
