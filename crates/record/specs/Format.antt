-- A record as bytes: its fields in their order, each a number over a fixed count of bytes. Assumes nothing.
use Rattle.std.specs.Prelude.{◌≡◌, ℕ, ◌+◌, ◌^◌, ◌<◌, Bool, true, false, ◌&&◌, List, [], ◌∷◌, ◌++◌, length, take, drop, ℤ, pos, negsuc, Some, None, Option, nat_le, nat_lt}
use Rattle.std.specs.List.{flat_map}
use Rattle.record.specs.Number.{big, twos, Within}

-- how a field is written: the count of its bytes, and whether it has a sign
pub data Form : Type 0 where
  unsigned : ℕ → Form
  signed : ℕ → Form

abbrev pub width : Form → ℕ
width (unsigned w) = w
width (signed w) = w

-- the count of bytes of a layout
abbrev pub total : List Form → ℕ
total [] = 0
total (f ∷ fs) = width f + total fs

-- the number whose bytes stand for z; nothing unsigned stands for a negative z
abbrev pub bits : Form → ℤ → ℕ
bits (unsigned w) (pos n) = n
bits (unsigned w) (negsuc n) = 0
bits (signed w) z = twos w z

-- z is a value of the field
abbrev pub Fit : Form → ℤ → Type 0
Fit (unsigned w) (pos n) = n < 256 ^ w
Fit (unsigned w) (negsuc n) = ⊥
Fit (signed w) z = Within w z

-- as many values as fields, each a value of its field
abbrev pub Fits : List Form → List ℤ → Type 0
Fits [] [] = Unit {0}
Fits [] (z ∷ zs) = ⊥
Fits (f ∷ fs) [] = ⊥
Fits (f ∷ fs) (z ∷ zs) = Fit f z × Fits fs zs

-- from the place at on, the body has these values in fields of these forms
abbrev pub Reads : List ℕ → ℕ → List Form → List ℤ → Type 0
Reads body at [] [] = Unit {0}
Reads body at [] (z ∷ zs) = ⊥
Reads body at (f ∷ fs) [] = ⊥
Reads body at (f ∷ fs) (z ∷ zs) = (take (width f) (drop at body) ≡ big (width f) (bits f z)) × Fit f z × Reads body (at + width f) fs zs

-- a field that is filled: its width in bytes, and the number to write there
abbrev pub Field : Type 0
Field = ℕ × ℕ

-- the values in their fields
abbrev pub filled : List Form → List ℤ → List Field
filled [] zs = []
filled (f ∷ fs) [] = []
filled (f ∷ fs) (z ∷ zs) = (width f, bits f z) ∷ filled fs zs

abbrev pub field_bytes : Field → List ℕ
field_bytes f = big f.0 f.1

-- the fields one after the other
abbrev pub encode : List Field → List ℕ
encode fs = flat_map field_bytes fs

-- the count of bytes of filled fields
abbrev pub extent : List Field → ℕ
extent [] = 0
extent (f ∷ fs) = f.0 + extent fs

-- every number fits the bytes of its field
abbrev pub all_fit : List Field → Bool
all_fit [] = true
all_fit (f ∷ fs) = nat_lt f.1 (256 ^ f.0) && all_fit fs

-- before, with bytes written over it from the place at on
unfoldable pub over : List ℕ → ℕ → List ℕ → List ℕ
over before at bytes = take at before ++ (bytes ++ drop (at + length bytes) before)

-- the fields can be written into this memory at this place
abbrev pub can : List Field → ℕ → List ℕ → Bool
can fs at memory = all_fit fs && nat_le (at + extent fs) (length memory)

-- what a writer does: all of it and the place after it, or nothing
abbrev pub Written : List Field → ℕ → List ℕ → List ℕ → Option ℕ → Type 0
Written fs at before after None = (can fs at before ≡ false) × (after ≡ before)
Written fs at before after (Some next) = (can fs at before ≡ true) × (next ≡ at + extent fs) × (after ≡ over before at (encode fs))
