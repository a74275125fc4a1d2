-- The records of a page as bytes, and where each stands. Assumes nothing.
use Rattle.std.specs.Prelude.{◌≡◌, ℕ, true, List, [], ◌∷◌, ◌++◌, length, ℤ, pos, is_some, Some, None, Option}
use Rattle.std.specs.Borrow.{Bor}
use Rattle.std.specs.List.{AllByRecursion}
use Rattle.record.specs.Format.{total, filled, encode}
use Rattle.record.specs.Family.{Family, Parts, Writable, Begins, lack, bytes_of, run}
use Rattle.record.specs.Kinds.{page_number, page_kinds, page_layout, four_of}
use Rattle.record.specs.declared.kind.PageKind.{PageKind}
use Rattle.record.specs.declared.kind.PageKind.TheVariants as kinds
use Rattle.record.specs.declared.page.Part.{Part}
use Rattle.record.specs.declared.page.PageRecord.{PageRecord}
use Rattle.record.specs.declared.page.PageRecord.TheVariants.{Head, Group, Period, Register, Refusal}

abbrev pub page_kind_of : PageRecord → PageKind
page_kind_of (Head q p n) = kinds.Head
page_kind_of (Group g) = kinds.Group
page_kind_of (Period p c x l v a) = kinds.Period
page_kind_of (Register b s c r v a) = kinds.Register
page_kind_of (Refusal n l x y z) = kinds.Refusal

-- a number for each register
abbrev pub four_signed : List ℤ → List ℤ
four_signed zs = four_of (λ z. z) (pos 0) zs

-- the values of the fields, in the order of the layout
abbrev pub page_values : PageRecord → List ℤ
page_values (Head q p n) = pos q ∷ pos p ∷ pos n ∷ []
page_values (Group g) = pos g.brp ∷ pos g.supplier ∷ pos g.class ∷ (four_signed g.month ++ four_signed g.real)
page_values (Period p c x l v a) = pos p ∷ c ∷ x ∷ l ∷ v ∷ a ∷ []
page_values (Register b s c r v a) = pos b ∷ pos s ∷ pos c ∷ pos r ∷ v ∷ a ∷ []
page_values (Refusal n l x y z) = pos n ∷ pos l ∷ pos x ∷ pos y ∷ pos z ∷ []

-- a number for each of the four registers, and no more
abbrev pub PageRegisters : PageRecord → Type 0
PageRegisters (Head q p n) = Unit {0}
PageRegisters (Group g) = (length g.month ≡ 4) × (length g.real ≡ 4)
PageRegisters (Period p c x l v a) = Unit {0}
PageRegisters (Register b s c r v a) = Unit {0}
PageRegisters (Refusal n l x y z) = Unit {0}

abbrev pub pages : Family PageKind PageRecord
pages = record { number = page_number; kinds = page_kinds; layout = page_layout; kind = page_kind_of; values = page_values; Four = PageRegisters }

-- the record stands in this body
pub record Filled (kind : PageKind) (body : List ℕ) (r : PageRecord) : Type 0 where
  pub kind_is : page_kind_of r ≡ kind
  pub body_is : body ≡ encode (filled (page_layout kind) (page_values r))
  pub writable : Writable pages r

-- a body gives its record where it has the length of its kind
abbrev pub FromBody : PageKind → List ℕ → Option PageRecord → Type 0
FromBody kind body None = length body ≡ total (page_layout kind) → ⊥
FromBody kind body (Some r) = Filled kind body r

-- the bytes are a kind, its body and the rest
abbrev pub Apart : List ℕ → Part → Type 0
Apart bytes p = Parts page_number page_layout bytes p.kind p.body.now p.rest.now

abbrev pub TakenApart : List ℕ → Option Part → Type 0
TakenApart bytes None = is_some (lack pages bytes) ≡ true
TakenApart bytes (Some p) = Apart bytes p

-- what a reader answers: a record and the bytes behind it, or nothing
abbrev pub PageAnswer : Type 0
PageAnswer = Option (PageRecord × Bor (List ℕ))

abbrev pub PageReading : List ℕ → PageAnswer → Type 0
PageReading bytes None = is_some (lack pages bytes) ≡ true
PageReading bytes (Some p) = Begins pages bytes p.0 p.1.now

-- the answer is the record r, with rest behind it
abbrev pub PageTakes : PageAnswer → PageRecord → List ℕ → Type 0
PageTakes None r rest = ⊥
PageTakes (Some p) r rest = (p.0 ≡ r) × (p.1.now ≡ rest)

-- the answer is the first of the records, with the others behind it, or none where there is none
abbrev pub PageFollows : PageAnswer → List PageRecord → Type 0
PageFollows None rs = rs ≡ []
PageFollows (Some p) rs = (others : List PageRecord) × (rs ≡ p.0 ∷ others) × (p.1.now ≡ run pages others)

-- all that a reader promises
pub record ReadsRecord (bytes : List ℕ) (a : PageAnswer) : Type 0 where
  -- which answer comes
  pub gives : PageReading bytes a
  -- a record that was written is read again
  pub inverse : (r : PageRecord) (more : List ℕ) → Writable pages r → bytes ≡ bytes_of pages r ++ more → PageTakes a r more
  -- records are read one after the other
  pub sequence : (rs : List PageRecord) → AllByRecursion (Writable pages) rs → bytes ≡ run pages rs → PageFollows a rs
