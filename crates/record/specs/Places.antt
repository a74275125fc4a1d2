-- Which records a page has, and where each stands. Assumes nothing.
use Rattle.std.specs.Prelude.{◌≡◌, ℕ, zero, suc, ◌+◌, ◌*◌, ◌<◌, List, [], ◌∷◌, ◌++◌, map, length, take, drop, slice_index_or}
use Rattle.std.specs.List.{AllByRecursion}
use Rattle.record.specs.Format.{total}
use Rattle.record.specs.Family.{Writable, run}
use Rattle.record.specs.Kinds.{page_layout}
use Rattle.record.specs.Pages.{page_kind_of, pages}
use Rattle.record.specs.declared.kind.PageKind.{PageKind}
use Rattle.record.specs.declared.kind.PageKind.TheVariants.{Head, Group, Period, Register}
use Rattle.record.specs.declared.page.PageRecord.{PageRecord}

-- each group, and behind it one record for each register
abbrev pub groups : ℕ → List PageKind
groups zero = []
groups (suc n) = Group ∷ Register ∷ Register ∷ Register ∷ Register ∷ groups n

-- the kinds of a page with so many groups, in their order
abbrev pub order : ℕ → List PageKind
order rows = Head ∷ (groups rows ++ (Period ∷ Period ∷ []))

-- how many bytes records of these kinds take
abbrev pub span : List PageKind → ℕ
span [] = 0
span (k ∷ ks) = 1 + total (page_layout k) + span ks

-- the place of record i, counted from 0
abbrev pub place_of : ℕ → ℕ → ℕ
place_of rows i = span (take i (order rows))

-- these are the records of a page with so many groups
pub record Page (rows : ℕ) (rs : List PageRecord) : Type 0 where
  pub kinds : map page_kind_of rs ≡ order rows
  pub writable : AllByRecursion (Writable pages) rs

-- record i of a page is of this kind and stands at this place: from there on the page has the records from i on
pub record Stands (rows i : ℕ) (kind : PageKind) (place : ℕ) : Type 0 where
  pub within : i < length (order rows)
  pub kind_is : slice_index_or (order rows) i Head ≡ kind
  pub place_is : place ≡ place_of rows i
  pub from_there : (rs : List PageRecord) → Page rows rs → drop place (run pages rs) ≡ run pages (drop i rs)

-- this place is behind so many groups with their registers: in a larger page the next group stands there, in a page of no more groups the two periods
pub record Behind (before place : ℕ) : Type 0 where
  pub group : (rows : ℕ) → before < rows → Stands rows (1 + 5 * before) Group place
  pub register : (rows i at : ℕ) → (before < rows) × (i < 4) × (at ≡ place + 70 + 23 * i) → Stands rows (2 + 5 * before + i) Register at
  pub period : (i at : ℕ) → (i < 2) × (at ≡ place + 42 * i) → Stands before (1 + 5 * before + i) Period at
  pub span_is : place + 84 ≡ span (order before)
  pub length_is : (rs : List PageRecord) → Page before rs → length (run pages rs) ≡ place + 84
