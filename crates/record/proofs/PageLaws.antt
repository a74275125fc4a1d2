-- The records of a page are read as they were written. Assumes nothing.
use Rattle.std.proofs.Common.{◌≡◌, ℕ, List, [], ◌∷◌, ◌++◌, get_or, ℤ, pos, is_some, Some, None, sym, refl, ap, ◌∙◌}
use borrow.Author.Tests.{clash}
use Rattle.std.specs.List.{AllByRecursion}
use Rattle.record.specs.Family.{Writable, bytes_of, run, lack}
use Rattle.record.specs.Kinds.{page_number, page_kind}
use Rattle.record.specs.Pages.{page_kind_of, page_values, PageRegisters, pages, PageAnswer, PageReading, PageTakes, PageFollows, ReadsRecord}
use Rattle.record.specs.declared.kind.PageKind.{PageKind}
use Rattle.record.specs.declared.kind.PageKind.TheVariants as kinds
use Rattle.record.specs.declared.page.PageRecord.{PageRecord}
use Rattle.record.specs.declared.page.PageRecord.TheVariants.{Head, Group, Period, Register, Refusal}
use Rattle.record.proofs.Registers.{count, four_are, four_from}
use Rattle.record.proofs.FamilyLaws.{Lawful, same_record, nothing_lacks, first_of_run}

found : (k : PageKind) → page_kind (page_number k) ≡ Some k
found kinds.Head = refl
found kinds.Group = refl
found kinds.Period = refl
found kinds.Register = refl
found kinds.Refusal = refl

abbrev at : List ℤ → ℕ → ℤ
at zs n = get_or zs n (pos 0)

-- the record of a kind with these values
make : PageKind → List ℤ → PageRecord
make kinds.Head zs = Head (count zs 0) (count zs 1) (count zs 2)
make kinds.Group zs = Group (record { brp = count zs 0; supplier = count zs 1; class = count zs 2; month = four_from at zs 3; real = four_from at zs 7 })
make kinds.Period zs = Period (count zs 0) (at zs 1) (at zs 2) (at zs 3) (at zs 4) (at zs 5)
make kinds.Register zs = Register (count zs 0) (count zs 1) (count zs 2) (count zs 3) (at zs 4) (at zs 5)
make kinds.Refusal zs = Refusal (count zs 0) (count zs 1) (count zs 2) (count zs 3) (count zs 4)

made : (r : PageRecord) → PageRegisters r → make (page_kind_of r) (page_values r) ≡ r
unfolding make
made (Head q p n) h = refl
made (Group g) h = (λ i. Group (record { brp = g.brp; supplier = g.supplier; class = g.class; month = four_are (pos 0) g.month h.0 i; real = four_are (pos 0) g.real h.1 i }))
made (Period p c x l v a) h = refl
made (Register b s c r v a) h = refl
made (Refusal n l x y z) h = refl

pub lawful : Lawful pages
lawful = record { small = refl; found = found; make = make; made = made }

inverse : (bytes : List ℕ) (a : PageAnswer) → PageReading bytes a → (r : PageRecord) (more : List ℕ) → Writable pages r → bytes ≡ bytes_of pages r ++ more → PageTakes a r more
inverse bytes None h r more w is = clash (sym (ap is_some (ap (lack pages) is ∙ nothing_lacks lawful r more w)) ∙ h)
inverse bytes (Some p) h r more w is = same_record lawful p.0 r p.1.now more h.writable w (sym h.split ∙ is)

sequence : (bytes : List ℕ) (a : PageAnswer) → PageReading bytes a → (rs : List PageRecord) → AllByRecursion (Writable pages) rs → bytes ≡ run pages rs → PageFollows a rs
sequence bytes None h [] ws is = refl
sequence bytes None h (r ∷ rs) ws is = absurd (inverse bytes None h r (run pages rs) ws.0 is)
sequence bytes (Some p) h rs ws is = first_of_run lawful bytes p.1.now p.0 h rs ws is

-- which answer comes decides all that is promised
pub reads_record : (bytes : List ℕ) (a : PageAnswer) → PageReading bytes a → ReadsRecord bytes a
reads_record bytes a h = record { gives = h; inverse = inverse bytes a h; sequence = sequence bytes a h }
