-- Where the records of a page stand. Assumes nothing.
use Rattle.std.proofs.Common.{◌≡◌, ℕ, zero, suc, ◌+◌, ◌-◌, ◌*◌, ◌<◌, List, [], ◌∷◌, ◌++◌, map, length, get_or, take, drop, replicate, sym, refl, ap, ◌∙◌, suc-add, zero-add, arith}
use Rattle.std.specs.List.{AllByRecursion}
use Rattle.std.proofs.lemmas.List.{append_assoc, length-append, length-replicate, take_at, drop_at, drop-drop, get_or_at}
use Rattle.record.specs.Format.{total, filled, encode}
use Rattle.record.specs.Family.{Writable, bytes_of, run}
use Rattle.record.specs.Kinds.{page_number, page_layout}
use Rattle.record.specs.Pages.{page_kind_of, page_values, pages}
use Rattle.record.specs.Number.{big}
use Rattle.record.specs.Places.{groups, order, span, place_of, Page, Stands}
use Rattle.record.specs.declared.kind.PageKind.{PageKind}
use Rattle.record.specs.declared.kind.PageKind.TheVariants.{Head, Group, Period, Register}
use Rattle.record.specs.declared.page.PageRecord.{PageRecord}
use Rattle.record.proofs.Big.{length_big}
use Rattle.record.proofs.Layouts.{length_filled}

span_append : (xs ys : List PageKind) → span (xs ++ ys) ≡ span xs + span ys
span_append [] ys = sym (zero-add (span ys))
span_append (x ∷ xs) ys = omega (arith, span_append xs ys)

span_groups : (n : ℕ) → span (groups n) ≡ 162 * n
span_groups zero = refl
span_groups (suc n) = omega (arith, span_groups n)

length_groups : (n : ℕ) → length (groups n) ≡ 5 * n
length_groups zero = refl
length_groups (suc n) = omega (arith, length_groups n)

-- a page of m groups and more is split behind them
groups_add : (m n : ℕ) → groups (m + n) ≡ groups m ++ groups n
groups_add zero n = ap groups (zero-add n)
groups_add (suc m) n = ap groups (suc-add m n) ∙ ap (λ l. Group ∷ Register ∷ Register ∷ Register ∷ Register ∷ l) (groups_add m n)

length_record : (r : PageRecord) → Writable pages r → length (bytes_of pages r) ≡ 1 + total (page_layout (page_kind_of r))
length_record r w =
    let body : List ℕ = encode (filled (page_layout (page_kind_of r)) (page_values r)) in
    omega (arith, length-append (big 1 (page_number (page_kind_of r))) body, length_big 1 (page_number (page_kind_of r)), length_filled (page_layout (page_kind_of r)) (page_values r) w.fits)

length_run : (rs : List PageRecord) → AllByRecursion (Writable pages) rs → length (run pages rs) ≡ span (map page_kind_of rs)
length_run [] ws = refl
length_run (r ∷ rs) ws = omega (arith, length-append (bytes_of pages r) (run pages rs), length_record r ws.0, length_run rs ws.1)

-- what stands behind the first records
drop_run : (rs : List PageRecord) (i : ℕ) → AllByRecursion (Writable pages) rs → drop (span (take i (map page_kind_of rs))) (run pages rs) ≡ run pages (drop i rs)
drop_run rs zero ws = refl
drop_run [] (suc i) ws = refl
drop_run (r ∷ rs) (suc i) ws =
    let n : ℕ = 1 + total (page_layout (page_kind_of r)) in
    let m : ℕ = span (take i (map page_kind_of rs)) in
    sym (drop-drop m n (bytes_of pages r ++ run pages rs))
    ∙ ap (drop m) (drop_at (bytes_of pages r) (run pages rs) n (length_record r ws.0))
    ∙ drop_run rs i ws.1

pub length_page : (rows : ℕ) → span (order rows) ≡ 93 + 162 * rows
length_page rows = omega (arith, span_append (groups rows) (Period ∷ Period ∷ []), span_groups rows)

pub page_is : (rows : ℕ) (rs : List PageRecord) → Page rows rs → length (run pages rs) ≡ span (order rows)
page_is rows rs p = length_run rs p.writable ∙ ap span p.kinds

-- a record stands behind all before it
stands : (rows i at : ℕ) (kind : PageKind) (front back : List PageKind) → order rows ≡ front ++ (kind ∷ back) → length front ≡ i → span front ≡ at → Stands rows i kind at
stands rows i at kind front back split size sum =
    let first : take i (order rows) ≡ front = ap (take i) split ∙ take_at front (kind ∷ back) i size in
    let here : at ≡ place_of rows i = sym sum ∙ sym (ap span first) in
    record {
      within = omega (arith, ap length split, length-append front (kind ∷ back));
      kind_is = ap (λ l. get_or l i Head) split ∙ get_or_at front kind back Head i size;
      place_is = here;
      from_there = λ rs p. ap (λ n. drop n (run pages rs)) (here ∙ ap (λ l. span (take i l)) (sym p.kinds)) ∙ drop_run rs i p.writable;
    }

-- the kinds from one group on
from_group : (rows row : ℕ) → row < rows → order rows ≡ Head ∷ (groups row ++ (groups 1 ++ (groups (rows - row - 1) ++ (Period ∷ Period ∷ []))))
from_group rows row h =
    let more : ℕ = rows - row - 1 in
    let split : groups rows ≡ groups row ++ (groups 1 ++ groups more) = ap groups (omega arith) ∙ groups_add row (1 + more) ∙ ap (λ l. groups row ++ l) (groups_add 1 more) in
    ap (λ l. Head ∷ (l ++ (Period ∷ Period ∷ []))) split ∙ ap (λ l. Head ∷ l) (append_assoc (groups row) (groups 1 ++ groups more) (Period ∷ Period ∷ []))

pub group_stands : (rows row : ℕ) → row < rows → Stands rows (1 + 5 * row) Group (9 + 162 * row)
group_stands rows row h =
    stands rows (1 + 5 * row) (9 + 162 * row) Group (Head ∷ groups row) (Register ∷ Register ∷ Register ∷ Register ∷ (groups (rows - row - 1) ++ (Period ∷ Period ∷ []))) (from_group rows row h) (omega (arith, length_groups row)) (omega (arith, span_groups row))

-- four registers, split before one of them
four_split : (r : ℕ) (tail : List PageKind) → r < 4 → Register ∷ Register ∷ Register ∷ Register ∷ tail ≡ replicate r Register ++ (Register ∷ (replicate (3 - r) Register ++ tail))
four_split zero tail h = refl
four_split (suc zero) tail h = refl
four_split (suc (suc zero)) tail h = refl
four_split (suc (suc (suc zero))) tail h = refl
four_split (suc (suc (suc (suc r)))) tail h = absurd (omega arith)

span_registers : (r : ℕ) → span (replicate r Register) ≡ 23 * r
span_registers zero = refl
span_registers (suc r) = omega (arith, span_registers r)

pub register_stands : (rows row register : ℕ) → row < rows → register < 4 → Stands rows (2 + 5 * row + register) Register (9 + 162 * row + 70 + 23 * register)
register_stands rows row register h k =
    let behind : List PageKind = replicate register Register in
    let front : List PageKind = Head ∷ (groups row ++ (Group ∷ behind)) in
    let tail : List PageKind = groups (rows - row - 1) ++ (Period ∷ Period ∷ []) in
    let back : List PageKind = replicate (3 - register) Register ++ tail in
    stands rows (2 + 5 * row + register) (9 + 162 * row + 70 + 23 * register) Register front back
    (from_group rows row h ∙ ap (λ l. Head ∷ (groups row ++ (Group ∷ l))) (four_split register tail k) ∙ sym (ap (λ l. Head ∷ l) (append_assoc (groups row) (Group ∷ behind) (Register ∷ back))))
    (omega (arith, length-append (groups row) (Group ∷ behind), length_groups row, length-replicate register Register))
    (omega (arith, span_append (groups row) (Group ∷ behind), span_groups row, span_registers register))

pub period_stands : (rows period : ℕ) → period < 2 → Stands rows (1 + 5 * rows + period) Period (9 + 162 * rows + 42 * period)
period_stands rows zero h =
    stands rows (1 + 5 * rows + 0) (9 + 162 * rows + 42 * 0) Period (Head ∷ groups rows) (Period ∷ []) refl (omega (arith, length_groups rows)) (omega (arith, span_groups rows))
period_stands rows (suc zero) h =
    stands rows (1 + 5 * rows + 1) (9 + 162 * rows + 42 * 1) Period (Head ∷ (groups rows ++ (Period ∷ []))) [] (ap (λ l. Head ∷ l) (sym (append_assoc (groups rows) (Period ∷ []) (Period ∷ [])))) (omega (arith, length-append (groups rows) (Period ∷ []), length_groups rows)) (omega (arith, span_append (groups rows) (Period ∷ []), span_groups rows))
period_stands rows (suc (suc p)) h = absurd (omega arith)
