-- The page of a settled month: it is the history's, it can be read again, and it balances. Assumes nothing.
use Rattle.std.proofs.Common.{◌≡◌, ℕ, suc, ◌+◌, ◌*◌, ◌<◌, ◌≤◌, Bool, true, false, cond, eqb, List, [], ◌∷◌, ◌++◌, map, length, ℤ, pos, negsuc, ◌+ℤ◌, ◌-ℤ◌, ◌*ℤ◌, nat_abs, sym, refl, ap, ◌∙◌, subst, mul-le-mul, arith, lit<}
use Rattle.std.proofs.lemmas.Int.{ints}
use Rattle.std.proofs.lemmas.Bool.{ltb-false, eqb-false}
use Rattle.std.proofs.lemmas.List.{length-map}
use Rattle.std.proofs.lemmas.List.Elements.{All-append, All-from_recursion, recursion_from_All}
use Rattle.std.specs.List.{AllByRecursion}
use Rattle.allocation.specs.declared.sums.Reconciled.{Reconciled}
use Rattle.allocation.specs.Amounts.{settled as priced_line}
use Rattle.allocation.specs.Scale.{most_volume, most_price, per_mwh}
use Rattle.allocation.specs.Settling.{price_of, value_at, amount_of}
use Rattle.allocation.proofs.Floors.{floor_within}
use Rattle.allocation.proofs.Integers.{product_size}
use Rattle.record.specs.declared.kind.PageKind.TheVariants as kinds
use Rattle.record.specs.declared.page.GroupVolumes.{GroupVolumes}
use Rattle.record.specs.declared.page.PageRecord.{PageRecord}
use Rattle.record.specs.declared.page.PageRecord.TheVariants as records
use Rattle.record.specs.Family.{Writable, run}
use Rattle.record.specs.Number.{Within}
use Rattle.record.specs.Pages.{pages, page_kind_of}
use Rattle.record.specs.Places.{order}
use Rattle.record.specs.Places.{groups as group_kinds}
use Rattle.record.proofs.FamilyLaws.{same_record, some_byte}
use Rattle.record.proofs.PageLaws.{lawful}
use Rattle.record.proofs.PlaceLaws.{page_is, length_page}
use Rattle.rows.specs.declared.group.Group.{Group}
use Rattle.rows.specs.Registers.{two, register}
use Rattle.tables.specs.BookRows.{group_rules}
use Rattle.ledger.specs.Checks.{begin_checks}
use Rattle.ledger.specs.Events.{History, opens, divides, moved, turned}
use Rattle.ledger.specs.Histories.{Start, Admitted, groups, month_at, turn_checks}
use Rattle.ledger.specs.Keys.{listed, total, net}
use Rattle.ledger.specs.Laws.{PageLaw, volumes_in, page_in, line_in, page_line, record_volume, record_amount}
use Rattle.ledger.specs.Pages.{Running, real_loss, unpriced, page_size, volumes_of, after_group, after_groups, running_in, group_records, page_of, page_records, page_bytes}
use Rattle.ledger.specs.Postings.{gross}
use Rattle.ledger.specs.Quantities.{done, period_now, price_now, posted, posted_in, known, allocated, real, priced, volume_sum, value_sum, price_in, losses_in, real_loss_in, loss_volume_in, reconciliation_of}
use Rattle.ledger.proofs.Basics.{inside, sum_size, all_quiet, quiet, two_same, either_way}
use Rattle.ledger.proofs.Bounds.{quarters_small, done_small, gross_within, most_booked}
use Rattle.ledger.proofs.Keyed.{map_map}
use Rattle.ledger.proofs.Own.{real_small, allocated_small}
use Rattle.ledger.proofs.Rows.{ledger_row, self}
use Rattle.ledger.proofs.Settle.{real_loss_is, settled_at, settled_size, all_settled, balance}
use Rattle.ledger.proofs.Sizes.{Named, all_named, groups_few, groups_long}
use Rattle.ledger.proofs.Turns.{shown}

-- the figures of the page are the history's
pub figures : (s : Start) (h : History) → Admitted s h → page_records (month_at s h) (groups h) ≡ page_in s h
figures s h a =
    let vs = ap (map volumes_of) (shown s h a) ∙ map_map (ledger_row h) volumes_of (volumes_in h) (λ g. said g) (known h) in
    let losses = two_same (λ p. real_loss (month_at s h) p (groups h)) (real_loss_in h) (λ p k. real_loss_is s h a p k) in
    λ i. page_of s.quarters s.loss_party (two (price_in h)) (losses i) (two (losses_in h)) (vs i)
  where
    said : (g : Group) → volumes_in h g ≡ volumes_of (ledger_row h g)
    said g = grind arith

-- the running totals after one group more
abbrev after_one : History → Group → Running → Running
after_one h g t = record { normal = after_group 0 (volumes_in h g) t.normal; low = after_group 1 (volumes_in h g) t.low }

abbrev start : Running
start = record { normal = pos 0; low = pos 0 }

-- its kinds are those of a page
kinds_of : (prices : List ℤ) (tail : List PageRecord) (vs : List GroupVolumes) (s : Running) → map page_kind_of (group_records prices s vs ++ tail) ≡ group_kinds (length vs) ++ map page_kind_of tail
kinds_of prices tail [] s = refl
kinds_of prices tail (v ∷ vs) s = ap (λ l. kinds.Group ∷ kinds.Register ∷ kinds.Register ∷ kinds.Register ∷ kinds.Register ∷ l) (kinds_of prices tail vs (record { normal = after_group 0 v s.normal; low = after_group 1 v s.low }))

-- prices stay within theirs
price_small : (s : Start) (h : History) → Admitted s h → nat_abs (price_now h) ≤ most_price
price_small s [] a = omega arith
price_small s (turned (opens p c) ∷ h) a = ltb-false _ _ (quiet _ _ (all_quiet (turn_checks s h (opens p c)) a.2).1.0)
price_small s (e ∷ h) a = price_small s h a.0

value_more : (b : Bool) (x c : ℤ) (n d : ℕ) → nat_abs x ≤ n * most_price → nat_abs c ≤ most_price → nat_abs (cond b (x +ℤ (pos d *ℤ c)) x) ≤ cond b (n + d) n * most_price
value_more true x c n d l k =
    let e = product_size (pos d) c in
    let m : d * nat_abs c ≤ d * most_price = mul-le-mul (omega arith) k in
    let t = sum_size x (pos d *ℤ c) in
    omega arith
value_more false x c n d l k = l

value_small : (s : Start) (h : History) → Admitted s h → (p : ℕ) → nat_abs (value_sum h p) ≤ volume_sum h p * most_price
value_small s [] a p = omega arith
value_small s (turned divides ∷ h) a p = value_more (eqb (period_now h) p) (value_sum h p) (price_now h) (volume_sum h p) (priced h) (value_small s h a.0 p) (price_small s h a.0)
value_small s (e ∷ h) a p = value_small s h a.0 p

mean_small : (v : ℤ) (n : ℕ) → nat_abs v ≤ n * most_price → nat_abs (price_of v n) ≤ most_price
mean_small v n l = either_way (eqb n 0) (nat_abs (price_of v n) ≤ most_price) (λ t. rw t (omega arith)) (λ e. rw e (floor_within v n most_price (let some = eqb-false n 0 e in omega arith) l))

pub means_small : (s : Start) (h : History) → Admitted s h → (p : ℕ) → nat_abs (price_in h p) ≤ most_price
means_small s h a p = mean_small (value_sum h p) (volume_sum h p) (value_small s h a p)

worth_small : (p z : ℤ) → nat_abs p ≤ most_price → nat_abs z ≤ most_volume → nat_abs (value_at p z) ≤ 6500000000000
unfolding value_at
worth_small p z l k =
    let e = product_size z p in
    let m : nat_abs z * nat_abs p ≤ most_volume * most_price = mul-le-mul k l in
    floor_within (z *ℤ p) per_mwh 6500000000000 (lit< tt) (omega arith)

amount_small : (p z v : ℤ) → nat_abs p ≤ most_price → nat_abs z ≤ most_volume → nat_abs (z +ℤ v) ≤ most_volume → nat_abs (amount_of p z v) ≤ 13000000000000
unfolding amount_of
amount_small p z v l j k = let x = worth_small p z l j in let y = worth_small p (z +ℤ v) l k in omega (arith, ints)

-- eight bytes hold such numbers
eight : (z : ℤ) → nat_abs z ≤ 100000000000000000 → Within 8 z
eight (pos n) l = omega arith
eight (negsuc n) l = omega arith

-- a record that can be read again
writable_register : (b s c r : ℕ) (v m : ℤ) → b ≤ 65535 → s ≤ 65535 → c ≤ 16 → r ≤ 3 → nat_abs v ≤ 100000000000000000 → nat_abs m ≤ 100000000000000000 → Writable pages (records.Register b s c r v m)
writable_register b s c r v m x y z w u t = record { fits = (omega arith, (omega arith, (omega arith, (omega arith, (eight v u, (eight m t, tt)))))); four = tt }

writable_group : (h : History) (g : Group) → Named g → ((r : ℕ) → r < 4 → nat_abs (allocated h g r) ≤ most_volume) → ((r : ℕ) → r < 4 → nat_abs (real h g r) ≤ most_volume) → Writable pages (records.Group (volumes_in h g))
writable_group h g n x y =
    let a = n.brp in
    let b = n.supplier in
    let c = n.class in
    record {
      fits = (omega arith, (omega arith, (omega arith, (eight _ (few (x 0 (omega arith))), (eight _ (few (x 1 (omega arith))), (eight _ (few (x 2 (omega arith))), (eight _ (few (x 3 (omega arith))), (eight _ (few (y 0 (omega arith))), (eight _ (few (y 1 (omega arith))), (eight _ (few (y 2 (omega arith))), (eight _ (few (y 3 (omega arith))), tt)))))))))));
      four = (refl, refl);
    }
  where
    few : {n : ℕ} → n ≤ most_volume → n ≤ 100000000000000000
    few l = omega arith

all_append : (xs ys : List PageRecord) → AllByRecursion (Writable pages) xs → AllByRecursion (Writable pages) ys → AllByRecursion (Writable pages) (xs ++ ys)
all_append xs ys a b = recursion_from_All (Writable pages) (xs ++ ys) (All-append (Writable pages) xs ys (All-from_recursion (Writable pages) xs a) (All-from_recursion (Writable pages) ys b))

-- the prices of the page
abbrev prices_of : History → List ℤ
prices_of h = two (price_in h)

-- the running totals leave room for what is yet to come
pub record Roomy (h : History) (ks : List Group) (s : Running) : Type 0 where
  pub normal : nat_abs s.normal + total (settled_size h 0) ks ≤ most_volume
  pub low : nat_abs s.low + total (settled_size h 1) ks ≤ most_volume

one_of : (x v w : ℤ) (n : ℕ) → nat_abs x + (nat_abs v + nat_abs w + n) ≤ most_volume → (nat_abs x ≤ most_volume) × (nat_abs (x +ℤ v) ≤ most_volume) × (nat_abs ((x +ℤ v) +ℤ w) + n ≤ most_volume) × (nat_abs v ≤ most_volume) × (nat_abs w ≤ most_volume)
one_of x v w n l = (omega arith, omega (arith, ints), omega (arith, ints), omega arith, omega arith)

writable_groups : (s : Start) (h : History) → Admitted s h → (ks : List Group) → ((g : Group) → listed group_rules g ks ≡ true → Named g) → (t : Running) → Roomy h ks t → AllByRecursion (Writable pages) (group_records (prices_of h) t (map (volumes_in h) ks))
writable_groups s h a [] named t room = tt
writable_groups s h a (g ∷ gs) named t room =
    let n = named g (rw (self g)) in
    let p0 = means_small s h a 0 in
    let p1 = means_small s h a 1 in
    let x = one_of t.normal (reconciliation_of h g 0) (reconciliation_of h g 2) _ room.normal in
    let y = one_of t.low (reconciliation_of h g 1) (reconciliation_of h g 3) _ room.low in
    let fit : (r : ℕ) (v m : ℤ) → r ≤ 3 → nat_abs v ≤ most_volume → nat_abs m ≤ 13000000000000 → Writable pages (records.Register g.brp g.supplier g.class r v m) = λ (r : ℕ) (v m : ℤ) (k : r ≤ 3) (u : nat_abs v ≤ most_volume) (w : nat_abs m ≤ 13000000000000). writable_register g.brp g.supplier g.class r v m n.brp n.supplier n.class k (omega arith) (omega arith) in (
      writable_group h g n (λ r l. allocated_small s h a g r l) (λ r l. real_small s h a g r l),
      (
        fit 0 (reconciliation_of h g 0) _ (omega arith) x.3 (amount_small (price_in h 0) t.normal (reconciliation_of h g 0) p0 x.0 x.1),
        (
          fit 1 (reconciliation_of h g 1) _ (omega arith) y.3 (amount_small (price_in h 1) t.low (reconciliation_of h g 1) p1 y.0 y.1),
          (
            fit 2 (reconciliation_of h g 2) _ (omega arith) x.4 (amount_small (price_in h 0) (t.normal +ℤ reconciliation_of h g 0) (reconciliation_of h g 2) p0 x.1 (let z = x.2 in omega arith)),
            (
              fit 3 (reconciliation_of h g 3) _ (omega arith) y.4 (amount_small (price_in h 1) (t.low +ℤ reconciliation_of h g 1) (reconciliation_of h g 3) p1 y.1 (let z = y.2 in omega arith)),
              writable_groups s h a gs (λ k l. named k (grind arith)) (after_one h g t) (record { normal = x.2; low = y.2 }),
            ),
          ),
        ),
      ),
    )

-- what was posted in a period
posted_more : (b : Bool) (x y n : ℕ) → x ≤ n * most_booked → y ≤ most_booked → cond b (x + y) x ≤ (n + 1) * most_booked
posted_more b x y n l k = grind arith

one_kind : (f : ℕ → ℕ) (k n : ℕ) → k < 6 → gross f ≤ n → f (k + 1) ≤ n
one_kind f k n l g = grind arith

posted_in_small : (s : Start) (h : History) → Admitted s h → (p k : ℕ) → k < 6 → posted_in h p (k + 1) ≤ done h * most_booked
posted_in_small s [] a p k l = omega arith
posted_in_small s (turned divides ∷ h) a p k l = posted_more (eqb (period_now h) p) (posted_in h p (k + 1)) (posted h (k + 1)) (done h) (posted_in_small s h a.0 p k l) (one_kind (posted h) k most_booked l (gross_within s h a.0))
posted_in_small s (e ∷ h) a p k l = posted_in_small s h a.0 p k l

-- the size of a net is no more than all sizes
net_size : (f : Group → ℤ) (n : Group → ℕ) → ((g : Group) → nat_abs (f g) ≤ n g) → (ks : List Group) → nat_abs (net f ks) ≤ total n ks
net_size f n e [] = omega arith
net_size f n e (g ∷ gs) = let x = e g in let ih = net_size f n e gs in let t = sum_size (f g) (net f gs) in omega arith

losses_small : (s : Start) (h : History) → Admitted s h → (p : ℕ) → nat_abs (losses_in h p) ≤ 20000000000000
losses_small s h a p =
    let x = posted_in_small s h a p 4 (omega arith) in
    let y = posted_in_small s h a p 5 (omega arith) in
    let d = done_small s h a in
    omega (arith, ints)

loss_volume_small : (s : Start) (h : History) → Admitted s h → (p : ℕ) → p < 2 → nat_abs (loss_volume_in h p) ≤ most_volume
loss_volume_small s h a p k =
    let b = balance s h a p k in
    let n = net_size (settled_at h p) (settled_size h p) (λ g. sum_size (reconciliation_of h g (register 0 p)) (reconciliation_of h g (register 1 p))) (known h) in
    let t = all_settled s h a p k in
    against (net (settled_at h p) (known h)) (loss_volume_in h p) b (omega arith)
  where
    against : (x y : ℤ) → x +ℤ y ≡ pos 0 → nat_abs x ≤ most_volume → nat_abs y ≤ most_volume
    against x y e l = omega (arith, ints)

real_loss_small : (s : Start) (h : History) → Admitted s h → (p : ℕ) → p < 2 → nat_abs (real_loss_in h p) ≤ 40000000000000
real_loss_small s h a p k = let x = loss_volume_small s h a p k in let y = losses_small s h a p in parts (real_loss_in h p) (losses_in h p) x y
  where
    parts : (r l : ℤ) → nat_abs (r -ℤ l) ≤ most_volume → nat_abs l ≤ 20000000000000 → nat_abs r ≤ 40000000000000
    parts r l x y = omega (arith, ints)

-- S of a period after all groups
after_all : (h : History) (p : ℕ) → p < 2 → (ks : List Group) (t : ℤ) → after_groups p (map (volumes_in h) ks) t ≡ t +ℤ net (settled_at h p) ks
after_all h (suc (suc p)) k ks t = absurd (omega arith)
after_all h p k [] t = omega (arith, ints)
after_all h p k (g ∷ gs) t = after_all h p k gs _ ∙ omega (arith, ints)

end_small : (s : Start) (h : History) → Admitted s h → (p : ℕ) → p < 2 → (nat_abs (after_groups p (map (volumes_in h) (known h)) (pos 0)) ≤ most_volume) × (after_groups p (map (volumes_in h) (known h)) (pos 0) +ℤ loss_volume_in h p ≡ pos 0)
end_small s h a p k =
    let e = after_all h p k (known h) (pos 0) in
    let b = balance s h a p k in
    let l = loss_volume_small s h a p k in
    ends _ (net (settled_at h p) (known h)) (loss_volume_in h p) e b l
  where
    ends : (x n v : ℤ) → x ≡ pos 0 +ℤ n → n +ℤ v ≡ pos 0 → nat_abs v ≤ most_volume → (nat_abs x ≤ most_volume) × (x +ℤ v ≡ pos 0)
    ends x n v e b l = (omega (arith, ints), omega (arith, ints))

writable_period : (s : Start) (h : History) → Admitted s h → (p : ℕ) → p < 2 → (amount : ℤ) → nat_abs amount ≤ 13000000000000 → Writable pages (records.Period p (price_in h p) (real_loss_in h p) (losses_in h p) (loss_volume_in h p) amount)
writable_period s h a p k amount l =
    let x = means_small s h a p in
    let y = real_loss_small s h a p k in
    let z = losses_small s h a p in
    let w = loss_volume_small s h a p k in
    record { fits = (omega arith, (eight _ (omega arith), (eight _ (omega arith), (eight _ (omega arith), (eight _ (omega arith), (eight _ (omega arith), tt)))))); four = tt }

last_amount : (s : Start) (h : History) → Admitted s h → (p : ℕ) → p < 2 → nat_abs (amount_of (price_in h p) (after_groups p (map (volumes_in h) (known h)) (pos 0)) (loss_volume_in h p)) ≤ 13000000000000
last_amount s h a p k = let e = end_small s h a p k in amount_small (price_in h p) _ (loss_volume_in h p) (means_small s h a p) e.0 (subst (λ (z : ℤ). nat_abs z ≤ most_volume) (sym e.1) (omega arith))

party_small : (s : Start) (h : History) → Admitted s h → s.loss_party ≤ 65535
party_small s [] a = inside _ _ s.loss_party (quiet _ _ (all_quiet (begin_checks s.quarters s.loss_party) a).1.0)
party_small s (moved m ∷ h) a = party_small s h a.0
party_small s (e ∷ h) a = party_small s h a.0

page_writable : (s : Start) (h : History) → Admitted s h → AllByRecursion (Writable pages) (page_in s h)
page_writable s h a =
    let q = quarters_small s h a in
    let l = party_small s h a in
    let n = groups_few s h a in
    let m = length-map (known h) (volumes_in h) in
    let x = all_settled s h a 0 (omega arith) in
    let y = all_settled s h a 1 (omega arith) in (
      record { fits = (omega arith, (omega arith, (omega arith, tt))); four = tt },
      all_append (group_records (prices_of h) start (map (volumes_in h) (known h))) _
          (writable_groups s h a (known h) (all_named s h a) start (record { normal = omega arith; low = omega arith }))
          (writable_period s h a 0 (omega arith) _ (last_amount s h a 0 (omega arith)), (writable_period s h a 1 (omega arith) _ (last_amount s h a 1 (omega arith)), tt)),
    )

page_kinds : (s : Start) (h : History) → map page_kind_of (page_in s h) ≡ order (length (known h))
page_kinds s h = ap (λ l. kinds.Head ∷ l) (kinds_of (prices_of h) _ (map (volumes_in h) (known h)) start ∙ ap (λ n. group_kinds n ++ (kinds.Period ∷ kinds.Period ∷ [])) (length-map (known h) (volumes_in h)))

-- whoever reads the bytes reads these records
decoded_once : (xs ys : List PageRecord) → AllByRecursion (Writable pages) xs → AllByRecursion (Writable pages) ys → run pages xs ≡ run pages ys → xs ≡ ys
decoded_once [] [] a b e = refl
decoded_once [] (y ∷ ys) a b e = absurd (some_byte pages y (run pages ys) (sym e))
decoded_once (x ∷ xs) [] a b e = absurd (some_byte pages x (run pages xs) e)
decoded_once (x ∷ xs) (y ∷ ys) a b e =
    let r = same_record lawful x y (run pages xs) (run pages ys) a.0 b.0 e in
    let ih = decoded_once xs ys a.1 b.1 r.1 in
    λ i. r.0 i ∷ ih i

-- what the records of the groups settle
volumes_sum : (h : History) (p : ℕ) → p < 2 → (tail : List PageRecord) (ks : List Group) (t : Running) → net (record_volume p) (group_records (prices_of h) t (map (volumes_in h) ks) ++ tail) ≡ net (settled_at h p) ks +ℤ net (record_volume p) tail
volumes_sum h (suc (suc p)) k tail ks t = absurd (omega arith)
volumes_sum h p k tail [] t = omega (arith, ints)
volumes_sum h p k tail (g ∷ gs) t = let ih = volumes_sum h p k tail gs (after_one h g t) in omega (arith, ints)

page_volumes : (s : Start) (h : History) → Admitted s h → (p : ℕ) → p < 2 → net (record_volume p) (page_in s h) ≡ pos 0
page_volumes s h a (suc (suc p)) k = absurd (omega arith)
page_volumes s h a p k = let b = balance s h a p k in let v = volumes_sum h p k _ (known h) start in ap (λ z. pos 0 +ℤ z) v ∙ omega (arith, ints)

amounts_sum : (h : History) (p : ℕ) → p < 2 → (tail : List PageRecord) (ks : List Group) (t : Running) → net (record_amount p) (group_records (prices_of h) t (map (volumes_in h) ks) ++ tail) ≡ (value_at (price_in h p) (after_groups p (map (volumes_in h) ks) (running_in t p)) -ℤ value_at (price_in h p) (running_in t p)) +ℤ net (record_amount p) tail
unfolding amount_of
amounts_sum h (suc (suc p)) k tail ks t = absurd (omega arith)
amounts_sum h p k tail [] t = omega (arith, ints)
amounts_sum h p k tail (g ∷ gs) t = let ih = amounts_sum h p k tail gs (after_one h g t) in omega (arith, ints)

nothing_left : (p z v : ℤ) → z +ℤ v ≡ pos 0 → (value_at p z -ℤ value_at p (pos 0)) +ℤ amount_of p z v ≡ pos 0
unfolding amount_of
nothing_left p z v e = let f = ap (value_at p) e in omega (arith, ints)

page_amounts : (s : Start) (h : History) → Admitted s h → (p : ℕ) → p < 2 → net (record_amount p) (page_in s h) ≡ pos 0
page_amounts s h a (suc (suc p)) k = absurd (omega arith)
page_amounts s h a p k =
    let v = amounts_sum h p k _ (known h) start in
    let n = nothing_left (price_in h p) _ (loss_volume_in h p) (end_small s h a p k).1 in
    ap (λ z. pos 0 +ℤ z) v ∙ omega (arith, ints)

-- the line of a period on the page is the history's, priced
line_sum : (h : History) (p : ℕ) → p < 2 → (tail : List PageRecord) (loss : ℤ) (end : List Reconciled) (ks : List Group) (t : Running)
    → page_line p tail ≡ end → end ≡ priced_line (price_in h p) (after_groups p (map (volumes_in h) ks) (running_in t p)) (map unpriced (loss ∷ []))
    → page_line p (group_records (prices_of h) t (map (volumes_in h) ks) ++ tail) ≡ priced_line (price_in h p) (running_in t p) (map unpriced (line_in h p ks loss))
line_sum h (suc (suc p)) k tail loss end ks t e f = absurd (omega arith)
line_sum h p k tail loss end [] t e f = e ∙ f
line_sum h p k tail loss end (g ∷ gs) t e f =
    let x = reconciliation_of h g (register 0 p) in
    let y = reconciliation_of h g (register 1 p) in
    ap (λ l. record { volume = x; amount = amount_of (price_in h p) (running_in t p) x } ∷ record { volume = y; amount = amount_of (price_in h p) (running_in t p +ℤ x) y } ∷ l) (line_sum h p k tail loss end gs (after_one h g t) e f)

page_lines : (s : Start) (h : History) (p : ℕ) → p < 2 → page_line p (page_in s h) ≡ priced_line (price_in h p) (pos 0) (map unpriced (line_in h p (known h) (loss_volume_in h p)))
page_lines s h (suc (suc p)) k = absurd (omega arith)
page_lines s h p k = line_sum h p k _ (loss_volume_in h p) _ (known h) start refl refl

page_size_is : (s : Start) (h : History) → Admitted s h → length (page_bytes (month_at s h) (groups h)) ≡ page_size (groups h)
page_size_is s h a =
    ap (λ rs. length (run pages rs)) (figures s h a)
    ∙ page_is (length (known h)) (page_in s h) (record { kinds = page_kinds s h; writable = page_writable s h a })
    ∙ length_page (length (known h))
    ∙ ap (λ n. 93 + 162 * n) (sym (groups_long s h a))

pub page_law : (s : Start) (h : History) → Admitted s h → PageLaw s h (groups h)
page_law s h a = record {
  figures = figures s h a;
  page = record { kinds = page_kinds s h; writable = page_writable s h a };
  size = page_size_is s h a;
  decoded = λ rs w e. decoded_once rs (page_in s h) w (page_writable s h a) (e ∙ ap (run pages) (figures s h a));
  line = page_lines s h;
  volumes = page_volumes s h a;
  amounts = page_amounts s h a;
}
