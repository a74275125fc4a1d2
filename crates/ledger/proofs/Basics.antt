-- The two orders of keys, registers by number, and what the first check that speaks says of the others. Assumes nothing.
use Rattle.std.proofs.Common.{◌≡◌, ℕ, ◌+◌, ◌<◌, ◌≤◌, Bool, true, false, cond, List, [], ◌∷◌, ◌++◌, get_or, ℤ, pos, ◌+ℤ◌, neg_ℤ, nat_abs, Some, None, Option, refl, arith}
use Rattle.std.proofs.lemmas.Int.{ints}
use Rattle.std.proofs.lemmas.Bool.Decides.{nat_tests}
use Rattle.fault.specs.declared.cause.Fault.{Fault}
use Rattle.fault.specs.declared.cause.Fault.TheVariants.{NotEnrolled}
use Rattle.rows.specs.declared.connection.ConnectionRow.{ConnectionRow}
use Rattle.rows.specs.Registers.{four, two, any_register}
use Rattle.rows.specs.Weighing.{or_else}
use Rattle.tables.specs.BookRows.{code, connection_rules, group_rules}
use Rattle.tables.specs.Rules.{TotalOrder, look}
use Rattle.ledger.specs.Checks.{Check, outside, first, when, of_connection}

-- a value of one of two, shown for both
pub either_way : (b : Bool) (P : Type 0) → (b ≡ true → P) → (b ≡ false → P) → P
either_way true P t f = t refl
either_way false P t f = f refl

-- what an accepted number is within, the size of a number with a sign, and that of a sum
pub inside : (least most n : ℕ) → outside least most n ≡ false → n ≤ most
inside least most n e = grind (arith, nat_tests)

pub sign_size : (b : Bool) (n : ℕ) → nat_abs (cond b (neg_ℤ (pos n)) (pos n)) ≡ n
sign_size true n = omega (arith, ints)
sign_size false n = refl

pub sum_size : (x y : ℤ) → nat_abs (x +ℤ y) ≤ nat_abs x + nat_abs y
sum_size x y = omega (arith, ints)

pub connection_order : TotalOrder connection_rules.less
connection_order = record {
  irreflexive = λ a. grind (arith, nat_tests);
  transitive = λ a b c x y. grind (arith, nat_tests);
  total = λ a b x y. grind (arith, nat_tests);
}

pub group_order : TotalOrder group_rules.less
group_order = record {
  irreflexive = λ a. grind (arith, nat_tests);
  transitive = λ a b c x y. grind (arith, nat_tests);
  total = λ a b x y. grind (arith, nat_tests);
}

-- something for each register, read by its number
pub four_read : {A : Type 0} (f : ℕ → A) (d : A) (r : ℕ) → r < 4 → get_or (four f) r d ≡ f r
four_read f d r h = grind arith

pub four_same : {A : Type 0} (f g : ℕ → A) → ((r : ℕ) → r < 4 → f r ≡ g r) → four f ≡ four g
four_same f g e = grind arith

pub two_read : {A : Type 0} (f : ℕ → A) (d : A) (r : ℕ) → r < 2 → get_or (two f) r d ≡ f r
two_read f d r h = grind arith

pub two_same : {A : Type 0} (f g : ℕ → A) → ((r : ℕ) → r < 2 → f r ≡ g r) → two f ≡ two g
two_same f g e = grind arith

pub no_register : (f : ℕ → Bool) → any_register f ≡ false → (r : ℕ) → r < 4 → f r ≡ false
no_register f e r h = grind arith

pub all_registers : (f : ℕ → Bool) → ((r : ℕ) → r < 4 → f r ≡ false) → any_register f ≡ false
all_registers f e = grind arith

-- where no check speaks, none of them does
pub or_else_none : (c d : Check) → or_else c d ≡ None → (c ≡ None) × (d ≡ None)
or_else_none c d e = (grind arith, grind arith)

abbrev pub AllQuiet : List Check → Type 0
AllQuiet [] = Unit {0}
AllQuiet (c ∷ cs) = (c ≡ None) × AllQuiet cs

pub all_quiet : (cs : List Check) → first cs ≡ None → AllQuiet cs
all_quiet [] e = tt
all_quiet (c ∷ cs) e = let q = or_else_none c (first cs) e in (q.0, all_quiet cs q.1)

pub both_quiet : (xs ys : List Check) → first (xs ++ ys) ≡ None → (first xs ≡ None) × (first ys ≡ None)
both_quiet [] ys e = (refl, e)
both_quiet (x ∷ xs) ys e = (grind (arith, both_quiet xs ys), grind (arith, both_quiet xs ys))

pub quiet : (b : Bool) (f : Fault) → when b f ≡ None → b ≡ false
quiet b f e = grind arith

-- the connection was found
pub found : (conns : List ConnectionRow) (c : ℕ) (checks : ConnectionRow → List Check) → first (of_connection conns c checks) ≡ None → (conn : ConnectionRow) × (look connection_rules conns c ≡ Some conn) × (first (checks conn) ≡ None)
found conns c checks e = at (look connection_rules conns c) refl e
  where
    at : (o : Option ConnectionRow) → look connection_rules conns c ≡ o → first (elim o [ Some conn ↦ checks conn | None ↦ Some (NotEnrolled (code c)) ∷ [] ]) ≡ None → (conn : ConnectionRow) × (look connection_rules conns c ≡ Some conn) × (first (checks conn) ≡ None)
    at (Some conn) was e = (conn, was, e)
    at None was e = absurd cc
