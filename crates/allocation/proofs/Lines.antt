-- A line, from its head on. Assumes nothing.
use Rattle.std.proofs.Common.{◌≡◌, ℕ, ◌+◌, ◌<◌, ◌≤◌, List, ◌∷◌, ◌++◌, length, get_or, take, drop, set, ℤ, ◌+ℤ◌, nat_abs, sym, ap, ◌∙◌, subst, arith}
use Rattle.std.proofs.lemmas.List.{drop_more}
use Rattle.std.proofs.lemmas.Int.{ints}
use Rattle.fault.specs.declared.cause.Direction.{Direction}
use Rattle.fault.specs.declared.cause.Direction.TheVariants.{Offtake, FeedIn}
use Rattle.allocation.specs.declared.line.Share.{Share}
use Rattle.allocation.specs.declared.split.Running.{Running}
use Rattle.allocation.specs.declared.split.Split.{Split}
use Rattle.allocation.specs.Correction.{profiled}
use Rattle.allocation.specs.Scale.{most_weights}
use Rattle.allocation.specs.Steps.{part, Stepped}
use Rattle.allocation.specs.Lines.{total, net, shared, divided, got_in}
use Rattle.allocation.proofs.Along.{along_more, drop_past_set}

-- t and v are what the first i weights come to
pub record Counted (line : List Share) (i t : ℕ) (v : ℤ) : Type 0 where
  pub weights : t + total (drop i line) ≡ total line
  pub nets : v +ℤ net (drop i line) ≡ net line
  pub few : t ≤ most_weights
  pub within : nat_abs v ≤ t

pub one_counted : (line : List Share) (i t : ℕ) (v : ℤ) (s : Share) (n : ℕ) (m : ℤ) → Counted line i t v → i < length line → n ≡ t + (get_or line i s).weight → m ≡ v +ℤ profiled (get_or line i s).direction (get_or line i s).weight → n ≤ most_weights → nat_abs m ≤ n → Counted line (i + 1) n m
one_counted line i t v s n m h l f g few within =
    let cut = drop_more line i s l in
    record {
      weights = omega (arith, h.weights, ap total cut);
      nets = omega (arith, ints, h.nets, ap net cut);
      few = few;
      within = within;
    }

-- what a running split has handed out in one direction
abbrev pub given : Running → Direction → ℤ
given p Offtake = p.offtake
given p FeedIn = p.feed_in

-- the first i shares are corrected, and out is what the split has handed out in each direction
pub record Midway (t : ℕ) (r : ℤ) (start line : List Share) (i passed : ℕ) (out : Direction → ℤ) : Type 0 where
  pub written : take i line ++ divided t r passed (drop i line) ≡ divided t r 0 start
  pub left : passed + total (drop i line) ≡ t
  pub gathered : (d : Direction) → out d +ℤ got_in d (divided t r passed (drop i line)) ≡ got_in d (divided t r 0 start)

midway_more : (t : ℕ) (r : ℤ) (start line : List Share) (i passed : ℕ) (out next : Direction → ℤ) (s : Share) (m : ℕ) → Midway t r start line i passed out → i < length line → m ≡ passed + (get_or line i s).weight
    → ((d : Direction) → next d ≡ out d +ℤ part d (get_or line i s).direction (shared t r passed (get_or line i s)).volume)
    → Midway t r start (set line i (shared t r passed (get_or line i s))) (i + 1) m next
midway_more t r start line i passed out next s m h l e n =
    let y = shared t r passed (get_or line i s) in
    let k = passed + (get_or line i s).weight in
    let cut = drop_more line i s l in
    let after = drop_past_set line i s y l in
    let rest : divided t r k (drop (i + 1) (set line i y)) ≡ divided t r k (drop (i + 1) line) = ap (divided t r k) after in
    let whole : divided t r passed (drop i line) ≡ y ∷ divided t r k (drop (i + 1) line) = ap (divided t r passed) cut in
    subst (λ (n : ℕ). Midway t r start (set line i y) (i + 1) n next) (sym e) (record {
      written = along_more (λ b x. b + x.weight) (shared t r) _ line i passed s h.written l;
      left = omega (arith, h.left, ap total cut, ap total after);
      gathered = λ d. omega (arith, ints, h.gathered d, n d, ap (got_in d) rest, ap (got_in d) whole);
    })

pub midway_turn : (q : Split) (start line : List Share) (i : ℕ) (s y : Share) (p n : Running) → p.split ≡ q → Midway q.total q.residual start line i p.passed (given p) → i < length line
    → y ≡ shared p.split.total p.split.residual p.passed (get_or line i s)
    → Stepped p (get_or line i s).direction (get_or line i s).weight (record { correction = y.correction; volume = y.volume }) n
    → (n.split ≡ q) × Midway q.total q.residual start (set line i y) (i + 1) n.passed (given n)
midway_turn q start line i s y p n same h l e step =
    (step.split ∙ same, rw full (midway_more _ _ start line i p.passed (given p) (given n) s n.passed h l step.passed sums))
  where
    full : y ≡ shared q.total q.residual p.passed (get_or line i s)
    full = e ∙ ap (λ x. shared x.total x.residual p.passed (get_or line i s)) same

    sums : (d : Direction) → given n d ≡ given p d +ℤ part d (get_or line i s).direction (shared q.total q.residual p.passed (get_or line i s)).volume
    sums Offtake = step.offtake ∙ ap (λ v. p.offtake +ℤ part Offtake (get_or line i s).direction v) (ap (λ x. x.volume) full)
    sums FeedIn = step.feed_in ∙ ap (λ v. p.feed_in +ℤ part FeedIn (get_or line i s).direction v) (ap (λ x. x.volume) full)
