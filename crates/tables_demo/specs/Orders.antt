-- Keys that compare in a total order of their own, and the test for the lesser that it gives. Assumes nothing.
use Rattle.std.specs.Prelude.{◌≡◌, Bool, true, false, refl}
use Rattle.std.proofs.Common.{Ordering, Less, Equal, Greater, true≢false, sym, ap, ◌∙◌}
use Rattle.std.specs.Cmp.{IsTotalOrder}
use Rattle.std.specs.Ordering.{is_lt, ordering_reverse}
use Rattle.std.proofs.lemmas.Cmp.{tied_itself}
use Rattle.tables.specs.Rules.{TotalOrder}

pub is_Less : (o : Ordering) → is_lt o ≡ true → o ≡ Less
is_Less Less e = refl
is_Less Equal e = absurd (true≢false (sym e))
is_Less Greater e = absurd (true≢false (sym e))

is_Equal : (o : Ordering) → is_lt o ≡ false → is_lt (ordering_reverse o) ≡ false → o ≡ Equal
is_Equal Less p q = absurd (true≢false p)
is_Equal Equal p q = refl
is_Equal Greater p q = absurd (true≢false q)

-- the test is a total order of its own, where only a key compares equal to itself
pub total_order : {K : Type 0} {less : K → K → Bool} {cmp : K → K → Ordering} → IsTotalOrder cmp → ((a b : K) → less a b ≡ is_lt (cmp a b)) → ((a b : K) → cmp a b ≡ Equal → a ≡ b) → TotalOrder less
total_order total compared same = record {
  irreflexive = λ a. compared a a ∙ ap is_lt (tied_itself total a);
  transitive = λ a b c p q. compared a c ∙ ap is_lt (total.trans a b c (is_Less _ (sym (compared a b) ∙ p)) (is_Less _ (sym (compared b c) ∙ q)));
  total = λ a b p q. same a b (is_Equal _ (sym (compared a b) ∙ p) (ap is_lt (sym (total.antisymm b a)) ∙ sym (compared b a) ∙ q));
}
