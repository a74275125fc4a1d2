-- Texts are in the order that arrays of bytes have of their own, which is a total order, and the first difference decides it. Assumes nothing.
use Rattle.std.specs.Prelude.{◌≡◌, ℕ, ◌+◌, ◌<◌, ◌≤◌, true, false, List, ◌∷◌, length, drop, ◌≢◌, nat_lt, slice_index, slice_index_or, refl}
use Rattle.std.proofs.Common.{arith, sym}
use Rattle.std.specs.Cmp.Lexicographic.{nat_list_cmp_total, slice_cmp}
use Rattle.std.specs.Ordering.{is_lt, nat_cmp}
use Rattle.std.proofs.lemmas.Bool.Decides.{nat_tests}
use Rattle.std.proofs.lemmas.Cmp.{same_from_slice_cmp}
use Rattle.std.proofs.lemmas.List.{drop_all, drop_more}
use Rattle.std.proofs.lemmas.Map.Lookups.{exact_bytes}
use Rattle.tables_demo.specs.Orders.{total_order}
use Rattle.tables.specs.Rules.{TotalOrder}
use Rattle.tables_demo.specs.Bytes.{text_before}

pub text_compared : (a b : List ℕ) → text_before a b ≡ is_lt (slice_cmp nat_cmp a b)
text_compared a b = sym (same_from_slice_cmp nat_cmp is_lt text_before refl (λ _ _. refl) (λ _ _. refl) (λ x y xs ys o h. grind (arith, nat_tests)) a b _ refl)

pub text_order : TotalOrder text_before
text_order = total_order nat_list_cmp_total text_compared exact_bytes

pub text_irreflexive : (a : List ℕ) → text_before a a ≡ false
text_irreflexive a = text_order.irreflexive a

pub text_transitive : (a b c : List ℕ) → text_before a b ≡ true → text_before b c ≡ true → text_before a c ≡ true
text_transitive a b c p q = text_order.transitive a b c p q

pub text_total : (a b : List ℕ) → text_before a b ≡ false → text_before b a ≡ false → a ≡ b
text_total a b p q = text_order.total a b p q

module _ (a b : List ℕ) (i : ℕ) (in_a : i < length a) (in_b : i < length b) where
  opened : text_before (drop i a) (drop i b) ≡ text_before (slice_index a i ∷ drop (i + 1) a) (slice_index b i ∷ drop (i + 1) b)
  opened = rw (drop_more a i 0 in_a, drop_more b i 0 in_b)

  -- equal bytes leave it to the next
  pub same_byte : slice_index_or a i 0 ≡ slice_index b i → text_before (drop i a) (drop i b) ≡ text_before (drop (i + 1) a) (drop (i + 1) b)
  same_byte e = let o = opened in grind arith

  pub other_byte : (slice_index a i ≢ slice_index b i) → text_before (drop i a) (drop i b) ≡ nat_lt (slice_index a i) (slice_index b i)
  other_byte ne = let o = opened in grind arith

pub no_difference : (a b : List ℕ) (i : ℕ) → length a ≤ i → length b ≤ i → text_before (drop i a) (drop i b) ≡ false
no_difference a b i past_a past_b = rw (drop_all i a past_a, drop_all i b past_b)
