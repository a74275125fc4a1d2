-- Postings and rows. Assumes nothing.
use Rattle.std.proofs.Common.{◌≡◌, ℕ, ◌+◌, ◌≤◌, Option, Some, Result, Ok, Err, MatchResult, List, ℤ, pos, ◌+ℤ◌, nat_abs, vec_items, sym, refl, ap, ◌∙◌, subst, arith}
use Rattle.std.proofs.lemmas.Bool.{false≢true}
use Rattle.std.proofs.lemmas.Int.{ints}
use Rattle.allocation.specs.declared.line.Share.{Share}
use Rattle.allocation.specs.declared.line.Posted.{Posted}
use Rattle.allocation.specs.Lines.{Divides}
use Rattle.allocation.specs.Refusals.{Decided}
use Rattle.std.specs.Result.{is_ok, IsErrAnd}
use Rattle.std.proofs.lemmas.Result.{err_from_is_err_and}
use Rattle.quarter.specs.declared.refusal.Reason.TheVariants.{Quarter}
use Rattle.fault.specs.declared.cause.Fault.{Fault}
use Rattle.quarter.specs.declared.refusal.Refusal.{Refusal}
use Rattle.quarter.specs.declared.report.Report.{Report}
use Rattle.quarter.specs.Reports.{Booked}
use Rattle.quarter.specs.declared.input.Net.{Net}
use Rattle.quarter.specs.declared.input.Net.TheVariants.{Exchange, Measured, Losses}
use Rattle.quarter.specs.declared.input.Posting.{Posting}
use Rattle.quarter.specs.declared.input.Way.{Way}
use Rattle.quarter.specs.declared.input.Way.TheVariants.{In, Out}
use Rattle.quarter.specs.Postings.{signed, counts, nets, with_posting}
use Rattle.quarter.specs.Rows.{line_of, Rising}

signed_size : (way : Way) (wh : ℕ) → nat_abs (signed way wh) ≡ wh
signed_size In wh = refl
signed_size Out wh = omega (arith, ints)

sum_size : (x v : ℤ) → nat_abs (x +ℤ v) ≤ nat_abs x + nat_abs v
sum_size x v = omega (arith, ints)

nets_within : (x m l v : ℤ) (net : Net) (g w : ℕ) → nat_abs x + nat_abs m + nat_abs l ≤ g → nat_abs v ≡ w → nat_abs (x +ℤ counts Exchange net v) + nat_abs (m +ℤ counts Measured net v) + nat_abs (l +ℤ counts Losses net v) ≤ g + w
nets_within x m l v Exchange g w h e = omega (arith, sum_size x v, sum_size m (pos 0), sum_size l (pos 0))
nets_within x m l v Measured g w h e = omega (arith, sum_size x (pos 0), sum_size m v, sum_size l (pos 0))
nets_within x m l v Losses g w h e = omega (arith, sum_size x (pos 0), sum_size m (pos 0), sum_size l v)

pub posted_within : (r n : Posted) (o : Posting) (g : ℕ) → r ≡ with_posting n o → nat_abs n.exchange + nat_abs n.measured + nat_abs n.losses ≤ g → nat_abs r.exchange + nat_abs r.measured + nat_abs r.losses ≤ g + o.wh
posted_within r n o g e h = rw e (nets_within n.exchange n.measured n.losses (signed o.way o.wh) o.net g o.wh h (signed_size o.way o.wh))

-- what a call decided is so of the value that `?` takes out of it
pub decided_ok : {A : Type 0} (o : Option Fault) (P : A → Type 0) (Q : Fault → Type 0) (r : Result A Fault) {m : Result A Refusal} {a : A} → Decided o r P → MatchResult r (λ x. m ≡ Ok x) Q → is_ok m ≡ is_ok r → m ≡ Ok a → P a
decided_ok o P Q (Ok x) {m} {a} h e v w = let i : x ≡ a = cc in subst P i h.1
decided_ok o P Q (Err y) {m} {a} h e v w = absurd (false≢true (sym v ∙ ap is_ok w))

-- and the fault that it decided on is in what `?` returns, at its line
pub decided_err : {A : Type 0} {Post : Fault → Refusal → Type 0} (n : ℕ) (o : Option Fault) (P : A → Type 0) (r : Result A Fault) {m : Result A Refusal} {d : Refusal} → Decided o r P → MatchResult r (λ x. m ≡ Ok x) (λ e. IsErrAnd m (Post e))
    → ((e : Fault) (x : Refusal) → Post e x → x ≡ record { line = n; reason = Quarter e }) → m ≡ Err d → (e : Fault) × (o ≡ Some e) × (d ≡ record { line = n; reason = Quarter e })
decided_err n o P (Ok x) {m} {d} h e k w = absurd (false≢true (ap is_ok (sym w ∙ e)))
decided_err n o P (Err y) {m} {d} h e k w =
    let p = err_from_is_err_and m e in
    let i : d ≡ p.0 = cc in
    (y, h, i ∙ k y p.0 p.2)

pub booked : (r : Report) (p : Posted) (ss ns : List Share) → Rising (vec_items r.rows) → p ≡ nets r.postings → ss ≡ line_of (vec_items r.rows) → vec_items r.line ≡ ns → Divides p ss ns r.allocated → Booked r
booked r p ss ns order e f g d =
    record {
      order = order;
      split =
          let first = subst (λ q. Divides q ss ns r.allocated) e d in
          let second = subst (λ xs. Divides (nets r.postings) xs ns r.allocated) f first in
          subst (λ xs. Divides (nets r.postings) (line_of (vec_items r.rows)) xs r.allocated) (sym g) second;
    }
