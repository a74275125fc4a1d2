-- A divided line closes, and its volumes are near their exact shares. Assumes nothing.
use Rattle.std.proofs.Common.{◌≡◌, ℕ, zero, suc, ◌+◌, ◌≤◌, List, [], ◌∷◌, ℤ, pos, ◌+ℤ◌, ◌-ℤ◌, neg_ℤ, sym, refl, ap, ◌∙◌, subst, add-zero, add_assoc, zero-add, arith}
use Rattle.std.proofs.lemmas.Int.{ints}
use Rattle.allocation.specs.declared.line.Allocated.{Allocated}
use Rattle.allocation.specs.declared.line.Posted.{Posted}
use Rattle.allocation.specs.declared.line.Share.{Share}
use Rattle.allocation.specs.Correction.{share, correction_of}
use Rattle.allocation.specs.Lines.{total, net, residual, divided, got, priced, Fair, Divides}
use Rattle.allocation.proofs.Shares.{near, share_start, share_whole, share_none}

-- the corrections of a line are what the split gives out along it
got_divided : (t : ℕ) (r : ℤ) (b : ℕ) (line : List Share) → got (divided t r b line) ≡ net line +ℤ (share t r (b + total line) -ℤ share t r b)
unfolding correction_of
got_divided t r b [] = omega (arith, ints, ap (share t r) (add-zero b))
got_divided t r b (s ∷ ss) =
    let ih = got_divided t r (b + s.weight) ss in
    let seam = ap (share t r) (add_assoc b s.weight (total ss)) in
    omega (arith, ints)

-- all of R, where some weight carries it
all_given : (t : ℕ) (r : ℤ) → (t ≡ 0 → r ≡ pos 0) → share t r t -ℤ share t r 0 ≡ r
all_given zero r carried = let none = share_none 0 r in let e = carried refl in omega (arith, ints)
all_given (suc t) r carried = let whole = share_whole (suc t) r (omega arith) in let start = share_start (suc t) r in omega (arith, ints)

closed : (x m l v r g : ℤ) → r ≡ neg_ℤ (x +ℤ m +ℤ v +ℤ l) → g ≡ v +ℤ r → x +ℤ m +ℤ l +ℤ g ≡ pos 0
closed x m l v r g h k = omega (arith, ints)

closes : (p : Posted) (line : List Share) → (total line ≡ 0 → residual p line ≡ pos 0) → p.exchange +ℤ p.measured +ℤ p.losses +ℤ got (divided (total line) (residual p line) 0 line) ≡ pos 0
closes p line carried =
    let t = total line in
    let r = residual p line in
    let end : share t r (0 + t) ≡ share t r t = ap (share t r) (zero-add t) in
    closed p.exchange p.measured p.losses (net line) r _ refl (got_divided t r 0 line ∙ ap (λ z. net line +ℤ z) (ap (λ z. z -ℤ share t r 0) end ∙ all_given t r carried))

fair_from : (t : ℕ) (r : ℤ) (b : ℕ) (line : List Share) → b + total line ≤ t → Fair t r (divided t r b line)
fair_from t r b [] h = tt
fair_from t r b (s ∷ ss) h = (near t b s.weight r s.direction (omega arith), fair_from t r (b + s.weight) ss (omega arith))

fair : (r : ℤ) (line : List Share) → Fair (total line) r (divided (total line) r 0 line)
fair r line = fair_from (total line) r 0 line (omega arith)

pub divides : (p : Posted) (ss ns : List Share) (a : Allocated) → a.split.total ≡ total ss → a.net ≡ net ss → a.split.residual ≡ residual p ss → ns ≡ divided a.split.total a.split.residual 0 ss → a.priced.wh ≡ priced ns → Divides p ss ns a
divides p ss ns a t v r e d =
    let carried : total ss ≡ 0 → residual p ss ≡ pos 0 = λ (none : total ss ≡ 0). sym r ∙ a.split.carried (t ∙ none) in
    let full : ns ≡ divided (total ss) (residual p ss) 0 ss = e ∙ ap (λ n. divided n a.split.residual 0 ss) t ∙ ap (λ z. divided (total ss) z 0 ss) r in
    record {
      total_is = t;
      net_is = v;
      residual_is = r;
      volumes_are = full;
      priced_is = d;
      closes = subst (λ (l : List Share). p.exchange +ℤ p.measured +ℤ p.losses +ℤ got l ≡ pos 0) (sym full) (closes p ss carried);
      fair = subst (λ (l : List Share). Fair (total ss) (residual p ss) l) (sym full) (fair (residual p ss) ss);
    }
