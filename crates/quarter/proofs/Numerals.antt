-- What `parse` reads is what the words say. Assumes nothing.
use Rattle.std.proofs.Common.{◌≡◌, ℕ, ◌^◌, ◌<◌, cond, List, [], ◌∷◌, length, Result, Ok, Err, Decides, MatchResult, sym, refl, ap, ◌∙◌}
use Rattle.std.specs.Str.Parse.{AllDigits, IsNumeral, ParsesUnsigned, digits_value, without_leading_plus}
use Rattle.std.specs.Char.{digit_value}
use Rattle.std.proofs.lemmas.Bool.{false_from_ne_true}
use Rattle.std.specs.Result.{IsErrAnd}
use Rattle.std.proofs.lemmas.Result.{err_from_is_err_and}
use Rattle.std.proofs.lemmas.Bool.Decides.{Decides-and, Decides-ltb}
use Rattle.quarter.specs.declared.refusal.Reason.{Reason}
use Rattle.quarter.specs.declared.refusal.Reason.TheVariants.{NotANumber}
use Rattle.quarter.specs.Words.{all_digits, is_numeral, whole_at}

all_digits-Decides : (w : List ℕ) → Decides (all_digits w) (AllDigits 10 w)
all_digits-Decides [] = (λ _. tt, λ _. refl)
all_digits-Decides (c ∷ cs) = Decides-and _ _ (Decides-ltb (digit_value c) 10) (all_digits-Decides cs)

is_numeral-Decides : (w : List ℕ) → Decides (is_numeral w) (IsNumeral 10 w × (digits_value 10 w < 2 ^ 64))
is_numeral-Decides w =
    let d = Decides-and _ _ (Decides-ltb 0 (length w)) (Decides-and _ _ (all_digits-Decides w) (Decides-ltb (digits_value 10 w) (2 ^ 64))) in
    (λ e. let h = d.0 e in ((h.0, h.1.0), h.1.1), λ h. d.1 (h.0.0, (h.0.1, h.1)))

-- the number of a word, or that it is none
pub whole_from_parse : {E : Type 0} {Post : E → Reason → Type 0} (place : ℕ) (w : List ℕ) (r : Result ℕ E) (m : Result ℕ Reason) → ParsesUnsigned 64 10 w r
    → MatchResult r (λ x. m ≡ Ok x) (λ e. IsErrAnd m (Post e)) → ((e : E) (x : Reason) → Post e x → x ≡ NotANumber place) → m ≡ whole_at place w
unfolding whole_at
whole_from_parse place w (Ok x) m h e k =
    let d = without_leading_plus w in
    e ∙ ap Ok h.1 ∙ sym (ap (λ b. cond b (Ok (digits_value 10 d)) (Err (NotANumber place))) ((is_numeral-Decides d).1 h.0))
whole_from_parse place w (Err y) m h e k =
    let d = without_leading_plus w in
    let p = err_from_is_err_and m e in
    p.1 ∙ ap Err (k y p.0 p.2) ∙ sym (ap (λ b. cond b (Ok (digits_value 10 d)) (Err (NotANumber place))) (false_from_ne_true (is_numeral d) (λ t. h ((is_numeral-Decides d).0 t))))
