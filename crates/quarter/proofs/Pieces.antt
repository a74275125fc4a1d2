-- The words that `split_whitespace` gives. Assumes nothing.
use Rattle.std.proofs.Common.{◌≡◌, ℕ, zero, ◌+◌, ◌-◌, ◌*◌, ◌/◌, ◌%◌, ◌<◌, ◌≤◌, true, false, List, [], ◌∷◌, ◌++◌, map, length, ⊎_elim, sym, refl, ap, ◌∙◌, subst, append_assoc, append-nil, arith}
use Rattle.std.specs.Char.{is_whitespace, is_not_whitespace}
use Rattle.std.specs.List.{All}
use Rattle.std.specs.Str.{chars, chars_after, continuation_len, lead_bits, encode_utf8_all, NonePass, NoCharPasses, EmptyOrStartsWithPassing}
use Rattle.std.specs.Str.Iter.{split_whitespace_steps, split_whitespace_rest}
use Rattle.std.proofs.lemmas.Bool.{cases_lt}
use Rattle.std.proofs.lemmas.Iterator.{YieldsList}
use Rattle.std.proofs.lemmas.Iterator.Consumers.{YieldsList-from_shown}
use Rattle.std.proofs.lemmas.List.{nil_from_length}
use Rattle.std.proofs.lemmas.List.Elements.{All-nil, All-cons}
use Rattle.std.proofs.lemmas.List.Splits.{slice_split_none, slice_split_at, slice_split-cons_yes}
use Rattle.std.proofs.lemmas.Str.{chars-nil, encode_ascii}
use Rattle.quarter.specs.Texts.{filled, words_among, words}
use lib.Utf8.{encode}

-- ---- characters and their bytes

whole : (c : ℕ) (bs : List ℕ) → chars_after zero c bs ≡ c ∷ chars bs
unfolding chars
whole c [] = refl
whole c (b ∷ bs) = refl

led : (a n v : ℕ) (bs : List ℕ) → continuation_len a ≡ n → lead_bits a ≡ v → chars (a ∷ bs) ≡ chars_after n v bs
unfolding chars
led a n v bs p q = λ i. chars_after (p i) (q i) bs

encode_two : (c : ℕ) → 128 ≤ c → c < 2048 → encode c ≡ (192 + c / 64) ∷ (128 + c % 64) ∷ []
unfolding encode
encode_two c l h = grind arith

encode_three : (c : ℕ) → 2048 ≤ c → c < 65536 → encode c ≡ (224 + c / 4096) ∷ (128 + (c / 64) % 64) ∷ (128 + c % 64) ∷ []
unfolding encode
encode_three c l h = grind arith

encode_four : (c : ℕ) → 65536 ≤ c → encode c ≡ (240 + c / 262144) ∷ (128 + (c / 4096) % 64) ∷ (128 + (c / 64) % 64) ∷ (128 + c % 64) ∷ []
unfolding encode
encode_four c l = grind arith

chars_one : (c : ℕ) (bs : List ℕ) → c < 128 → chars (encode c ++ bs) ≡ c ∷ chars bs
chars_one c bs h = ap (λ p. chars (p ++ bs)) (encode_ascii c h) ∙ led c 0 c bs (grind arith) (grind arith) ∙ whole c bs

chars_two : (c : ℕ) (bs : List ℕ) → 128 ≤ c → c < 2048 → chars (encode c ++ bs) ≡ c ∷ chars bs
chars_two c bs l h =
    let top : c / 64 < 32 = omega arith in
    let is : (c / 64) * 64 + (128 + c % 64 - 128) ≡ c = omega arith in
    ap (λ p. chars (p ++ bs)) (encode_two c l h) ∙ led (192 + c / 64) 1 (c / 64) _ (grind arith) (grind arith) ∙ whole _ bs ∙ ap (λ x. x ∷ chars bs) is

chars_three : (c : ℕ) (bs : List ℕ) → 2048 ≤ c → c < 65536 → chars (encode c ++ bs) ≡ c ∷ chars bs
chars_three c bs l h =
    let top : c / 4096 < 16 = omega arith in
    let is : ((c / 4096) * 64 + (128 + (c / 64) % 64 - 128)) * 64 + (128 + c % 64 - 128) ≡ c = omega arith in
    ap (λ p. chars (p ++ bs)) (encode_three c l h) ∙ led (224 + c / 4096) 2 (c / 4096) _ (grind arith) (grind arith) ∙ whole _ bs ∙ ap (λ x. x ∷ chars bs) is

chars_four : (c : ℕ) (bs : List ℕ) → 65536 ≤ c → chars (encode c ++ bs) ≡ c ∷ chars bs
chars_four c bs l =
    let is : (((c / 262144) * 64 + (128 + (c / 4096) % 64 - 128)) * 64 + (128 + (c / 64) % 64 - 128)) * 64 + (128 + c % 64 - 128) ≡ c = omega arith in
    ap (λ p. chars (p ++ bs)) (encode_four c l) ∙ led (240 + c / 262144) 3 (c / 262144) _ (grind arith) (grind arith) ∙ whole _ bs ∙ ap (λ x. x ∷ chars bs) is

-- the bytes of any number are read back
chars_first : (c : ℕ) (bs : List ℕ) → chars (encode c ++ bs) ≡ c ∷ chars bs
chars_first c bs =
    ⊎_elim (chars_one c bs)
    (λ l. ⊎_elim (chars_two c bs l) (λ m. ⊎_elim (chars_three c bs m) (chars_four c bs) (cases_lt c 65536)) (cases_lt c 2048))
    (cases_lt c 128)

chars_front : (cs bs : List ℕ) → chars (encode_utf8_all cs ++ bs) ≡ cs ++ chars bs
chars_front [] bs = refl
chars_front (c ∷ cs) bs = ap chars (append_assoc (encode c) (encode_utf8_all cs) bs) ∙ chars_first c (encode_utf8_all cs ++ bs) ∙ ap (λ l. c ∷ l) (chars_front cs bs)

-- ---- words among characters

white : (c : ℕ) → is_not_whitespace c ≡ false → is_whitespace c ≡ true
white c e = grind arith

past_gap : (gap cs : List ℕ) → NonePass is_not_whitespace gap → words_among (gap ++ cs) ≡ words_among cs
past_gap [] cs h = refl
past_gap (c ∷ gap) cs h = ap filled (slice_split-cons_yes is_whitespace c (gap ++ cs) (white c h.0)) ∙ past_gap gap cs h.1

none_white : (cs : List ℕ) → NonePass is_whitespace cs → All (λ c. is_whitespace c ≡ false) cs
none_white [] h = All-nil (λ c. is_whitespace c ≡ false)
none_white (c ∷ cs) h = All-cons (λ x. is_whitespace x ≡ false) c cs h.0 (none_white cs h.1)

-- characters that are at an end, or begin with white space
Ends : List ℕ → Type 0
Ends [] = Unit {0}
Ends (c ∷ cs) = is_whitespace c ≡ true

first_word : (word cs : List ℕ) → 0 < length word → NonePass is_whitespace word → Ends cs → words_among (word ++ cs) ≡ word ∷ words_among cs
unfolding Ends
first_word [] cs l h e = absurd (omega arith)
first_word (w ∷ word) [] l h e = ap words_among (append-nil (w ∷ word)) ∙ ap filled (slice_split_none is_whitespace (w ∷ word) (none_white (w ∷ word) h))
first_word (w ∷ word) (c ∷ cs) l h e =
    ap filled (slice_split_at is_whitespace (w ∷ word) c cs (none_white (w ∷ word) h) e)
    ∙ ap (λ ws. (w ∷ word) ∷ ws) (sym (ap filled (slice_split-cons_yes is_whitespace c cs e)))

-- ---- what `split_whitespace` gives

no_word : (bs : List ℕ) → NoCharPasses is_not_whitespace bs → words bs ≡ []
unfolding words
no_word bs h =
    let read : chars bs ≡ h.0 ++ [] = ap chars (sym h.1 ∙ sym (append-nil _)) ∙ chars_front h.0 [] ∙ ap (λ l. h.0 ++ l) chars-nil in
    ap (λ cs. map encode_utf8_all (words_among cs)) read ∙ ap (map encode_utf8_all) (past_gap h.0 [] h.2)

ends : (bs more : List ℕ) → EmptyOrStartsWithPassing is_whitespace bs more → Ends (chars bs)
unfolding Ends
ends [] more h = subst Ends (sym chars-nil) tt
ends (b ∷ bs) more h = let p = h (omega arith) in subst Ends (sym (ap chars p.2 ∙ chars_first p.0 more)) p.1

next_word : (bs gap word rest more : List ℕ) → bs ≡ gap ++ (word ++ rest) → 0 < length word → NoCharPasses is_not_whitespace gap → NoCharPasses is_whitespace word → EmptyOrStartsWithPassing is_whitespace rest more → words bs ≡ word ∷ words rest
unfolding words
next_word bs gap word rest more e l g w o =
    let some : 0 < length w.0 = ⊎_elim (λ h. h) (λ h. absurd (omega (arith, ap length (sym w.1 ∙ ap encode_utf8_all (nil_from_length w.0 (omega arith)))))) (cases_lt 0 (length w.0)) in
    let read : chars bs ≡ g.0 ++ (w.0 ++ chars rest) =
    ap chars e ∙ (λ i. chars (sym g.1 i ++ (sym w.1 i ++ rest))) ∙ chars_front g.0 (encode_utf8_all w.0 ++ rest) ∙ ap (λ cs. g.0 ++ cs) (chars_front w.0 rest) in
    ap (λ cs. map encode_utf8_all (words_among cs)) read
    ∙ ap (map encode_utf8_all) (past_gap g.0 _ g.2 ∙ first_word w.0 (chars rest) some w.2 (ends rest more o))
    ∙ ap (λ x. x ∷ map encode_utf8_all (words_among (chars rest))) w.1

pub YieldsList-from_split_whitespace : {s : _} (bs : List ℕ) → split_whitespace_rest s ≡ bs → YieldsList split_whitespace_steps (λ x. x.now) s (words bs)
YieldsList-from_split_whitespace {s} bs e =
    subst (λ v. YieldsList split_whitespace_steps (λ x. x.now) s (words v)) e
    (YieldsList-from_shown split_whitespace_steps (λ x. x.now) (λ t. words (split_whitespace_rest t)) (λ t u k. ap length (no_word _ k.1))
    (λ t x u k. next_word _ k.0 x.now _ k.5.0 k.1 k.2 k.3 k.4 k.5.1) s)
