-- The laws of numbers in bytes, over the width. Assumes nothing.
use Rattle.std.proofs.Common.{◌≡◌, ℕ, zero, suc, ◌+◌, ◌-◌, ◌*◌, ◌/◌, ◌%◌, ◌^◌, ◌<◌, ◌≤◌, List, [], ◌∷◌, ◌++◌, length, get_or, take, drop, sym, refl, ap, ◌∙◌, subst, mod-eq_of_lt, suc-add, pow-suc, zero-add, div-one, add-one, arith, length-drop, take_all}
use native.Mathlib.Nat.{pow-succ', div-div-eq-div-mul, mod-one, pow-le-pow_right}
use lib.Arith.{digits_div, digits_mod, mod-mul, digits_lt}
use Rattle.std.proofs.lemmas.List.{take_more, length-take}
use Rattle.record.specs.Number.{big}

pub pow_pos : (w : ℕ) → 0 < 256 ^ w
pow_pos w = pow-le-pow_right {n = 256} (omega arith) {i = 0} {j = w} (omega arith)

pub length_big : (w n : ℕ) → length (big w n) ≡ w
unfolding big
length_big zero n = refl
length_big (suc w) n = ap suc (length_big w n)

-- a byte more behind a number
pub big_push : (w n b : ℕ) → b < 256 → big (suc w) (n * 256 + b) ≡ big w n ++ (b ∷ [])
unfolding big
big_push zero n b h = ap (λ x. x ∷ []) (ap (λ x. x % 256) (div-one (n * 256 + b)) ∙ digits_mod n h)
big_push (suc w) n b h =
    let first : (n * 256 + b) / 256 ^ suc w ≡ n / 256 ^ w = ap (λ x. (n * 256 + b) / x) (pow-succ' 256 w) ∙ sym (div-div-eq-div-mul (n * 256 + b) 256 (256 ^ w)) ∙ ap (λ x. x / 256 ^ w) (digits_div n h) in
    (λ i. (first i % 256) ∷ big_push w n b h i)

-- the low bytes of a number are those of the wider number
pub big_drop : (k w n : ℕ) → drop k (big (k + w) n) ≡ big w n
unfolding big
big_drop zero w n = ap (λ x. big x n) (zero-add w)
big_drop (suc k) w n = ap (λ x. drop (suc k) (big x n)) (suc-add k w) ∙ big_drop k w n

low_bytes : (w m n : ℕ) → big w m ≡ big w n → m % 256 ^ w ≡ n % 256 ^ w
unfolding big
low_bytes zero m n e = mod-one m ∙ sym (mod-one n)
low_bytes (suc w) m n e =
    let head : m / 256 ^ w % 256 ≡ n / 256 ^ w % 256 = cc in
    let tail : big w m ≡ big w n = cc in
    let rest = low_bytes w m n tail in
    let split : (x : ℕ) → x % 256 ^ suc w ≡ (x / 256 ^ w % 256) * 256 ^ w + x % 256 ^ w = λ (x : ℕ). ap (λ p. x % p) (pow-succ' 256 w) ∙ mod-mul x {m = 256} {c = 256 ^ w} (omega arith) (pow_pos w) in
    split m ∙ (λ i. head i * 256 ^ w + rest i) ∙ sym (split n)

-- one number has these bytes
pub same_number : (w m n : ℕ) → m < 256 ^ w → n < 256 ^ w → big w m ≡ big w n → m ≡ n
same_number w m n hm hn e = sym (mod-eq_of_lt hm) ∙ low_bytes w m n e ∙ mod-eq_of_lt hn

pub below_push : (w n b : ℕ) → n < 256 ^ w → b < 256 → n * 256 + b < 256 ^ suc w
below_push w n b hn hb = subst (λ x. n * 256 + b < x) (sym (pow-suc 256 w)) (digits_lt hn hb)

-- a number of fewer than eight bytes has room for one more in 64 bits
pub room : (w n b : ℕ) → w < 8 → n < 256 ^ w → b < 256 → n * 256 + b < 2 ^ 64
room w n b hw hn hb =
    let seven : 256 ^ w ≤ 256 ^ 7 = pow-le-pow_right {n = 256} (omega arith) {i = w} {j = 7} (omega arith) in
    omega arith

-- one byte more is read
pub turn : (part : List ℕ) (i n b : ℕ) → i < length part → b ≡ get_or part i 0 → b < 256 → take i part ≡ big i n → n < 256 ^ i → (take (i + 1) part ≡ big (i + 1) (n * 256 + b)) × (n * 256 + b < 256 ^ (i + 1))
turn part i n b hi is hb e hn =
    let one : i + 1 ≡ suc i = add-one i in (
      take_more part i 0 hi ∙ (λ j. e j ++ (sym is j ∷ [])) ∙ sym (big_push i n b hb) ∙ ap (λ w. big w (n * 256 + b)) (sym one),
      subst (λ w. n * 256 + b < 256 ^ w) (sym one) (below_push i n b hn hb),
    )

-- the part `body[at..at + w]`
pub part_length : (body : List ℕ) (at w : ℕ) → at + w ≤ length body → length (take (at + w - at) (drop at body)) ≡ w
part_length body at w h = simp (length-take, length-drop) (omega arith)

-- all bytes of the part are read
pub read_whole : (body : List ℕ) (at w i n : ℕ) → at + w ≤ length body → i ≡ w → take i (take (at + w - at) (drop at body)) ≡ big i n → take w (drop at body) ≡ big w n
read_whole body at w i n h j e =
    let part = part_length body at w h in
    let same : at + w - at ≡ w = omega arith in
    ap (λ k. take k (drop at body)) (sym same) ∙ sym (take_all i (take (at + w - at) (drop at body)) (omega arith)) ∙ e ∙ ap (λ k. big k n) j
