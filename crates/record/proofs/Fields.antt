-- The laws of fields written one after the other. Assumes nothing.
use Rattle.std.proofs.Common.{◌≡◌, ℕ, zero, suc, ◌+◌, ◌-◌, ◌*◌, ◌/◌, ◌%◌, ◌^◌, ◌<◌, ◌≤◌, eqb, ltb, List, [], ◌∷◌, ◌++◌, length, get_or, take, drop, sym, refl, ap, ◌∙◌, ⊎_elim, pow-suc, mul-suc, div-one, arith, take_all, pow-add}
use native.Mathlib.Nat.{div-eq_of_lt}
use borrow.Rule.Slice.PartMut.{put_mid}
use Rattle.std.proofs.lemmas.Nat.{le-div}
use Rattle.std.proofs.lemmas.Bool.{eq-eqb, ne_eqb, lt-ltb, le-ltb, cases_lt}
use Rattle.std.proofs.lemmas.List.{append_assoc, length-append, length-take, length-take-le, take_at, drop_at, drop-drop, take-append-drop, drop_more}
use Rattle.record.specs.Number.{big}
use Rattle.record.specs.Format.{Field, over, encode, extent}
use Rattle.record.proofs.Big.{length_big, pow_pos, big_drop}

pub bytes_pow : (w : ℕ) → 2 ^ (8 * w) ≡ 256 ^ w
bytes_pow zero = refl
bytes_pow (suc w) = ap (λ k. 2 ^ k) (mul-suc 8 w) ∙ pow-add 2 (8 * w) 8 ∙ ap (λ p. p * 256) (bytes_pow w) ∙ sym (pow-suc 256 w)

-- a number fits w bytes where nothing of it is left above them
pub none_above : (n w : ℕ) → eqb (n / 2 ^ (8 * w)) 0 ≡ ltb n (256 ^ w)
none_above n w =
    ap (λ p. eqb (n / p) 0) (bytes_pow w)
    ∙ ⊎_elim {C = eqb (n / 256 ^ w) 0 ≡ ltb n (256 ^ w)}
    (λ (l : n < 256 ^ w). eq-eqb (n / 256 ^ w) 0 (div-eq_of_lt l) ∙ sym (lt-ltb n (256 ^ w) l))
    (λ (l : 256 ^ w ≤ n).
    let some : 1 ≤ n / 256 ^ w = le-div 1 n (256 ^ w) (pow_pos w) (omega arith) in
    ne_eqb (n / 256 ^ w) 0 (λ (e : n / 256 ^ w ≡ 0). omega arith) ∙ sym (le-ltb n (256 ^ w) l))
    (cases_lt n (256 ^ w))

pub length_encode : (fs : List Field) → length (encode fs) ≡ extent fs
length_encode [] = refl
length_encode (f ∷ fs) = length-append (big f.0 f.1) (encode fs) ∙ (λ i. length_big f.0 f.1 i + length_encode fs i)

-- nothing is written
pub over_none : (xs : List ℕ) (at : ℕ) → over xs at [] ≡ xs
unfolding over
over_none xs at = ap (λ k. take at xs ++ drop k xs) (omega arith) ∙ take-append-drop at xs

-- what is written stands there
pub drop_over : (xs : List ℕ) (at : ℕ) (ys : List ℕ) → at ≤ length xs → drop at (over xs at ys) ≡ ys ++ drop (at + length ys) xs
unfolding over
drop_over xs at ys h = drop_at (take at xs) (ys ++ drop (at + length ys) xs) at (length-take-le at xs h)

-- what is written behind joins what is written before
pub over_over : (xs : List ℕ) (at next : ℕ) (ys zs : List ℕ) → next ≡ at + length ys → next ≤ length xs → over (over xs at ys) next zs ≡ over xs at (ys ++ zs)
unfolding over
over_over xs at next ys zs is h =
    let front : List ℕ = take at xs ++ ys in
    let size : length front ≡ next = length-append (take at xs) ys ∙ simp length-take (omega arith) in
    let whole : take at xs ++ (ys ++ drop (at + length ys) xs) ≡ front ++ drop next xs = sym (append_assoc (take at xs) ys (drop (at + length ys) xs)) ∙ ap (λ k. front ++ drop k xs) (sym is) in
    let kept : take next (front ++ drop next xs) ≡ front = take_at front (drop next xs) next size in
    let left : drop (next + length zs) (front ++ drop next xs) ≡ drop (at + length (ys ++ zs)) xs = sym (drop-drop (length zs) next (front ++ drop next xs)) ∙ ap (drop (length zs)) (drop_at front (drop next xs) next size) ∙ drop-drop (length zs) next xs ∙ ap (λ k. drop k xs) (omega (arith, length-append ys zs)) in
    ap (λ l. take next l ++ (zs ++ drop (next + length zs) l)) whole
    ∙ (λ i. kept i ++ (zs ++ left i))
    ∙ append_assoc (take at xs) ys (zs ++ drop (at + length (ys ++ zs)) xs)
    ∙ ap (λ l. take at xs ++ l) (sym (append_assoc ys zs (drop (at + length (ys ++ zs)) xs)))

-- one field more of those that are left
pub left_more : (fs : List Field) (i : ℕ) (f : Field) → i < length fs → f ≡ get_or fs i f → drop i fs ≡ f ∷ drop (i + 1) fs
left_more fs i f h is = drop_more fs i f h ∙ ap (λ g. g ∷ drop (i + 1) fs) (sym is)

pub extent_more : (fs : List Field) (i : ℕ) (f : Field) → i < length fs → f ≡ get_or fs i f → extent (drop i fs) ≡ f.0 + extent (drop (i + 1) fs)
extent_more fs i f h is = ap extent (left_more fs i f h is)

-- one field is written, and the rest is still to come
pub put_more : (before out out' : List ℕ) (at place next i : ℕ) (fs : List Field) (f : Field) → i < length fs → f ≡ get_or fs i f → place + extent (drop i fs) ≤ length out → over out place (encode (drop i fs)) ≡ over before at (encode fs) → next ≡ place + f.0 → out' ≡ over out place (big f.0 f.1) → over out' next (encode (drop (i + 1) fs)) ≡ over before at (encode fs)
put_more before out out' at place next i fs f h is within e behind put =
    let bytes : List ℕ = big f.0 f.1 in
    let size : length bytes ≡ f.0 = length_big f.0 f.1 in
    ap (λ l. over l next (encode (drop (i + 1) fs))) put
    ∙ over_over out place next bytes (encode (drop (i + 1) fs)) (omega arith) (omega (arith, extent_more fs i f h is))
    ∙ ap (λ l. over out place (encode l)) (sym (left_more fs i f h is))
    ∙ e

-- the bytes of 64 bits
pub eight : (n : ℕ) → (n / 72057594037927936 % 256) ∷ (n / 281474976710656 % 256) ∷ (n / 1099511627776 % 256) ∷ (n / 4294967296 % 256) ∷ (n / 16777216 % 256) ∷ (n / 65536 % 256) ∷ (n / 256 % 256) ∷ (n % 256) ∷ [] ≡ big 8 n
unfolding big
eight n = cc (div-one n)

-- the last w of eight bytes, copied into their part of the memory
pub put_part : (xs ys bytes : List ℕ) (at w n : ℕ) → w ≤ 8 → bytes ≡ big 8 n → ys ≡ take (8 - (8 - w)) (drop (8 - w) bytes) → put_mid at (at + w - at) xs ys ≡ over xs at (big w n)
unfolding over
put_part xs ys bytes at w n h is e =
    let low : drop (8 - w) bytes ≡ big w n = ap (drop (8 - w)) is ∙ ap (λ k. drop (8 - w) (big k n)) (omega arith) ∙ big_drop (8 - w) w n in
    let size : length (big w n) ≡ w = length_big w n in
    let all : take (8 - (8 - w)) (drop (8 - w) bytes) ≡ big w n = ap (take (8 - (8 - w))) low ∙ take_all (8 - (8 - w)) (big w n) (omega arith) in
    let behind : drop (at + w - at) (drop at xs) ≡ drop (at + length (big w n)) xs = drop-drop (at + w - at) at xs ∙ ap (λ k. drop k xs) (omega arith) in
    (λ i. take at xs ++ ((e ∙ all) i ++ behind i))
