-- The laws of layouts: what is read from fields is what was written, for any layout. Assumes nothing.
use Rattle.std.proofs.Common.{◌≡◌, ℕ, ◌+◌, ◌^◌, ◌<◌, true, ltb, List, [], ◌∷◌, ◌++◌, length, take, drop, ℤ, pos, negsuc, sym, refl, ap, ◌∙◌, arith}
use Rattle.std.proofs.lemmas.List.{append_assoc, append-nil, length-append, take-append-drop, drop-drop, take_at, drop_at, drop_all}
use Rattle.std.proofs.lemmas.Bool.{ltb-true, lt-ltb, and_parts, and_from}
use Rattle.record.specs.Number.{big, twos, Within}
use Rattle.record.specs.Format.{Form, unsigned, signed, width, total, bits, Fit, Fits, Reads, filled, encode, all_fit}
use Rattle.record.proofs.Big.{length_big, same_number, pow_pos}

-- a value's bits fit its field
bits_small : (f : Form) (z : ℤ) → Fit f z → bits f z < 256 ^ width f
bits_small (unsigned w) (pos n) h = h
bits_small (unsigned w) (negsuc n) h = absurd h
bits_small (signed w) (pos n) h = omega arith
bits_small (signed w) (negsuc n) h = omega (arith, pow_pos w)

-- one value of a field has these bits
same_value : (f : Form) (x y : ℤ) → Fit f x → Fit f y → bits f x ≡ bits f y → x ≡ y
same_value (unsigned w) (pos m) (pos n) hx hy e = ap pos e
same_value (unsigned w) (pos m) (negsuc n) hx hy e = absurd hy
same_value (unsigned w) (negsuc m) y hx hy e = absurd hx
same_value (signed w) (pos m) (pos n) hx hy e = ap pos e
same_value (signed w) (pos m) (negsuc n) hx hy e = absurd (omega arith)
same_value (signed w) (negsuc m) (pos n) hx hy e = absurd (omega arith)
same_value (signed w) (negsuc m) (negsuc n) hx hy e = ap negsuc (omega arith)

-- lists of one length that begin the same list are equal
pub split_same : (xs ys r s : List ℕ) → length xs ≡ length ys → xs ++ r ≡ ys ++ s → (xs ≡ ys) × (r ≡ s)
split_same xs ys r s h e = (
  sym (take_at xs r (length ys) h) ∙ ap (take (length ys)) e ∙ take_at ys s (length ys) refl,
  sym (drop_at xs r (length ys) h) ∙ ap (drop (length ys)) e ∙ drop_at ys s (length ys) refl,
)

-- the same of a number's bytes
pub same_field : (w m n : ℕ) (r s : List ℕ) → m < 256 ^ w → n < 256 ^ w → big w m ++ r ≡ big w n ++ s → (m ≡ n) × (r ≡ s)
same_field w m n r s hm hn e =
    let parts = split_same (big w m) (big w n) r s (length_big w m ∙ sym (length_big w n)) e in
    (same_number w m n hm hn parts.0, parts.1)

-- bytes hold the values of a layout in one way
pub same_values : (fs : List Form) (xs ys : List ℤ) (r s : List ℕ) → Fits fs xs → Fits fs ys → encode (filled fs xs) ++ r ≡ encode (filled fs ys) ++ s → (xs ≡ ys) × (r ≡ s)
same_values [] [] [] r s hx hy e = (refl, e)
same_values [] [] (y ∷ ys) r s hx hy e = absurd hy
same_values [] (x ∷ xs) ys r s hx hy e = absurd hx
same_values (f ∷ fs) [] ys r s hx hy e = absurd hx
same_values (f ∷ fs) (x ∷ xs) [] r s hx hy e = absurd hy
same_values (f ∷ fs) (x ∷ xs) (y ∷ ys) r s hx hy e =
    let w : ℕ = width f in
    let flat = sym (append_assoc (big w (bits f x)) (encode (filled fs xs)) r) ∙ e ∙ append_assoc (big w (bits f y)) (encode (filled fs ys)) s in
    let first = same_field w (bits f x) (bits f y) _ _ (bits_small f x hx.0) (bits_small f y hy.0) flat in
    let rest = same_values fs xs ys r s hx.1 hy.1 first.1 in
    ((λ i. same_value f x y hx.0 hy.0 first.0 i ∷ rest.0 i), rest.1)

pub length_filled : (fs : List Form) (zs : List ℤ) → Fits fs zs → length (encode (filled fs zs)) ≡ total fs
length_filled [] [] h = refl
length_filled [] (z ∷ zs) h = absurd h
length_filled (f ∷ fs) [] h = absurd h
length_filled (f ∷ fs) (z ∷ zs) h = length-append (big (width f) (bits f z)) (encode (filled fs zs)) ∙ (λ i. length_big (width f) (bits f z) i + length_filled fs zs h.1 i)

pub reads_fits : (body : List ℕ) (at : ℕ) (fs : List Form) (zs : List ℤ) → Reads body at fs zs → Fits fs zs
reads_fits body at [] [] h = tt
reads_fits body at [] (z ∷ zs) h = absurd h
reads_fits body at (f ∷ fs) [] h = absurd h
reads_fits body at (f ∷ fs) (z ∷ zs) h = (h.1, reads_fits body (at + width f) fs zs h.2)

-- what is read is what stands there
reads_split : (body : List ℕ) (at : ℕ) (fs : List Form) (zs : List ℤ) → Reads body at fs zs → drop at body ≡ encode (filled fs zs) ++ drop (at + total fs) body
reads_split body at [] [] h = ap (λ k. drop k body) (omega arith)
reads_split body at [] (z ∷ zs) h = absurd h
reads_split body at (f ∷ fs) [] h = absurd h
reads_split body at (f ∷ fs) (z ∷ zs) h =
    let w : ℕ = width f in
    sym (take-append-drop w (drop at body))
    ∙ (λ i. h.0 i ++ drop-drop w at body i)
    ∙ ap (λ l. big w (bits f z) ++ l) (reads_split body (at + w) fs zs h.2 ∙ ap (λ k. encode (filled fs zs) ++ drop k body) (omega arith))
    ∙ sym (append_assoc (big w (bits f z)) (encode (filled fs zs)) (drop (at + total (f ∷ fs)) body))

pub big_one : (n : ℕ) → n < 256 → big 1 n ≡ n ∷ []
unfolding big
big_one n h = ap (λ x. x ∷ []) (omega arith)

-- a whole body that is read
pub read_whole : (body : List ℕ) (fs : List Form) (zs : List ℤ) → length body ≡ total fs → Reads body 0 fs zs → body ≡ encode (filled fs zs)
read_whole body fs zs size h =
    reads_split body 0 fs zs h ∙ ap (λ l. encode (filled fs zs) ++ l) (drop_all (0 + total fs) body (omega arith)) ∙ append-nil (encode (filled fs zs))

-- as many values as fields, none of them negative where the field has no sign, or too large where it has one
abbrev pub Typed : List Form → List ℤ → Type 0
Typed [] [] = Unit {0}
Typed [] (z ∷ zs) = ⊥
Typed (f ∷ fs) [] = ⊥
Typed (unsigned w ∷ fs) (pos n ∷ zs) = Typed fs zs
Typed (unsigned w ∷ fs) (negsuc n ∷ zs) = ⊥
Typed (signed w ∷ fs) (z ∷ zs) = Within w z × Typed fs zs

-- what a writer tested
pub fits_from : (fs : List Form) (zs : List ℤ) → Typed fs zs → all_fit (filled fs zs) ≡ true → Fits fs zs
fits_from [] [] t h = tt
fits_from [] (z ∷ zs) t h = absurd t
fits_from (f ∷ fs) [] t h = absurd t
fits_from (unsigned w ∷ fs) (pos n ∷ zs) t h =
    let parts = and_parts (ltb n (256 ^ w)) (all_fit (filled fs zs)) h in
    (ltb-true n (256 ^ w) parts.0, fits_from fs zs t parts.1)
fits_from (unsigned w ∷ fs) (negsuc n ∷ zs) t h = absurd t
fits_from (signed w ∷ fs) (z ∷ zs) t h = (t.0, fits_from fs zs t.1 (and_parts (ltb (twos w z) (256 ^ w)) (all_fit (filled fs zs)) h).1)

-- values that fit pass the writer's test
pub fits_all : (fs : List Form) (zs : List ℤ) → Fits fs zs → all_fit (filled fs zs) ≡ true
fits_all [] [] h = refl
fits_all [] (z ∷ zs) h = absurd h
fits_all (f ∷ fs) [] h = absurd h
fits_all (f ∷ fs) (z ∷ zs) h = and_from (ltb (bits f z) (256 ^ width f)) (all_fit (filled fs zs)) (lt-ltb (bits f z) (256 ^ width f) (bits_small f z h.0)) (fits_all fs zs h.1)
