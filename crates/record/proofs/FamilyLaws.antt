-- Records of a family are read as they were written, whatever its kinds and layouts. Assumes nothing.
use Rattle.std.proofs.Common.{◌≡◌, ℕ, ◌+◌, ◌<◌, ◌≤◌, Bool, true, false, ◌&&◌, eqb, ltb, leb, List, [], ◌∷◌, ◌++◌, length, take, drop, ℤ, is_some, Some, None, Option, sym, refl, ap, ◌∙◌, subst, ⊎_elim, arith}
use borrow.Author.Tests.{clash}
use Rattle.std.specs.List.{AllByRecursion}
use Rattle.std.proofs.lemmas.List.{append_assoc, length-append, take-append-drop}
use Rattle.std.proofs.lemmas.Bool.{eqb-true, ltb-true, leb-true, lt-ltb, le-leb, le-ltb, and_from, cases_Bool, cond-true, cond-false, and_parts}
use Rattle.record.specs.Number.{big}
use Rattle.record.specs.Format.{Field, Fits, Reads, total, filled, encode, extent, all_fit, Written}
use Rattle.record.specs.Family.{Family, Parts, numbered, fields, Puts, Writes, bytes_of, Writable, Begins, lack, lack_behind, run}
use Rattle.record.specs.declared.apart.Lack.TheVariants.{Cut}
use Rattle.record.proofs.Fields.{length_encode, drop_over}
use Rattle.record.proofs.Layouts.{Typed, fits_from, fits_all, same_field, same_values, length_filled, reads_fits, big_one, read_whole}

-- every number is one byte
abbrev pub one_byte : {K : Type 0} → (K → ℕ) → List K → Bool
one_byte number [] = true
one_byte number (k ∷ ks) = ltb (number k) 256 && one_byte number ks

-- what a family has to show for itself
pub record Lawful {K R : Type 0} (F : Family K R) : Type 0 where
  pub small : one_byte F.number F.kinds ≡ true
  -- every kind is found by its number
  pub found : (k : K) → numbered F.number F.kinds (F.number k) ≡ Some k
  -- kind and values say which record it is
  pub make : K → List ℤ → R
  pub made : (r : R) → F.Four r → make (F.kind r) (F.values r) ≡ r

-- a kind that is found by a number has that number, and it is one byte
module _ {K : Type 0} (number : K → ℕ) where
  pub numbered_has : (ks : List K) (n : ℕ) (k : K) → numbered number ks n ≡ Some k → number k ≡ n
  numbered_has [] n k e = let z : ◌≡◌ {A = ℕ} 0 1 = cc in absurd (omega arith)
  numbered_has (j ∷ ks) n k e =
      ⊎_elim {C = number k ≡ n}
      (λ (t : eqb n (number j) ≡ true).
      let same : ◌≡◌ {A = Option K} (Some j) (Some k) = sym (cond-true (eqb n (number j)) (Some j) (numbered number ks n) t) ∙ e in
      let jk : j ≡ k = cc in
      ap number (sym jk) ∙ sym (eqb-true n (number j) t))
      (λ (t : eqb n (number j) ≡ false). numbered_has ks n k (sym (cond-false (eqb n (number j)) (Some j) (numbered number ks n) t) ∙ e))
      (cases_Bool (eqb n (number j)))

  numbered_small : (ks : List K) (n : ℕ) (k : K) → one_byte number ks ≡ true → numbered number ks n ≡ Some k → n < 256
  numbered_small [] n k h e = let z : ◌≡◌ {A = ℕ} 0 1 = cc in absurd (omega arith)
  numbered_small (j ∷ ks) n k h e =
      let parts = and_parts (ltb (number j) 256) (one_byte number ks) h in
      ⊎_elim {C = n < 256}
      (λ (t : eqb n (number j) ≡ true). omega (arith, eqb-true n (number j) t, ltb-true (number j) 256 parts.0))
      (λ (t : eqb n (number j) ≡ false). numbered_small ks n k parts.1 (sym (cond-false (eqb n (number j)) (Some j) (numbered number ks n) t) ∙ e))
      (cases_Bool (eqb n (number j)))

  -- bytes that are taken apart at their kind
  pub apart : (ks : List K) (bytes behind body rest : List ℕ) (b n : ℕ) (k : K) → bytes ≡ b ∷ behind → numbered number ks b ≡ Some k → body ≡ take n behind → rest ≡ drop n behind → bytes ≡ number k ∷ (body ++ rest)
  apart ks bytes behind body rest b n k is known front back =
      let parts : behind ≡ body ++ rest = sym (take-append-drop n behind) ∙ (λ i. sym front i ++ sym back i) in
      is ∙ (λ i. sym (numbered_has ks b k known) i ∷ parts i)

-- a record that is read from its body
pub read_body : {K R : Type 0} (F : Family K R) (body : List ℕ) (k : K) (r : R) → length body ≡ total (F.layout k) → F.kind r ≡ k → Reads body 0 (F.layout k) (F.values r) → F.Four r → (body ≡ encode (filled (F.layout k) (F.values r))) × Writable F r
read_body F body k r size kind read four = (
  read_whole body (F.layout k) (F.values r) size read,
  record { fits = subst (λ j. Fits (F.layout j) (F.values r)) (sym kind) (reads_fits body 0 (F.layout k) (F.values r) read); four = four },
)

module _ {K R : Type 0} {F : Family K R} (law : Lawful F) where
  number_small : (k : K) → F.number k < 256
  number_small k = numbered_small F.number F.kinds (F.number k) k law.small (law.found k)

  -- bytes begin with one record at most
  pub same_record : (x y : R) (r s : List ℕ) → Writable F x → Writable F y → bytes_of F x ++ r ≡ bytes_of F y ++ s → (x ≡ y) × (r ≡ s)
  same_record x y r s wx wy same =
      let k : K = F.kind x in
      let j : K = F.kind y in
      let body : List ℕ = encode (filled (F.layout k) (F.values x)) in
      let body' : List ℕ = encode (filled (F.layout j) (F.values y)) in
      let flat = sym (append_assoc (big 1 (F.number k)) body r) ∙ same ∙ append_assoc (big 1 (F.number j)) body' s in
      let first = same_field 1 (F.number k) (F.number j) _ _ (number_small k) (number_small j) flat in
      let found = sym (law.found k) ∙ ap (numbered F.number F.kinds) first.0 ∙ law.found j in
      let jk : j ≡ k = cc in
      let rest = same_values (F.layout k) (F.values x) (F.values y) r s wx.fits (subst (λ i. Fits (F.layout i) (F.values y)) jk wy.fits) (first.1 ∙ ap (λ i. encode (filled (F.layout i) (F.values y)) ++ s) jk) in
      (sym (law.made x wx.four) ∙ (λ i. law.make (sym jk i) (rest.0 i)) ∙ law.made y wy.four, rest.1)

  -- nothing lacks where a record was written
  pub nothing_lacks : (r : R) (more : List ℕ) → Writable F r → lack F (bytes_of F r ++ more) ≡ None
  nothing_lacks r more w =
      let k : K = F.kind r in
      let body : List ℕ = encode (filled (F.layout k) (F.values r)) in
      let long : length body ≡ total (F.layout k) = length_filled (F.layout k) (F.values r) w.fits in
      let more-long = length-append body more in
      ap (λ l. lack F ((l ++ body) ++ more)) (big_one (F.number k) (number_small k))
      ∙ ap (λ o. lack_behind F.number F.kinds F.layout o (length (body ++ more))) (law.found k)
      ∙ cond-false (ltb (length (body ++ more)) (total (F.layout k))) (Some Cut) None (le-ltb (length (body ++ more)) (total (F.layout k)) (omega arith))

  -- the bytes begin with the record that is read from the body that was taken
  pub begins : (bytes body rest : List ℕ) (k : K) (r : R) → Parts F.number F.layout bytes k body rest → F.kind r ≡ k → Reads body 0 (F.layout k) (F.values r) → F.Four r → Begins F bytes r rest
  begins bytes body rest k r parts kind read four =
      let whole = read_body F body k r parts.whole kind read four in
      record {
        split = parts.split
            ∙ ap (λ l. F.number k ∷ (l ++ rest)) whole.0
            ∙ ap (λ l. (l ++ encode (filled (F.layout k) (F.values r))) ++ rest) (sym (big_one (F.number k) (number_small k)))
            ∙ ap (λ j. encode ((1, F.number j) ∷ filled (F.layout j) (F.values r)) ++ rest) (sym kind);
        writable = whole.1;
      }

  -- what was put into the memory keeps all promises of a writer
  pub writes : (r : R) (at : ℕ) (before after : List ℕ) (next : Option ℕ) → Puts F r at before after next → Writes F r at before after next
  writes r at before after next p = record { written = p.written; writable = p.writable; stands = stands next p.written; succeeds = succeeds next p.written }
    where
      stands : (o : Option ℕ) → Written (fields F r) at before after o → is_some o ≡ true → drop at after ≡ bytes_of F r ++ drop (at + extent (fields F r)) before
      stands None h done = absurd (clash done)
      stands (Some n) h done =
          let fits = leb-true (at + extent (fields F r)) (length before) (and_parts (all_fit (fields F r)) (leb (at + extent (fields F r)) (length before)) h.0).1 in
          ap (drop at) h.2 ∙ drop_over before at (bytes_of F r) (omega arith) ∙ ap (λ k. bytes_of F r ++ drop (at + k) before) (length_encode (fields F r))

      succeeds : (o : Option ℕ) → Written (fields F r) at before after o → Writable F r → at + extent (fields F r) ≤ length before → is_some o ≡ true
      succeeds (Some n) h w within = refl
      succeeds None h w within =
          let byte = lt-ltb (F.number (F.kind r)) 256 (number_small (F.kind r)) in
          let all = and_from (ltb (F.number (F.kind r)) 256) (all_fit (filled (F.layout (F.kind r)) (F.values r))) byte (fits_all (F.layout (F.kind r)) (F.values r) w.fits) in
          absurd (clash (sym h.0 ∙ and_from (all_fit (fields F r)) (leb (at + extent (fields F r)) (length before)) all (le-leb (at + extent (fields F r)) (length before) within)))

module _ {K R : Type 0} (F : Family K R) where
  pub some_byte : (r : R) (more : List ℕ) → bytes_of F r ++ more ≡ [] → ⊥
  unfolding big
  some_byte r more h = let z : ◌≡◌ {A = ℕ} 0 1 = cc in omega arith

  -- a record whose fields fit can be written
  pub writable : (r : R) (fs : List Field) → fs ≡ fields F r → Typed (F.layout (F.kind r)) (F.values r) → F.Four r → all_fit fs ≡ true → Writable F r
  writable r fs is typed four fit =
      let all : all_fit (fields F r) ≡ true = ap all_fit (sym is) ∙ fit in
      record { fits = fits_from (F.layout (F.kind r)) (F.values r) typed (and_parts (ltb (F.number (F.kind r)) 256) (all_fit (filled (F.layout (F.kind r)) (F.values r))) all).1; four = four }

  -- fields that were put into the memory, as those of the record that they are of
  pub puts : (s r : R) → s ≡ r → (fs : List Field) (at : ℕ) (before after : List ℕ) (next : Option ℕ) → fs ≡ fields F r → (all_fit fs ≡ true → Writable F r) → Written fs at before after next → Puts F s at before after next
  puts s r same fs at before after next is can_write told =
      subst (λ x. Puts F x at before after next) (sym same) (record { written = subst (λ x. Written x at before after next) is told; writable = λ done. can_write (tested next done told) })
    where
      tested : (o : Option ℕ) → is_some o ≡ true → Written fs at before after o → all_fit fs ≡ true
      tested None done h = absurd (clash done)
      tested (Some n) done h = (and_parts (all_fit fs) (leb (at + extent fs) (length before)) h.0).0

-- the first of the records that the bytes are
pub first_of_run : {K R : Type 0} {F : Family K R} → Lawful F → (bytes rest : List ℕ) (r : R) → Begins F bytes r rest → (rs : List R) → AllByRecursion (Writable F) rs → bytes ≡ run F rs → (others : List R) × (rs ≡ r ∷ others) × (rest ≡ run F others)
first_of_run {F} law bytes rest r h [] ws is = absurd (some_byte F r rest (sym h.split ∙ is))
first_of_run {F} law bytes rest r h (x ∷ xs) ws is =
    let first = same_record law r x rest (run F xs) h.writable ws.0 (sym h.split ∙ is) in
    (xs, ap (λ y. y ∷ xs) (sym first.0), first.1)
