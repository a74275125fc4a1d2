-- A family of records: kinds, each with its number and its layout, and what stands in them. Assumes nothing.
use Rattle.std.specs.Prelude.{◌≡◌, ℕ, ◌+◌, ◌≤◌, true, cond, List, [], ◌∷◌, ◌++◌, length, drop, ℤ, is_some, Some, None, Ok, Err, Option, Result, ◌==◌, nat_lt, MatchResult}
use Rattle.std.specs.Borrow.{Bor}
use Rattle.std.specs.List.{flat_map}
use Rattle.record.specs.Format.{Form, Field, Fits, total, filled, encode, extent, Written}
use Rattle.record.specs.declared.apart.Lack.{Lack}
use Rattle.record.specs.declared.apart.Lack.TheVariants.{End, Unknown, Cut}
use Rattle.record.specs.declared.kind.NoKind.{NoKind}

pub record Family (K R : Type 0) : Type 1 where
  -- the number of a kind
  pub number : K → ℕ
  -- every kind, once
  pub kinds : List K
  -- the fields of a kind's body
  pub layout : K → List Form
  -- the kind of a record
  pub kind : R → K
  -- its values, in the order of the layout
  pub values : R → List ℤ
  -- each of its lists has a number for each of the four registers, and no more
  pub Four : R → Type 0

-- the first of the kinds that has the number n
abbrev pub numbered : {K : Type 0} → (K → ℕ) → List K → ℕ → Option K
numbered number [] n = None
numbered number (k ∷ ks) n = cond (n == number k) (Some k) (numbered number ks n)

-- the kind that has the number n, or the number back where no kind has it
abbrev pub OfNumber : {K : Type 0} → (K → ℕ) → List K → ℕ → Result K NoKind → Type 0
OfNumber number kinds n r = MatchResult r (λ kind. numbered number kinds n ≡ Some kind) (λ other. (numbered number kinds n ≡ None) × (other.0 ≡ n))

-- the bytes are a kind, its body and the rest
pub record Parts {K : Type 0} (number : K → ℕ) (layout : K → List Form) (bytes : List ℕ) (k : K) (body rest : List ℕ) : Type 0 where
  pub split : bytes ≡ number k ∷ (body ++ rest)
  pub whole : length body ≡ total (layout k)

module _ {K : Type 0} (number : K → ℕ) (kinds : List K) (layout : K → List Form) where
  -- of the kind that the first byte says, and the count of the bytes behind it
  abbrev pub lack_behind : Option K → ℕ → Option Lack
  lack_behind None n = Some Unknown
  lack_behind (Some k) n = cond (nat_lt n (total (layout k))) (Some Cut) None

  -- why no record of these kinds stands at the front of the bytes
  abbrev pub lack_of : List ℕ → Option Lack
  lack_of [] = Some End
  lack_of (b ∷ bs) = lack_behind (numbered number kinds b) (length bs)

  -- the first record is taken apart, or it is said why there is none
  abbrev pub TakesApart : List ℕ → Result (K × Bor (List ℕ) × Bor (List ℕ)) Lack → Type 0
  TakesApart bytes (Err l) = lack_of bytes ≡ Some l
  TakesApart bytes (Ok p) = Parts number layout bytes p.0 p.1.now p.2.now

module _ {K R : Type 0} (F : Family K R) where
  -- what is written: the kind, then the body
  abbrev pub fields : R → List Field
  fields r = (1, F.number (F.kind r)) ∷ filled (F.layout (F.kind r)) (F.values r)

  abbrev pub bytes_of : R → List ℕ
  bytes_of r = encode (fields r)

  -- records one after the other
  abbrev pub run : List R → List ℕ
  run rs = flat_map bytes_of rs

  -- each value fits its field
  pub record Writable (r : R) : Type 0 where
    pub fits : Fits (F.layout (F.kind r)) (F.values r)
    pub four : F.Four r

  -- all of a record that can be read again is put into the memory, or nothing
  pub record Puts (r : R) (at : ℕ) (before after : List ℕ) (next : Option ℕ) : Type 0 where
    pub written : Written (fields r) at before after next
    pub writable : is_some next ≡ true → Writable r

  -- what a writer of r does
  pub record Writes (r : R) (at : ℕ) (before after : List ℕ) (next : Option ℕ) : Type 0 where
    -- all or nothing, and no other byte is touched
    pub written : Written (fields r) at before after next
    -- what is written is read again
    pub writable : is_some next ≡ true → Writable r
    pub stands : is_some next ≡ true → drop at after ≡ bytes_of r ++ drop (at + extent (fields r)) before
    -- what was read is written again wherever it has room
    pub succeeds : Writable r → at + extent (fields r) ≤ length before → is_some next ≡ true

  -- the bytes begin with the record r, and go on with rest
  pub record Begins (bytes : List ℕ) (r : R) (rest : List ℕ) : Type 0 where
    pub split : bytes ≡ bytes_of r ++ rest
    pub writable : Writable r

  abbrev pub lack : List ℕ → Option Lack
  lack bytes = lack_of F.number F.kinds F.layout bytes
