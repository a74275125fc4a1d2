-- The kinds of postings: their numbers, and what they count in. Assumes nothing.
use Rattle.std.specs.Prelude.{ℕ, ◌+◌, ◌-◌, ◌≡◌, Bool, true, cond, List, [], ◌∷◌, map, length, sum, ℤ, pos, ◌-ℤ◌, neg_ℤ, Option, Some, None, Result, Ok, Err, ◌==◌, slice_index}
use Rattle.record.specs.Family.{numbered}
use Rattle.ledger.specs.declared.posting.PostingKind.{PostingKind}
use Rattle.ledger.specs.declared.posting.UnknownPosting.{UnknownPosting}
use Rattle.ledger.specs.declared.posting.PostingKind.TheVariants.{ExchangeIn, ExchangeOut, MeasuredOfftake, MeasuredFeedIn, LossOfftake, LossFeedIn}

abbrev pub posting_number : PostingKind → ℕ
posting_number ExchangeIn = 1
posting_number ExchangeOut = 2
posting_number MeasuredOfftake = 3
posting_number MeasuredFeedIn = 4
posting_number LossOfftake = 5
posting_number LossFeedIn = 6

abbrev pub posting_kinds : List PostingKind
posting_kinds = ExchangeIn ∷ ExchangeOut ∷ MeasuredOfftake ∷ MeasuredFeedIn ∷ LossOfftake ∷ LossFeedIn ∷ []

-- the kind with a number, if there is one
abbrev pub numbered_kind : ℕ → Option PostingKind
numbered_kind n = numbered posting_number posting_kinds n

-- the kind with a number, or the number that no kind has
abbrev pub Numbers : ℕ → Result PostingKind UnknownPosting → Type 0
Numbers n (Ok kind) = numbered_kind n ≡ Some kind
Numbers n (Err e) = (numbered_kind n ≡ None) × (e.0 ≡ n)

-- kinds are numbered from 1 to this, as `posting_kinds` has them
abbrev pub last_kind : ℕ
last_kind = length posting_kinds

-- something for each kind
abbrev pub each_kind : {A : Type 0} → (ℕ → A) → List A
each_kind f = map (λ kind. f (posting_number kind)) posting_kinds

-- of a list with a number for each kind, that of one
abbrev pub of_kind : List ℕ → ℕ → ℕ
of_kind xs kind = slice_index xs (kind - 1)

-- measured kinds name a BRP and a supplier, and go to their group of class 0
abbrev pub measured : ℕ → Bool
measured kind = cond (kind == posting_number MeasuredOfftake) true (kind == posting_number MeasuredFeedIn)

-- the direction of a measured kind
abbrev pub kind_direction : ℕ → ℕ
kind_direction kind = cond (kind == posting_number MeasuredOfftake) 0 1

-- a measured volume: offtake is negative
abbrev pub measured_volume : ℕ → ℕ → ℤ
measured_volume kind wh = cond (kind == posting_number MeasuredOfftake) (neg_ℤ (pos wh)) (pos wh)

-- X, M and L of what was posted of each kind
abbrev pub exchange : (ℕ → ℕ) → ℤ
exchange posted = pos (posted (posting_number ExchangeIn)) -ℤ pos (posted (posting_number ExchangeOut))

abbrev pub measurement : (ℕ → ℕ) → ℤ
measurement posted = pos (posted (posting_number MeasuredFeedIn)) -ℤ pos (posted (posting_number MeasuredOfftake))

abbrev pub losses : (ℕ → ℕ) → ℤ
losses posted = pos (posted (posting_number LossFeedIn)) -ℤ pos (posted (posting_number LossOfftake))

-- all watt-hours posted, whatever their sign
abbrev pub gross : (ℕ → ℕ) → ℕ
gross posted = sum (each_kind posted)

-- what was posted of each kind, with one posting more
abbrev pub with_posting : ℕ → ℕ → (ℕ → ℕ) → ℕ → ℕ
with_posting kind wh posted k = cond (kind == k) (posted k + wh) (posted k)
