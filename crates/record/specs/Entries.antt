-- The entries of a stream as bytes. Assumes nothing.
use Rattle.std.specs.Prelude.{◌≡◌, ℕ, List, [], ◌∷◌, ◌++◌, length, ℤ, pos, Some, None, Ok, Err, Option, Result}
use Rattle.std.specs.List.{AllByRecursion}
use Rattle.std.specs.Borrow.{Bor}
use Rattle.fault.specs.declared.cause.BytePlace.{BytePlace}
use Rattle.fault.specs.declared.cause.Fault.{Fault}
use Rattle.fault.specs.declared.cause.Fault.TheVariants.{UnknownKind, CutEntry}
use Rattle.record.specs.Family.{Family, Writable, Begins, lack, bytes_of, run}
use Rattle.record.specs.Kinds.{entry_number, entry_kinds, entry_layout, four_of}
use Rattle.record.specs.declared.apart.Lack.{Lack}
use Rattle.record.specs.declared.apart.Lack.TheVariants.{End, Unknown, Cut}
use Rattle.record.specs.declared.kind.EntryKind.{EntryKind}
use Rattle.record.specs.declared.kind.EntryKind.TheVariants as kinds
use Rattle.record.specs.declared.entry.Entry.{Entry}
use Rattle.record.specs.declared.entry.Entry.TheVariants.{Begin, Enrol, Read, Switch, Leave, Open, Post, Weigh, PutBack, Divide, Withdraw, Settle}

abbrev pub kind_of : Entry → EntryKind
kind_of (Begin q p) = kinds.Begin
kind_of (Enrol x) = kinds.Enrol
kind_of (Read c s) = kinds.Read
kind_of (Switch c b s) = kinds.Switch
kind_of (Leave c) = kinds.Leave
kind_of (Open p z) = kinds.Open
kind_of (Post k b s n) = kinds.Post
kind_of Weigh = kinds.Weigh
kind_of PutBack = kinds.PutBack
kind_of Divide = kinds.Divide
kind_of Withdraw = kinds.Withdraw
kind_of Settle = kinds.Settle

-- a number for each register
abbrev pub four : List ℕ → List ℤ
four xs = four_of pos 0 xs

-- the values of the fields, in the order of the layout
abbrev pub entry_values : Entry → List ℤ
entry_values (Begin q p) = pos q ∷ pos p ∷ []
entry_values (Enrol x) = pos x.code ∷ pos x.brp ∷ pos x.supplier ∷ pos x.class ∷ pos x.digits ∷ pos x.factor ∷ (four x.volumes ++ four x.stands)
entry_values (Read c s) = pos c ∷ four s
entry_values (Switch c b s) = pos c ∷ pos b ∷ pos s ∷ []
entry_values (Leave c) = pos c ∷ []
entry_values (Open p z) = pos p ∷ z ∷ []
entry_values (Post k b s n) = pos k ∷ pos b ∷ pos s ∷ pos n ∷ []
entry_values Weigh = []
entry_values PutBack = []
entry_values Divide = []
entry_values Withdraw = []
entry_values Settle = []

-- a number for each of the four registers, and no more
abbrev pub Registers : Entry → Type 0
Registers (Begin q p) = Unit {0}
Registers (Enrol x) = (length x.volumes ≡ 4) × (length x.stands ≡ 4)
Registers (Read c s) = length s ≡ 4
Registers (Switch c b s) = Unit {0}
Registers (Leave c) = Unit {0}
Registers (Open p z) = Unit {0}
Registers (Post k b s n) = Unit {0}
Registers Weigh = Unit {0}
Registers PutBack = Unit {0}
Registers Divide = Unit {0}
Registers Withdraw = Unit {0}
Registers Settle = Unit {0}

abbrev pub entries : Family EntryKind Entry
entries = record { number = entry_number; kinds = entry_kinds; layout = entry_layout; kind = kind_of; values = entry_values; Four = Registers }

-- why an entry at this place is refused
abbrev pub fault_of : BytePlace → Option Lack → Option Fault
fault_of place None = None
fault_of place (Some End) = None
fault_of place (Some Unknown) = Some (UnknownKind place)
fault_of place (Some Cut) = Some (CutEntry place)

abbrev pub refusal : BytePlace → List ℕ → Option Fault
refusal place bytes = fault_of place (lack entries bytes)

-- what a reader answers: the end of the stream, an entry and the bytes behind it, or a fault
abbrev pub Answer : Type 0
Answer = Result (Option (Entry × Bor (List ℕ))) Fault

abbrev pub Reading : List ℕ → BytePlace → Answer → Type 0
Reading bytes place (Err f) = refusal place bytes ≡ Some f
Reading bytes place (Ok None) = bytes ≡ []
Reading bytes place (Ok (Some p)) = Begins entries bytes p.0 p.1.now

-- the answer is the entry e, with rest behind it
abbrev pub Takes : Answer → Entry → List ℕ → Type 0
Takes (Err f) e rest = ⊥
Takes (Ok None) e rest = ⊥
Takes (Ok (Some p)) e rest = (p.0 ≡ e) × (p.1.now ≡ rest)

-- the answer is the first of the entries, with the others behind it, or the end where there is none
abbrev pub Follows : Answer → List Entry → Type 0
Follows (Err f) es = ⊥
Follows (Ok None) es = es ≡ []
Follows (Ok (Some p)) es = (others : List Entry) × (es ≡ p.0 ∷ others) × (p.1.now ≡ run entries others)

-- all that a reader promises
pub record ReadsEntry (bytes : List ℕ) (place : BytePlace) (r : Answer) : Type 0 where
  -- which answer comes
  pub gives : Reading bytes place r
  -- an entry that was written is read again
  pub inverse : (e : Entry) (more : List ℕ) → Writable entries e → bytes ≡ bytes_of entries e ++ more → Takes r e more
  -- a stream is read entry by entry
  pub stream : (es : List Entry) → AllByRecursion (Writable entries) es → bytes ≡ run entries es → Follows r es
