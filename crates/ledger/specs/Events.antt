-- The events of a month. Assumes nothing.
use Rattle.std.specs.Prelude.{ℕ, List, [], ◌∷◌, ℤ}
use Rattle.fault.specs.declared.cause.Fault.{Fault}
use Rattle.profile.specs.Meanings.{Meaning}
use Rattle.record.specs.declared.entry.Enrolment.{Enrolment}

-- entries about connections
pub data Move : Type 0 where
  enrols : Enrolment → Move
  -- code, new stands
  reads : ℕ → List ℕ → Move
  -- code, BRP, supplier
  switches : ℕ → ℕ → ℕ → Move
  -- code
  leaves : ℕ → Move

-- entries about quarters, and the last of a month
pub data Turn : Type 0 where
  -- period, price
  opens : ℕ → ℤ → Turn
  -- kind, BRP, supplier, Wh
  posts : ℕ → ℕ → ℕ → ℕ → Turn
  -- by a source that means this
  weighs : Meaning → Turn
  puts_back : Turn
  divides : Turn
  withdraws : Turn
  settles : Turn

-- a call and its answer: accepted, or refused with its fault
pub data Event : Type 0 where
  moved : Move → Event
  turned : Turn → Event
  move_refused : Move → Fault → Event
  turn_refused : Turn → Fault → Event

-- all calls since an accepted begin, the latest first
abbrev pub History : Type 0
History = List Event

-- which entries a state admits
pub data Phase : Type 0 where
  between : Phase
  gathering : Phase
  slip : Phase
  settled : Phase

-- entries about connections are admitted between quarters; of the others each in its state
abbrev pub wants : Turn → Phase
wants (opens period price) = between
wants (posts kind b s wh) = gathering
wants (weighs meaning) = gathering
wants puts_back = slip
wants divides = slip
wants withdraws = gathering
wants settles = between

-- where an accepted entry leads
abbrev pub leads : Turn → Phase
leads (opens period price) = gathering
leads (posts kind b s wh) = gathering
leads (weighs meaning) = slip
leads puts_back = gathering
leads divides = between
leads withdraws = between
leads settles = settled

abbrev pub phase : History → Phase
phase [] = between
phase (moved m ∷ h) = phase h
phase (turned t ∷ h) = leads t
phase (move_refused m f ∷ h) = phase h
phase (turn_refused t f ∷ h) = phase h
