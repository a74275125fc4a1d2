-- The kinds of records: their numbers and the layouts of their bodies. Assumes nothing.
use Rattle.std.specs.Prelude.{ℕ, ℤ, List, [], ◌∷◌, ◌++◌, Option, slice_index_or}
use Rattle.record.specs.Format.{Form, unsigned, signed}
use Rattle.record.specs.Family.{numbered}
use Rattle.record.specs.declared.kind.EntryKind.{EntryKind}
use Rattle.record.specs.declared.kind.EntryKind.TheVariants.{Begin, Enrol, Read, Switch, Leave, Open, Post, Weigh, PutBack, Divide, Withdraw, Settle}
use Rattle.record.specs.declared.kind.PageKind.{PageKind}
use Rattle.record.specs.declared.kind.PageKind.TheVariants.{Head, Group, Period, Register, Refusal}

abbrev pub entry_number : EntryKind → ℕ
entry_number Begin = 16
entry_number Enrol = 17
entry_number Read = 18
entry_number Switch = 19
entry_number Leave = 20
entry_number Open = 21
entry_number Post = 22
entry_number Weigh = 23
entry_number PutBack = 24
entry_number Divide = 25
entry_number Withdraw = 26
entry_number Settle = 27

abbrev pub entry_kinds : List EntryKind
entry_kinds = Begin ∷ Enrol ∷ Read ∷ Switch ∷ Leave ∷ Open ∷ Post ∷ Weigh ∷ PutBack ∷ Divide ∷ Withdraw ∷ Settle ∷ []

abbrev pub entry_kind : ℕ → Option EntryKind
entry_kind n = numbered entry_number entry_kinds n

abbrev pub page_number : PageKind → ℕ
page_number Head = 1
page_number Group = 2
page_number Period = 3
page_number Register = 4
page_number Refusal = 6

abbrev pub page_kinds : List PageKind
page_kinds = Head ∷ Group ∷ Period ∷ Register ∷ Refusal ∷ []

abbrev pub page_kind : ℕ → Option PageKind
page_kind n = numbered page_number page_kinds n

-- the forms of fields: without a sign, of one to eight bytes; a party; a volume, a price or an amount, which has a sign
abbrev byte : Form
byte = unsigned 1

abbrev half : Form
half = unsigned 2

abbrev word : Form
word = unsigned 4

abbrev long : Form
long = unsigned 8

abbrev party : Form
party = unsigned 2

abbrev volume : Form
volume = signed 8

-- one for each register
abbrev pub each : Form → List Form
each f = f ∷ f ∷ f ∷ f ∷ []

-- the values of a list that has one for each register, whatever d is
abbrev pub four_of : {X : Type 0} → (X → ℤ) → X → List X → List ℤ
four_of value d xs = value (slice_index_or xs 0 d) ∷ value (slice_index_or xs 1 d) ∷ value (slice_index_or xs 2 d) ∷ value (slice_index_or xs 3 d) ∷ []

abbrev pub entry_layout : EntryKind → List Form
-- quarters, loss party
entry_layout Begin = half ∷ party ∷ []
-- code, BRP, supplier, class, digits, factor, standard year volumes, stands
entry_layout Enrol = long ∷ party ∷ party ∷ byte ∷ byte ∷ byte ∷ (each word ++ each word)
-- code, stands
entry_layout Read = long ∷ each word
-- code, BRP, supplier
entry_layout Switch = long ∷ party ∷ party ∷ []
-- code
entry_layout Leave = long ∷ []
-- period, price
entry_layout Open = byte ∷ signed 4 ∷ []
-- kind of posting, BRP, supplier, Wh
entry_layout Post = byte ∷ party ∷ party ∷ word ∷ []
entry_layout Weigh = []
entry_layout PutBack = []
entry_layout Divide = []
entry_layout Withdraw = []
entry_layout Settle = []

abbrev pub page_layout : PageKind → List Form
-- quarters, loss party, rows
page_layout Head = half ∷ party ∷ word ∷ []
-- BRP, supplier, class, month volumes, real volumes
page_layout Group = party ∷ party ∷ byte ∷ (each volume ++ each volume)
-- period, price, real loss, loss, reconciliation volume, amount
page_layout Period = byte ∷ volume ∷ volume ∷ volume ∷ volume ∷ volume ∷ []
-- BRP, supplier, class, register, reconciliation volume, amount
page_layout Register = party ∷ party ∷ byte ∷ byte ∷ volume ∷ volume ∷ []
-- number, layer, three places
page_layout Refusal = byte ∷ byte ∷ long ∷ long ∷ long ∷ []
