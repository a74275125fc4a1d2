-- Entries are read as they were written. Assumes nothing.
use Rattle.std.proofs.Common.{◌≡◌, ℕ, List, [], ◌∷◌, ◌++◌, get_or, ℤ, pos, Some, None, Ok, Err, Option, sym, refl, ap, ◌∙◌, arith}
use Rattle.std.specs.List.{AllByRecursion}
use Rattle.fault.specs.declared.cause.BytePlace.{BytePlace}
use Rattle.fault.specs.declared.cause.Fault.{Fault}
use Rattle.record.specs.Family.{Writable, bytes_of, run}
use Rattle.record.specs.Kinds.{entry_number, entry_kind}
use Rattle.record.specs.Entries.{kind_of, entry_values, Registers, entries, fault_of, refusal, Answer, Reading, Takes, Follows, ReadsEntry}
use Rattle.record.specs.declared.kind.EntryKind.{EntryKind}
use Rattle.record.specs.declared.kind.EntryKind.TheVariants as kinds
use Rattle.record.specs.declared.entry.Entry.{Entry}
use Rattle.record.specs.declared.entry.Entry.TheVariants.{Begin, Enrol, Read, Switch, Leave, Open, Post, Weigh, PutBack, Divide, Withdraw, Settle}
use Rattle.record.proofs.Registers.{count, four_are, four_from}
use Rattle.record.proofs.FamilyLaws.{Lawful, same_record, nothing_lacks, some_byte, first_of_run}

found : (k : EntryKind) → entry_kind (entry_number k) ≡ Some k
found kinds.Begin = refl
found kinds.Enrol = refl
found kinds.Read = refl
found kinds.Switch = refl
found kinds.Leave = refl
found kinds.Open = refl
found kinds.Post = refl
found kinds.Weigh = refl
found kinds.PutBack = refl
found kinds.Divide = refl
found kinds.Withdraw = refl
found kinds.Settle = refl

-- the entry of a kind with these values
make : EntryKind → List ℤ → Entry
make kinds.Begin zs = Begin (count zs 0) (count zs 1)
make kinds.Enrol zs = Enrol (record { code = count zs 0; brp = count zs 1; supplier = count zs 2; class = count zs 3; digits = count zs 4; factor = count zs 5; volumes = four_from count zs 6; stands = four_from count zs 10 })
make kinds.Read zs = Read (count zs 0) (four_from count zs 1)
make kinds.Switch zs = Switch (count zs 0) (count zs 1) (count zs 2)
make kinds.Leave zs = Leave (count zs 0)
make kinds.Open zs = Open (count zs 0) (get_or zs 1 (pos 0))
make kinds.Post zs = Post (count zs 0) (count zs 1) (count zs 2) (count zs 3)
make kinds.Weigh zs = Weigh
make kinds.PutBack zs = PutBack
make kinds.Divide zs = Divide
make kinds.Withdraw zs = Withdraw
make kinds.Settle zs = Settle

made : (e : Entry) → Registers e → make (kind_of e) (entry_values e) ≡ e
unfolding make
made (Begin q p) h = refl
made (Enrol x) h = (λ i. Enrol (record { code = x.code; brp = x.brp; supplier = x.supplier; class = x.class; digits = x.digits; factor = x.factor; volumes = four_are 0 x.volumes h.0 i; stands = four_are 0 x.stands h.1 i }))
made (Read c s) h = ap (Read c) (four_are 0 s h)
made (Switch c b s) h = refl
made (Leave c) h = refl
made (Open p z) h = refl
made (Post k b s n) h = refl
made Weigh h = refl
made PutBack h = refl
made Divide h = refl
made Withdraw h = refl
made Settle h = refl

pub lawful : Lawful entries
lawful = record { small = refl; found = found; make = make; made = made }

inverse : (bytes : List ℕ) (place : BytePlace) (r : Answer) → Reading bytes place r → (e : Entry) (more : List ℕ) → Writable entries e → bytes ≡ bytes_of entries e ++ more → Takes r e more
inverse bytes place (Err f) h e more w is =
    let not : ◌≡◌ {A = Option Fault} (Some f) None = sym h ∙ ap (refusal place) is ∙ ap (fault_of place) (nothing_lacks lawful e more w) in
    let z : ◌≡◌ {A = ℕ} 0 1 = cc in
    omega arith
inverse bytes place (Ok None) h e more w is = some_byte entries e more (sym is ∙ h)
inverse bytes place (Ok (Some p)) h e more w is = same_record lawful p.0 e p.1.now more h.writable w (sym h.split ∙ is)

stream : (bytes : List ℕ) (place : BytePlace) (r : Answer) → Reading bytes place r → (es : List Entry) → AllByRecursion (Writable entries) es → bytes ≡ run entries es → Follows r es
stream bytes place (Err f) h [] ws is =
    let not : ◌≡◌ {A = Option Fault} (Some f) None = sym h ∙ ap (refusal place) is in
    let z : ◌≡◌ {A = ℕ} 0 1 = cc in
    omega arith
stream bytes place (Err f) h (e ∷ es) ws is = inverse bytes place (Err f) h e (run entries es) ws.0 is
stream bytes place (Ok None) h [] ws is = refl
stream bytes place (Ok None) h (e ∷ es) ws is = absurd (inverse bytes place (Ok None) h e (run entries es) ws.0 is)
stream bytes place (Ok (Some p)) h es ws is = first_of_run lawful bytes p.1.now p.0 h es ws is

-- which answer comes decides all that is promised
pub reads_entry : (bytes : List ℕ) (place : BytePlace) (r : Answer) → Reading bytes place r → ReadsEntry bytes place r
reads_entry bytes place r h = record { gives = h; inverse = inverse bytes place r h; stream = stream bytes place r h }
