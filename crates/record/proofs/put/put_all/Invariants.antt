use Rattle.std.proofs.Common.{◌≡◌, ◌+◌, drop}
use Rattle.record.specs.Format.{over, encode, extent}
use Rattle.record.proofs.put.put_all.Given as goal

-- with what is left written behind, the memory is as it shall be
abbrev pub invariant-loop-field : goal.invariant-loop-field
invariant-loop-field l =
    (over l.out l.place (encode (drop l.field-index l.fields)) ≡ over l.initial.out l.at (encode l.fields))
    × (l.place + extent (drop l.field-index l.fields) ≡ l.at + extent l.fields)
