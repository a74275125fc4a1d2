use Rattle.std.proofs.Common.{◌≡◌, ◌^◌, ◌<◌, take}
use Rattle.record.specs.Number.{big}
use Rattle.record.proofs.number.number.Given as goal

-- the number so far is that of the bytes so far
abbrev pub invariant-loop-b : goal.invariant-loop-b
invariant-loop-b l = (take l.b-index l.b-items ≡ big l.b-index l.n) × (l.n < 256 ^ l.b-index)
