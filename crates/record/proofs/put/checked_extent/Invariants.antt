use Rattle.std.proofs.Common.{◌≡◌, ◌+◌, ◌*◌, ◌≤◌, drop}
use Rattle.record.specs.Format.{all_fit, extent}
use Rattle.record.proofs.put.checked_extent.Given as goal

-- what is left decides, since all before it fit
abbrev pub invariant-loop-field : goal.invariant-loop-field
invariant-loop-field l =
    (all_fit (drop l.field-index l.fields) ≡ all_fit l.fields)
    × (l.n + extent (drop l.field-index l.fields) ≡ extent l.fields)
    × (l.n ≤ 8 * l.field-index)
