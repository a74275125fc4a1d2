-- Weighing leaves the groups of the rows. Assumes nothing.
use Rattle.std.proofs.Common.{◌≡◌, ℕ, Bool, true, false, cond, refl}
use Rattle.fault.specs.declared.cause.Quarter.{Quarter}
use Rattle.profile.specs.Meanings.{Meaning}
use Rattle.rows.specs.declared.group.GroupRow.{GroupRow}
use Rattle.rows.specs.Groups.{has_profile}
use Rattle.rows.specs.Weighing.{weighed}

either_group : (b : Bool) (x y : GroupRow) → x.group ≡ y.group → (cond b x y).group ≡ y.group
either_group true x y e = e
either_group false x y e = refl

pub weighed_group : (meaning : Meaning) (quarter : Quarter) (period : ℕ) (row : GroupRow) → (weighed meaning quarter period row).group ≡ row.group
weighed_group meaning quarter period row = either_group (has_profile row) _ row refl
