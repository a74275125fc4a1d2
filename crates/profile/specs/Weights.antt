-- What a group weighs by a source. Assumes nothing.
use Rattle.std.specs.Prelude.{ℕ, cond, Some, None, Option, ◌==◌}
use Rattle.allocation.specs.Scale.{weight_of}

abbrev weight_at : Option ℕ → ℕ → Option ℕ
weight_at None sum = None
weight_at (Some parts) sum = Some (weight_of parts sum)

-- the weight of a standing sum by the fraction that is meant, if one is; a sum of 0 weighs 0, whatever is meant
abbrev pub weight_meant : Option ℕ → ℕ → Option ℕ
weight_meant meant sum = cond (sum == 0) (Some 0) (weight_at meant sum)
