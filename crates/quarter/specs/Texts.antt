-- The words of a text. Assumes nothing.
use Rattle.std.specs.Prelude.{ℕ, List, [], ◌∷◌, map}
use Rattle.std.specs.Char.{is_whitespace}
use Rattle.std.specs.List.{slice_split}
use Rattle.std.specs.Str.{chars, encode_utf8_all}

-- the parts that hold something
abbrev pub filled : List (List ℕ) → List (List ℕ)
filled [] = []
filled ([] ∷ parts) = filled parts
filled ((c ∷ cs) ∷ parts) = (c ∷ cs) ∷ filled parts

-- the words among characters: what stands between white space
abbrev pub words_among : List ℕ → List (List ℕ)
words_among cs = filled (slice_split is_whitespace cs)

-- the words of a text, in bytes
unfoldable pub words : List ℕ → List (List ℕ)
words text = map encode_utf8_all (words_among (chars text))
