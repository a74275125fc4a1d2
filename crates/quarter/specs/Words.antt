-- What the words of a line say. Assumes nothing.
use Rattle.std.specs.Prelude.{ℕ, ◌-◌, ◌^◌, ◌==◌, Bool, true, false, cond, ◌&&◌, ◌||◌, List, [], ◌∷◌, length, map, codes, Result, Ok, Err, Option, Some, None, nat_lt, slice_index_or}
use Rattle.std.specs.Borrow.{Bor}
use Rattle.std.specs.Str.{bytes_eq}
use Rattle.std.specs.Str.Parse.{digits_value, without_leading_plus}
use Rattle.std.specs.Char.{digit_value}
use Rattle.allocation.specs.Scale.{weight_of, whole, most_standing}
use Rattle.quarter.specs.Bounds.{largest_party, last_class, most_posting, most_weight}
use Rattle.quarter.specs.declared.input.Group.{Group as Named}
use Rattle.quarter.specs.declared.input.Item.{Item}
use Rattle.quarter.specs.declared.input.Item.TheVariants.{Posting, Group}
use Rattle.quarter.specs.declared.input.Net.{Net}
use Rattle.quarter.specs.declared.input.Net.TheVariants.{Exchange, Measured, Losses}
use Rattle.quarter.specs.declared.input.Posting.{Posting as Amount}
use Rattle.quarter.specs.declared.input.Row.{Row}
use Rattle.quarter.specs.declared.input.Way.{Way}
use Rattle.quarter.specs.declared.input.Way.TheVariants.{In, Out}
use Rattle.quarter.specs.declared.refusal.Reason.{Reason}
use Rattle.quarter.specs.declared.refusal.Reason.TheVariants.{UnknownWord, WrongForm, NotANumber, OutOfRange}

-- one step, and then the next; the first that fails ends them
abbrev pub and_then : {A B E : Type 0} → Result A E → (A → Result B E) → Result B E
and_then (Ok x) next = next x
and_then (Err e) next = Err e

-- what references to texts point to
abbrev pub texts : List (Bor (List ℕ)) → List (List ℕ)
texts ws = map (λ w. w.now) ws

-- the word at a place, counted from 1
abbrev pub word_at : List (List ℕ) → ℕ → List ℕ
word_at ws place = slice_index_or ws (place - 1) []

abbrev pub all_digits : List ℕ → Bool
all_digits [] = true
all_digits (c ∷ cs) = nat_lt (digit_value c) 10 && all_digits cs

-- one decimal digit or more, and nothing else, that write a number of 64 bits
abbrev pub is_numeral : List ℕ → Bool
is_numeral w = nat_lt 0 (length w) && (all_digits w && nat_lt (digits_value 10 w) (2 ^ 64))

-- the number that the word w at a place writes; a plus before it is read over
unfoldable pub whole_at : ℕ → List ℕ → Result ℕ Reason
whole_at place w = cond (is_numeral (without_leading_plus w)) (Ok (digits_value 10 (without_leading_plus w))) (Err (NotANumber place))

-- the number that the word w at a place writes, from least to most
unfoldable pub number_at : ℕ → ℕ → ℕ → List ℕ → Result ℕ Reason
number_at place least most w = and_then (whole_at place w) (λ n. cond (nat_lt n least || nat_lt most n) (Err (OutOfRange place)) (Ok n))

abbrev pub net_word : Net → List ℕ
net_word Exchange = codes "exchange"
net_word Measured = codes "measured"
net_word Losses = codes "loss"

abbrev pub way_word : Net → Way → List ℕ
way_word Exchange In = codes "in"
way_word Exchange Out = codes "out"
way_word Measured In = codes "feed-in"
way_word Measured Out = codes "offtake"
way_word Losses In = codes "feed-in"
way_word Losses Out = codes "offtake"

-- the two words are those of a net and a way
abbrev pub says_kind : Net → Way → List ℕ → List ℕ → Bool
says_kind net way n w = bytes_eq n (net_word net) && bytes_eq w (way_word net way)

-- what is posted, and which way
unfoldable pub kind_of : List ℕ → List ℕ → Result (Net × Way) Reason
kind_of n w =
    cond (says_kind Exchange In n w) (Ok (Exchange, In))
    (cond (says_kind Exchange Out n w) (Ok (Exchange, Out))
    (cond (says_kind Measured Out n w) (Ok (Measured, Out))
    (cond (says_kind Measured In n w) (Ok (Measured, In))
    (cond (says_kind Losses Out n w) (Ok (Losses, Out))
    (cond (says_kind Losses In n w) (Ok (Losses, In)) (Err UnknownWord))))))

-- NET WAY VOLUME
unfoldable pub posting_of : List (List ℕ) → Result Amount Reason
posting_of ws =
    cond (length ws == 3)
    (and_then (kind_of (word_at ws 1) (word_at ws 2)) (λ kind. and_then (number_at 3 0 most_posting (word_at ws 3)) (λ wh. Ok (record { net = kind.0; way = kind.1; wh = wh }))))
    (Err WrongForm)

-- what the fraction at one place gives the standing sum at another
unfoldable pub profiled_at : ℕ → List ℕ → ℕ → List ℕ → Result ℕ Reason
profiled_at place f sum_place s = and_then (number_at place 0 whole f) (λ parts. and_then (number_at sum_place 0 most_standing s) (λ kwh. Ok (weight_of parts kwh)))

-- BRP SUPPLIER CLASS
unfoldable pub named_group : List ℕ → List ℕ → List ℕ → Result Named Reason
named_group b s c = and_then (number_at 2 1 largest_party b) (λ brp. and_then (number_at 3 1 largest_party s) (λ supplier. and_then (number_at 4 1 last_class c) (λ class. Ok (record { brp = brp; supplier = supplier; class = class }))))

-- a group that is given on a line, offtake before feed-in
abbrev pub row_of : ℕ → Result Named Reason → Result ℕ Reason → Result ℕ Reason → Result Row Reason
row_of line group offtake feed_in = and_then group (λ g. and_then offtake (λ o. and_then feed_in (λ f. Ok (record { group = g; line = line; offtake = o; feed_in = f }))))

-- group BRP SUPPLIER CLASS weights OFFTAKE FEED-IN, or
-- group BRP SUPPLIER CLASS fractions OFFTAKE FEED-IN sums OFFTAKE FEED-IN
unfoldable pub group_of : ℕ → List (List ℕ) → Result Row Reason
group_of line ws =
    let group = named_group (word_at ws 2) (word_at ws 3) (word_at ws 4) in
    cond (length ws == 7 && bytes_eq (word_at ws 5) (codes "weights"))
    (row_of line group (number_at 6 0 most_weight (word_at ws 6)) (number_at 7 0 most_weight (word_at ws 7)))
    (cond (length ws == 10 && (bytes_eq (word_at ws 5) (codes "fractions") && bytes_eq (word_at ws 8) (codes "sums")))
    (row_of line group (profiled_at 6 (word_at ws 6) 9 (word_at ws 9)) (profiled_at 7 (word_at ws 7) 10 (word_at ws 10)))
    (Err WrongForm))

-- a word that begins a comment
abbrev pub is_comment : List ℕ → Bool
is_comment [] = false
is_comment (c ∷ cs) = c == 35

-- a word that begins a posting's line
abbrev pub is_net : List ℕ → Bool
is_net w = bytes_eq w (net_word Exchange) || (bytes_eq w (net_word Measured) || bytes_eq w (net_word Losses))

-- what a line of words says, by its first word
unfoldable pub item_of : ℕ → List ℕ → List (List ℕ) → Result Item Reason
item_of line w ws =
    cond (bytes_eq w (codes "group")) (and_then (group_of line ws) (λ row. Ok (Group row)))
    (cond (is_net w) (and_then (posting_of ws) (λ posting. Ok (Posting posting))) (Err UnknownWord))

-- what a line says by its words, unless it has none or is a comment
unfoldable pub says : ℕ → List (List ℕ) → Result (Option Item) Reason
says line ws = cond (length ws == 0 || is_comment (word_at ws 1)) (Ok None) (and_then (item_of line (word_at ws 1) ws) (λ item. Ok (Some item)))
