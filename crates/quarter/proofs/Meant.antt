-- What calls answer, step by step, is what a text means. Assumes nothing.
use Rattle.std.proofs.Common.{◌≡◌, ℕ, ◌+◌, ◌<◌, ◌≤◌, ◌==◌, Bool, true, false, List, [], ◌∷◌, length, get_or, drop, cond, Result, Ok, Err, Option, Some, Bor, MatchResult, pos, sym, ap, ◌∙◌, arith}
use Rattle.std.specs.List.{onto_first, slice_split}
use Rattle.std.specs.Iterator.{Yields}
use Rattle.std.specs.Result.{IsErrAnd}
use Rattle.std.specs.Str.Iter.{lines_rest, lines_steps}
use Rattle.std.specs.declared.str.Lines.{Lines}
use Rattle.std.proofs.lemmas.Iterator.Consumers.{YieldsList-turn}
use Rattle.std.proofs.lemmas.Iterator.Splits.{YieldsList-from_lines}
use Rattle.std.specs.Str.Lines.{lines, lines_of_parts}
use Rattle.std.proofs.lemmas.List.{drop_more, drop_all}
use Rattle.std.proofs.lemmas.Result.{err_from_is_err_and}
use Rattle.quarter.specs.declared.input.Item.{Item}
use Rattle.quarter.specs.declared.input.Postings.{Postings}
use Rattle.quarter.specs.declared.input.Row.{Row}
use Rattle.quarter.specs.declared.refusal.Reason.{Reason}
use Rattle.quarter.specs.declared.refusal.Refusal.{Refusal}
use Rattle.quarter.specs.declared.refusal.Stop.{Stop}
use Rattle.quarter.specs.declared.refusal.Stop.TheVariants.{Refused, Memory}
use Rattle.quarter.specs.Meaning.{Described, nothing_yet, at_line, described, said, with_item, with_line, with_lines}
use Rattle.quarter.specs.Reports.{of_parts, Stops}
use Rattle.quarter.specs.Texts.{words}
use Rattle.quarter.specs.Words.{and_then, says}

-- a call that moves its reason to the line answers what the line says
said_from_map_err : {Post : Reason → Refusal → Type 0} (n : ℕ) (r : Result (Option Item) Reason) (m : Result (Option Item) Refusal) → MatchResult r (λ x. m ≡ Ok x) (λ e. IsErrAnd m (Post e))
    → ((e : Reason) (x : Refusal) → Post e x → x ≡ record { line = n; reason = e }) → at_line n r ≡ m
said_from_map_err n (Ok x) m h k = sym h
said_from_map_err n (Err e) m h k = let p = err_from_is_err_and m h in sym (p.1 ∙ ap Err (k e p.0 p.2))

pub said_is : {Post : Reason → Refusal → Type 0} (n : ℕ) (text : List ℕ) (ws : List (List ℕ)) (r : Result (Option Item) Reason) (m : Result (Option Item) Refusal) → ws ≡ words text → r ≡ says n ws
    → MatchResult r (λ x. m ≡ Ok x) (λ e. IsErrAnd m (Post e)) → ((e : Reason) (x : Refusal) → Post e x → x ≡ record { line = n; reason = e }) → said n text ≡ m
unfolding said
said_is n text ws r m cut is h k = ap (at_line n) (sym (is ∙ ap (says n) cut)) ∙ said_from_map_err n r m h k

-- a line that cannot be read is refused, whatever came before it
pub line_stops : (n : ℕ) (q : Described) (line : List ℕ) (stop : Stop) → Stops (said n line) stop → Stops (with_line n q line) stop
unfolding with_line
line_stops n q line (Refused r) h = ap (λ m. and_then m (λ item. at_line n (with_item q item))) h
line_stops n q line Memory h = tt

pub line_says : (n : ℕ) (q : Described) (line : List ℕ) (item : Option Item) → said n line ≡ Ok item → at_line n (with_item q item) ≡ with_line n q line
unfolding with_line
line_says n q line item h = sym (ap (λ m. and_then m (λ item. at_line n (with_item q item))) h)

-- one line of many
lines_first : (n : ℕ) (q : Described) (all : List (List ℕ)) (line : List ℕ) → n < length all → line ≡ get_or all n line → with_lines n q (drop n all) ≡ and_then (with_line (n + 1) q line) (λ next. with_lines (n + 1) next (drop (n + 1) all))
lines_first n q all line h e = ap (with_lines n q) (drop_more all n line h) ∙ ap (λ l. and_then (with_line (n + 1) q l) (λ next. with_lines (n + 1) next (drop (n + 1) all))) (sym e)

pub lines_more : (n : ℕ) (q next : Described) (all : List (List ℕ)) (line : List ℕ) → (n < length all) × (line ≡ get_or all n line) → with_line (n + 1) q line ≡ Ok next → with_lines n q (drop n all) ≡ with_lines (n + 1) next (drop (n + 1) all)
lines_more n q next all line h e = lines_first n q all line h.0 h.1 ∙ ap (λ m. and_then m (λ x. with_lines (n + 1) x (drop (n + 1) all))) e

pub lines_stop : (n : ℕ) (q : Described) (all : List (List ℕ)) (line : List ℕ) (stop : Stop) → (n < length all) × (line ≡ get_or all n line) → Stops (with_line (n + 1) q line) stop → Stops (with_lines n q (drop n all)) stop
lines_stop n q all line (Refused r) h e = lines_first n q all line h.0 h.1 ∙ ap (λ m. and_then m (λ x. with_lines (n + 1) x (drop (n + 1) all))) e
lines_stop n q all line Memory h e = tt

pub lines_end : (n : ℕ) (q : Described) (all : List (List ℕ)) → length all ≤ n → with_lines n q (drop n all) ≡ Ok q
lines_end n q all h = ap (with_lines n q) (drop_all n all h)

-- a text has no more lines than bytes
one_at_most : (t : Bool) (x : List ℕ) → length (cond t [] (x ∷ [])) ≤ 1
one_at_most true x = omega arith
one_at_most false x = omega arith

fit_more : (parts : List (List ℕ)) (n b : ℕ) (t : Bool) → length (lines_of_parts parts) ≤ n → length (lines_of_parts (cond t ([] ∷ parts) (onto_first b parts))) ≤ n + 1
fit_more [] n b true h = omega arith
fit_more (x ∷ parts) n b true h = omega arith
fit_more [] n b false h = omega arith
fit_more (x ∷ []) n b false h = omega (arith, one_at_most (length (b ∷ x) == 0) (b ∷ x))
fit_more (x ∷ y ∷ more) n b false h = omega arith

pub lines_fit : (text : List ℕ) → length (lines text) ≤ length text
lines_fit [] = omega arith
lines_fit (b ∷ text) = omega (arith, fit_more (slice_split (λ c. c == 10) text) (length text) b (b == 10) (lines_fit text))

-- before the first line
pub nothing_is : (p : Postings) (rows : List Row) → (p.nets ≡ record { exchange = pos 0; measured = pos 0; losses = pos 0 }) × (p.gross ≡ 0) → rows ≡ [] → of_parts p rows ≡ nothing_yet
nothing_is p rows h e = λ i. record { exchange = (h.0 i).exchange; measured = (h.0 i).measured; losses = (h.0 i).losses; gross = h.1 i; rows = e i }

pub lines_start : (q : Described) (text : List ℕ) → q ≡ nothing_yet → with_lines 0 q (lines text) ≡ described text
unfolding described
lines_start q text e = ap (λ x. with_lines 0 x (lines text)) e

-- the line that an iteration has is the next of the text's lines
pub line_turn : {i s : Lines} (text : List ℕ) → i ≡ s → lines_rest s ≡ text → (xs : List (Bor (List ℕ))) (t : Lines) (y : Yields lines_steps i xs t) (r : Option (Bor (List ℕ))) (u : Lines) (x : Bor (List ℕ)) → r ≡ Some x → lines_steps t r u
    → (length xs < length (lines text)) × (x.now ≡ get_or (lines text) (length xs) x.now)
line_turn text e rest xs t y r u x is step = YieldsList-turn (YieldsList-from_lines text (ap lines_rest e ∙ rest)) xs t y r u x is step
