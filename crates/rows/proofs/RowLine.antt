-- The amounts of a line of rows. Assumes nothing.
use Rattle.std.proofs.Common.{◌≡◌, ℕ, Bool, true, false, cond, ltb, List, [], ◌∷◌, ℤ, pos, ◌+ℤ◌, nat_abs, Some, None, Ok, Err, Option, Result, sym, refl, ap, ◌∙◌}
use Rattle.fault.specs.declared.cause.Fault.{Fault}
use Rattle.allocation.specs.Refusals.{Decided}
use Rattle.allocation.specs.Scale.{most_volume}
use Rattle.allocation.specs.Amounts.{settled, totals_refusal}
use Rattle.allocation.specs.Settling.{amount_of, total_refusal}
use Rattle.rows.specs.declared.group.GroupRow.{GroupRow}
use Rattle.rows.specs.Registers.{register}
use Rattle.rows.specs.Settling.{reconciliation, settle_line}
use Rattle.rows.specs.RowAmounts.{after_row, last_amount, loss_amount, row_refusal, settle_refusal, unpriced}

both_parts : {A : Type 0} (a b : Bool) (x : A) (rest : Option A) → cond a (Some x) (cond b (Some x) None) ≡ None → cond a (Some x) (cond b (Some x) rest) ≡ rest
both_parts true b x rest h = cc
both_parts false true x rest h = cc
both_parts false false x rest h = refl

some_part : {A : Type 0} (a b : Bool) (x y : A) (rest : Option A) → cond a (Some x) (cond b (Some x) None) ≡ Some y → cond a (Some x) (cond b (Some x) rest) ≡ Some y
some_part true b x y rest h = h
some_part false true x y rest h = h
some_part false false x y rest h = cc

module _ (price : ℤ) (period : ℕ) (loss : ℤ) (rows : List GroupRow) where
  -- the line has come to the total s, and rest is left of it
  pub record Walked (rest : List GroupRow) (s : ℤ) : Type 0 where
    pub refusal : totals_refusal s (unpriced (settle_line period rest loss)) ≡ settle_refusal period rows loss
    pub amount : (a : ℤ) → last_amount a (settled price s (unpriced (settle_line period rest loss))) ≡ loss_amount price period rows loss

  -- the last amount is not the one before the line
  last_same : (a b s : ℤ) (rest : List GroupRow) → last_amount a (settled price s (unpriced (settle_line period rest loss))) ≡ last_amount b (settled price s (unpriced (settle_line period rest loss)))
  last_same a b s [] = refl
  last_same a b s (row ∷ rest) = refl

  pub walked_start : (s : ℤ) → s ≡ pos 0 → Walked rows s
  walked_start s none = record {
    refusal = ap (λ z. totals_refusal z (unpriced (settle_line period rows loss))) none;
    amount = λ a. ap (λ z. last_amount a (settled price z (unpriced (settle_line period rows loss)))) none ∙ last_same a (pos 0) (pos 0) rows;
  }

  module _ (rest : List GroupRow) (row : GroupRow) (more : List GroupRow) (cut : rest ≡ row ∷ more) (s : ℤ) (h : Walked rest s) where
    abbrev x : ℤ
    x = reconciliation row (register 0 period)

    abbrev y : ℤ
    y = reconciliation row (register 1 period)

    pub walked_refused : (e : Fault) → row_refusal s period row ≡ Some e → settle_refusal period rows loss ≡ Some e
    walked_refused e refused =
        sym h.refusal ∙ ap (λ l. totals_refusal s (unpriced (settle_line period l loss))) cut ∙ some_part (ltb most_volume (nat_abs (s +ℤ x))) (ltb most_volume (nat_abs (s +ℤ x +ℤ y))) _ e _ refused

    pub walked_more : (n : ℤ) → row_refusal s period row ≡ None → n ≡ after_row s period row → Walked more n
    walked_more n passed e = record {
      refusal =
          ap (λ z. totals_refusal z (unpriced (settle_line period more loss))) e
          ∙ sym (both_parts (ltb most_volume (nat_abs (s +ℤ x))) (ltb most_volume (nat_abs (s +ℤ x +ℤ y))) _ (totals_refusal (after_row s period row) (unpriced (settle_line period more loss))) passed)
          ∙ sym (ap (λ l. totals_refusal s (unpriced (settle_line period l loss))) cut)
          ∙ h.refusal;
      amount = λ a.
          ap (λ z. last_amount a (settled price z (unpriced (settle_line period more loss)))) e
          ∙ last_same a (amount_of price (s +ℤ x) y) (after_row s period row) more
          ∙ sym (ap (λ l. last_amount a (settled price s (unpriced (settle_line period l loss)))) cut)
          ∙ h.amount a;
    }

  pub walked_end : (p s : ℤ) (rest : List GroupRow) (r : Result ℤ Fault) (Q R : Type 0) → p ≡ price → rest ≡ [] → Walked rest s → Decided (total_refusal (s +ℤ loss)) r (λ a. (a ≡ amount_of p s loss) × Q × R) → Decided (settle_refusal period rows loss) r (λ a. a ≡ loss_amount price period rows loss)
  walked_end p s rest (Ok a) Q R same none h told = (
    sym h.refusal ∙ ap (λ l. totals_refusal s (unpriced (settle_line period l loss))) none ∙ told.0,
    told.1.0 ∙ ap (λ z. amount_of z s loss) same ∙ sym (ap (λ l. last_amount (pos 0) (settled price s (unpriced (settle_line period l loss)))) none) ∙ h.amount (pos 0),
  )
  walked_end p s rest (Err e) Q R same none h told = sym h.refusal ∙ ap (λ l. totals_refusal s (unpriced (settle_line period l loss))) none ∙ told
