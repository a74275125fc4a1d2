use Rattle.std.proofs.Common.{◌+◌, ◌*◌, ◌∙◌, subst, sym, arith}
use Rattle.record.specs.Places.{Stands}
use Rattle.record.specs.declared.kind.PageKind.TheVariants.{Period, Register}
use Rattle.record.proofs.PlaceLaws.{length_page, page_is, group_stands, register_stands, period_stands}
use Rattle.record.proofs.place.behind_groups.Goals as goal

pub returns-clause-behind : goal.returns-clause-behind
returns-clause-behind c =
    let long = length_page c.args.groups in
    record {
      group = λ rows. group_stands rows c.args.groups;
      register = λ rows i at h. subst (Stands rows (2 + 5 * c.args.groups + i) Register) (sym h.2) (register_stands rows c.args.groups i h.0 h.1);
      period = λ i at h. subst (Stands c.args.groups (1 + 5 * c.args.groups + i) Period) (sym h.1) (period_stands c.args.groups i h.0);
      span_is = omega (arith, long);
      length_is = λ rs p. page_is c.args.groups rs p ∙ omega (arith, long);
    }
