use Rattle.std.proofs.Common.{sym, subst}
use Rattle.record.specs.Kinds.{entry_layout}
use Rattle.record.specs.Entries.{entry_values}
use Rattle.record.specs.Format.{Reads}
use Rattle.record.specs.declared.entry.Entry.TheVariants.{Enrol}
use Rattle.record.proofs.entry_read.entry_of.Goals as goal

pub returns-in-Enrol-clause-values : goal.returns-in-Enrol-clause-values
returns-in-Enrol-clause-values c = subst (λ k. Reads c.args.body.now 0 (entry_layout k) (entry_values (Enrol c.enrolment.result))) (sym c.in-Enrol.is) c.enrolment.ensures.values
