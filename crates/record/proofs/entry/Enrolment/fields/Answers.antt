use Rattle.std.proofs.Common.{[], ◌∷◌, ap, ◌∙◌, rules}
use Rattle.record.specs.Entries.{entries}
use Rattle.record.specs.declared.entry.Entry.TheVariants.{Enrol}
use Rattle.record.proofs.FamilyLaws.{writable}
use Rattle.record.proofs.entry.Enrolment.fields.Goals as goal

pub returns-clause-value : goal.returns-clause-value
returns-clause-value c = λ i. (c.field.ensures ∙ ap (λ k. (1, k)) c.number.ensures) i ∷ c.field-2.ensures i ∷ c.party.ensures i ∷ c.party-2.ensures i ∷ c.field-3.ensures i ∷ c.field-4.ensures i ∷ c.field-5.ensures i ∷ c.field-6.ensures i ∷ c.field-7.ensures i ∷ c.field-8.ensures i ∷ c.field-9.ensures i ∷ c.field-10.ensures i ∷ c.field-11.ensures i ∷ c.field-12.ensures i ∷ c.field-13.ensures i ∷ []

pub returns-clause-writable : goal.returns-clause-writable
returns-clause-writable c = writable entries (Enrol c.args.self.now) _ (returns-clause-value c) (search rules) (search rules)
