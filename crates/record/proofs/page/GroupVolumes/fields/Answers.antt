use Rattle.std.proofs.Common.{◌≡◌, List, [], ◌∷◌, ◌++◌, rules}
use Rattle.record.specs.Format.{Field, signed, filled}
use Rattle.record.specs.Kinds.{each}
use Rattle.record.specs.Pages.{four_signed, pages}
use Rattle.record.specs.declared.page.PageRecord.TheVariants.{Group}
use Rattle.record.proofs.FamilyLaws.{writable}
use Rattle.record.proofs.page.GroupVolumes.fields.Goals as goal

pub returns-clause-value : goal.returns-clause-value
returns-clause-value c =
    let month : ◌≡◌ {A = List Field} (c.field-3.result ∷ c.field-4.result ∷ c.field-5.result ∷ c.field-6.result ∷ []) (filled (each (signed 8)) (four_signed c.args.self.now.month)) = search rules in
    let real : ◌≡◌ {A = List Field} (c.field-7.result ∷ c.field-8.result ∷ c.field-9.result ∷ c.field-10.result ∷ []) (filled (each (signed 8)) (four_signed c.args.self.now.real)) = search rules in
    let kind : ◌≡◌ {A = Field} c.field.result (1, 2) = search rules in
    λ i. kind i ∷ c.party.ensures i ∷ c.party-2.ensures i ∷ c.field-2.ensures i ∷ (month i ++ real i)

pub returns-clause-writable : goal.returns-clause-writable
returns-clause-writable c = writable pages (Group c.args.self.now) _ (returns-clause-value c) (search rules) (search rules)
