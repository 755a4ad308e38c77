-- Types of promises that are compared, and statuses.
use Rattle.std.proofs.Common.{◌≡◌, ◌∙◌, true, false, refl, ap, sym, rules}
use Rattle.std.proofs.lemmas.Bool.{false≢true}
use denote.Enum.Bare.{sameb, same_true}
use Rattle.cfa_kinds.specs.contracts.kinds.PromiseType.{the_type as the_types}
use Rattle.cfa_kinds.specs.declared.kinds.PromiseType.{PromiseType}
use Rattle.cfa_kinds.specs.declared.kinds.PromiseType.TheVariants.{Vars, Classes, Files, Methods, Services, Reports, DeleteLines, FieldEdits, InsertLines, ReplacePatterns}
use Rattle.cfa_states.specs.Numbered.{is_type}

-- ---- types

same_type : (type : PromiseType) → is_type type type ≡ true
same_type Vars = refl
same_type Classes = refl
same_type Files = refl
same_type Methods = refl
same_type Services = refl
same_type Reports = refl
same_type DeleteLines = refl
same_type FieldEdits = refl
same_type InsertLines = refl
same_type ReplacePatterns = refl

pub is_same_type : (type other : PromiseType) → other ≡ type → is_type type other ≡ true
is_same_type type other same = ap (λ x. is_type type x) same ∙ same_type type

pub is_other_type : (type other : PromiseType) → (other ≡ type → ⊥) → is_type type other ≡ false
is_other_type Vars Vars other = absurd (other refl)
is_other_type Classes Classes other = absurd (other refl)
is_other_type Files Files other = absurd (other refl)
is_other_type Methods Methods other = absurd (other refl)
is_other_type Services Services other = absurd (other refl)
is_other_type Reports Reports other = absurd (other refl)
is_other_type DeleteLines DeleteLines other = absurd (other refl)
is_other_type FieldEdits FieldEdits other = absurd (other refl)
is_other_type InsertLines InsertLines other = absurd (other refl)
is_other_type ReplacePatterns ReplacePatterns other = absurd (other refl)
is_other_type type found other = refl

type_agrees : (type : PromiseType) → sameb the_types type type ≡ true
type_agrees Vars = refl
type_agrees Classes = refl
type_agrees Files = refl
type_agrees Methods = refl
type_agrees Services = refl
type_agrees Reports = refl
type_agrees DeleteLines = refl
type_agrees FieldEdits = refl
type_agrees InsertLines = refl
type_agrees ReplacePatterns = refl

pub types_agree : (type other : PromiseType) → true ≡ sameb the_types type other → type ≡ other
types_agree type other e = same_true the_types (search rules) _ _ (sym e)

pub types_differ : (type other : PromiseType) → false ≡ sameb the_types type other → type ≡ other → ⊥
types_differ type other e same = false≢true (e ∙ ap (λ x. sameb the_types type x) (sym same) ∙ type_agrees type)
