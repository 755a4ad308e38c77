-- Of the code alone: how environments are told apart.
use Rattle.std.specs.Prelude.{ℕ, List, refl}
use Rattle.std.specs.Coded.{Coded, code_by, coded×, coded_list, coded_ℕ}
use Rattle.std.specs.FinMap as finite
use Rattle.cfa_base.specs.declared.places.PromiseId.{PromiseId}
use Rattle.cfa_statuses.specs.contracts.levels.Status as status_row
use Rattle.cfa_statuses.specs.Raised.{Raised}
use Rattle.cfa_outcomes.specs.Environments.{EnvironmentMaps, Sources, Marks}

abbrev pub text_code : Coded (List ℕ)
text_code = coded_list coded_ℕ

abbrev pub raised_code : Coded Raised
raised_code = finite.code text_code status_row.the_row.coded

abbrev pub promise_id_code : Coded PromiseId
promise_id_code =
    code_by (List ℕ × (ℕ × ℕ)) (coded× text_code (coded× coded_ℕ coded_ℕ))
    (λ id. (id.bundle, (id.number, id.line))) (λ t. record { bundle = t.0; number = t.1.0; line = t.1.1 }) (λ _. refl)

abbrev pub sources_code : Coded Sources
sources_code = finite.code text_code promise_id_code

abbrev pub marks_code : Coded Marks
marks_code = finite.code text_code raised_code

abbrev pub environment_code : Coded EnvironmentMaps
environment_code =
    code_by (Raised × (Sources × Marks)) (coded× raised_code (coded× sources_code marks_code))
    (λ e. (e.statuses, (e.sources, e.marks))) (λ t. record { statuses = t.0; sources = t.1.0; marks = t.1.1 }) (λ _. refl)
