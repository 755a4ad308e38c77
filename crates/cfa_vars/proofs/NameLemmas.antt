-- Names and their parts.
use Rattle.std.proofs.Common.{◌≡◌, ◌<◌, ℕ, true, false, eqb, List, length, Option, Some, None, MatchOption}
use Rattle.std.specs.List.{position_or_len, before_first, after_first}
use denote.Ref.{Bor}
use Rattle.cfa_base.specs.Lexing.{is_dot}
use Rattle.cfa_vars.specs.References.{is_qualified, bundle_part, word_part}
use Rattle.cfa_vars.specs.lemmas.Names.{list_any-none, list_any-some}

-- what `split_once('.')` gives
pub parts_of : (name : List ℕ) (r : Option (Bor (List ℕ) × Bor (List ℕ))) → MatchOption r (position_or_len (λ b. eqb b 46) name ≡ length name) (λ x. (position_or_len (λ b. eqb b 46) name < length name) × (x.0.now ≡ before_first (λ b. eqb b 46) name) × (x.1.now ≡ after_first (λ b. eqb b 46) name)) → MatchOption r (is_qualified name ≡ false) (λ x. (is_qualified name ≡ true) × (x.0.now ≡ bundle_part name) × (x.1.now ≡ word_part name))
parts_of name None h = list_any-none is_dot name h
parts_of name (Some x) h = (list_any-some is_dot name h.0, h.1, h.2)
