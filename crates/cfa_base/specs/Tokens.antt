-- A token of a policy: its kind, its spelling as it stands in the source, and the place of its first byte.
use Rattle.std.specs.Prelude.{ℕ, List}
use Rattle.cfa_base.specs.declared.tokens.Kind.{Kind}
use Rattle.cfa_base.specs.declared.places.Place.{Place}

pub record Token : Type 0 where
  pub kind : Kind
  pub text : List ℕ
  pub place : Place
