-- Bytes from a place on have one list of tokens or one first fault, and never both.
use Rattle.std.specs.Prelude.{◌≡◌, ◌⊎◌, ℕ, List}
use Rattle.cfa_base.specs.declared.places.Place.{Place}
use Rattle.cfa_base.specs.Tokens.{Token}
use Rattle.cfa_base.specs.Lexing.{Fault, Lexes, FirstFault}

abbrev pub TokensAreOne : Type 0
TokensAreOne = (place : Place) (bytes : List ℕ) (tokens others : List Token) → Lexes place bytes tokens → Lexes place bytes others → tokens ≡ others

abbrev pub FaultIsOne : Type 0
FaultIsOne = (place : Place) (bytes : List ℕ) (fault other : Fault) → FirstFault place bytes fault → FirstFault place bytes other → fault ≡ other

abbrev pub NeverBoth : Type 0
NeverBoth = (place : Place) (bytes : List ℕ) (tokens : List Token) (fault : Fault) → Lexes place bytes tokens → FirstFault place bytes fault → ⊥

abbrev pub AlwaysOne : Type 0
AlwaysOne = (place : Place) (bytes : List ℕ) → ((tokens : List Token) × Lexes place bytes tokens) ⊎ ((fault : Fault) × FirstFault place bytes fault)
