-- Texts of a policy that have tokens and such that have none, and what is found where there is nothing.
use Rattle.std.specs.Prelude.{◌≡◌, ◌⊎◌, ℕ, Bool, true, false, List, [], All, Contains}
use Rattle.cfa_base.specs.Tokens.{Token}
use Rattle.cfa_base.specs.Lexing.{Fault, Lexes, FirstFault, first_place}
use Rattle.cfa_lexer.specs.Lexed.{IsText}
use Rattle.cfa_uses.specs.declared.uses.Uses.{Uses}

-- a text that has tokens
pub record HasTokens (text : List ℕ) : Type 0 where
  pub is_text : IsText text
  pub tokens : List Token
  pub lexes : Lexes (first_place 0) text tokens

abbrev pub AllHaveTokens : (files : List (List ℕ × List ℕ)) → Type 0
AllHaveTokens files = All (λ file. HasTokens file.1) files

-- what stands in a file is no text, or has a first fault
abbrev pub HasFault : List ℕ → Type 0
HasFault text = (¬ IsText text) ⊎ ((fault : Fault) × FirstFault (first_place 0) text fault)

pub record SomeHasFault (files : List (List ℕ × List ℕ)) : Type 0 where
  pub file : List ℕ × List ℕ
  pub listed : Contains files file
  pub fault : HasFault file.1

-- whether a text has tokens or a fault
abbrev pub TellsTokens : Bool → List ℕ → Type 0
TellsTokens true text = HasTokens text
TellsTokens false text = HasFault text

-- nothing is defined, set, called and asked for
pub record IsUnused (uses : Uses) : Type 0 where
  pub bundles : uses.bundles.items ≡ []
  pub blocks : uses.blocks ≡ []
  pub restarts : uses.restarts.items ≡ []
  pub references : uses.references.items ≡ []
  pub classes : uses.classes.items ≡ []
  pub variables : uses.variables ≡ []
  pub values : uses.values ≡ []
  pub raised : uses.raised ≡ []
  pub asked : uses.asked ≡ []
  pub frames : uses.frames.items ≡ []
