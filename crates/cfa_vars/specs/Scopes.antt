-- A scope gives names their texts and lists. What a name refers to is looked up in the own scope, or, where it is
-- qualified by a bundle, in that bundle's scope; the bundle `const` has the newline n, the tab t and the text dollar.
use Rattle.std.specs.Prelude.{ℕ, Bool, ◌&&◌, List, [], ◌∷◌, Option, Some, None, if◌then◌else◌, codes, option_map, option_and_then}
use Rattle.std.specs.Str.{bytes_eq}
use Rattle.cfa_vars.specs.declared.scoping.Datum.{Datum}
use Rattle.cfa_vars.specs.declared.scoping.Datum.TheVariants.{Text as text_of, List as list_of}
use Rattle.cfa_vars.specs.declared.looking.Scopes.{Scopes}
use Rattle.cfa_vars.specs.declared.looking.Variable.{Variable}
use Rattle.cfa_vars.specs.declared.looking.Variable.TheVariants.{Text as seen_text, List as seen_list}
use Rattle.cfa_base.specs.Lexing.{is_name}
use Rattle.cfa_vars.specs.References.{is_qualified, bundle_part, word_part}
use Rattle.cfa_vars.specs.Named.{thing_at}
pub use Rattle.cfa_vars.specs.Tables.{Table}

-- what a text can refer to: its own scope with the name of its bundle, which is empty in a body, and the scopes of
-- other bundles
pub record InScope : Type 0 where
  pub own : Table
  pub own_name : List ℕ
  pub shared : List (List ℕ × Table)

abbrev pub in_scope : Scopes → InScope
in_scope scopes = record { own = scopes.own.now; own_name = scopes.own_name.now; shared = scopes.shared.now }

-- what a look-up answers, as what the variable holds
abbrev pub datum_of : Variable → Datum
datum_of (seen_text text) = text_of text.now
datum_of (seen_list items) = list_of items.now

abbrev pub constant : List ℕ → Option (List ℕ)
constant word =
    if bytes_eq word (codes "n") then Some (10 ∷ []) else (
    if bytes_eq word (codes "t") then Some (9 ∷ []) else (
    if bytes_eq word (codes "dollar") then Some (36 ∷ []) else None))

abbrev pub is_own : InScope → List ℕ → Bool
is_own scopes bundle = bytes_eq bundle scopes.own_name

abbrev pub look_in : InScope → List ℕ → List ℕ → Option Datum
look_in scopes bundle word =
    if bytes_eq bundle (codes "const") then option_map text_of (constant word) else (
    if is_own scopes bundle then thing_at scopes.own word else
    option_and_then (λ table. thing_at table word) (thing_at scopes.shared bundle))

-- what a name refers to
unfoldable pub look : InScope → List ℕ → Option Datum
look scopes name =
    if is_name name then (
    if is_qualified name then look_in scopes (bundle_part name) (word_part name) else thing_at scopes.own name)
    else None

-- the one name by which a choice knows a variable, however it is referred to: its word where it is of the own bundle,
-- else its qualified name
unfoldable pub key_of : InScope → List ℕ → List ℕ
key_of scopes name =
    if is_qualified name && is_own scopes (bundle_part name) then word_part name else name
