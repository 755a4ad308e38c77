-- What was found stands in the list that was searched: an item that passes a test, and the attribute that gives a value. And each byte of a word passes the test of its bytes.
use Rattle.std.proofs.Common.{◌≡◌, ℕ, Bool, true, false, List, [], ◌∷◌, All, Some, refl, subst}
use Rattle.std.specs.Prelude.{IsTrue, find, if◌then◌else◌}
use Rattle.std.specs.List.{Contains, list_all}
use Rattle.std.specs.Str.{bytes_eq}
use Rattle.std.proofs.lemmas.Bool.{and_parts}
use Rattle.std.proofs.lemmas.Option.{none-some, same_Some}
use Rattle.std.proofs.lemmas.Slice.Eq.{bytes_eq-Decides}
use Rattle.std.proofs.lemmas.List.Elements.{All-cons, All-nil}
use Rattle.cfa_base.specs.Lexing.{is_word_byte}
use Rattle.cfa_base.specs.lemmas.Lists.{first_here, behind_one}
use Rattle.cfa_tree.specs.Tree.{ValueTree, AttributeTree}
use Rattle.cfa_values.specs.Attributes.{value_of}

pub word_bytes : (bytes : List ℕ) → list_all is_word_byte bytes ≡ true → All (λ b. IsTrue (is_word_byte b)) bytes
word_bytes [] h = All-nil (λ b. IsTrue (is_word_byte b))
word_bytes (b ∷ bs) h =
    let parts = and_parts (is_word_byte b) (list_all is_word_byte bs) h in
    All-cons (λ b. IsTrue (is_word_byte b)) b bs parts.0 (word_bytes bs parts.1)

-- ---- items of a list

pub record IsFound {X : Type 0} (test : X → Bool) (xs : List X) (x : X) : Type 0 where
  pub passes : test x ≡ true
  pub there : Contains xs x

module _ {X : Type 0} (test : X → Bool) where
  found_by : (x : X) (xs : List X) (y : X) (b : Bool) → test x ≡ b → (if b then Some x else find test xs) ≡ Some y → (find test xs ≡ Some y → IsFound test xs y) →
      IsFound test (x ∷ xs) y
  found_by x xs y true is e later =
      subst (IsFound test (x ∷ xs)) (same_Some x y e) (record { passes = is; there = first_here x xs })
  found_by x xs y false is e later =
      let more = later e in
      record { passes = more.passes; there = behind_one x xs y more.there }

  pub found : (xs : List X) (y : X) → find test xs ≡ Some y → IsFound test xs y
  found [] y e = absurd (none-some y e)
  found (x ∷ xs) y e = found_by x xs y (test x) refl e (found xs y)

-- ---- values of attributes

pub record IsGiven (name : List ℕ) (attributes : List AttributeTree) (value : ValueTree) : Type 0 where
  pub a : AttributeTree
  pub is_attribute : Contains attributes a
  pub named : a.name ≡ name
  pub valued : a.value ≡ value

given_by : (name : List ℕ) (a : AttributeTree) (rest : List AttributeTree) (value : ValueTree) (b : Bool) → bytes_eq a.name name ≡ b → (if b then Some a.value else value_of name rest) ≡ Some value →
    (value_of name rest ≡ Some value → IsGiven name rest value) → IsGiven name (a ∷ rest) value
given_by name a rest value true is e later =
    record { a = a; is_attribute = first_here a rest; named = (bytes_eq-Decides a.name name).0 is; valued = same_Some a.value value e }
given_by name a rest value false is e later =
    let more = later e in
    record { a = more.a; is_attribute = behind_one a rest more.a more.is_attribute; named = more.named; valued = more.valued }

pub given : (name : List ℕ) (attributes : List AttributeTree) (value : ValueTree) → value_of name attributes ≡ Some value → IsGiven name attributes value
given name [] value e = absurd (none-some value e)
given name (a ∷ rest) value e = given_by name a rest value (bytes_eq a.name name) refl e (given name rest value)
