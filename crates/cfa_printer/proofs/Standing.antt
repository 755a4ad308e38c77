-- How a text in front of some bytes is lexed and read, whatever stands behind it.
use Rattle.std.proofs.Common.{◌≡◌, refl, sym, subst, ℕ, Bool, List, [], ◌∷◌, ◌++◌}
use Rattle.std.specs.Prelude.{IsTrue, not}
use Rattle.std.specs.List.{flat_map}
use Rattle.cfa_base.specs.declared.places.Place.{Place}
use Rattle.cfa_base.specs.declared.tokens.Kind.{Kind}
use Rattle.cfa_base.specs.Tokens.{Token}
use Rattle.cfa_base.specs.Lexing.{is_word_byte, place_past, place_after, is_separator, Takes, Lexes, a_separator, a_token}
use Rattle.cfa_base.specs.lemmas.Taking.{begins_failing}
use Rattle.cfa_tree.specs.Grammar.{token}

-- from a place on, the bytes up to the rest are tokens of this line of the grammar, whatever tokens the rest is
pub record Stands (Line : List Token → List Token → Type 0) (place : Place) (bytes rest : List ℕ) : Type 0 where
  pub behind : Place
  pub reads : (ts : List Token) → Lexes behind rest ts → (us : List Token) × Lexes place bytes us × Line us ts

-- the same with a tree, which is like one that was printed
pub record Again {A : Type 0} (IsAlike : A → Type 0) (Line : A → List Token → List Token → Type 0) (place : Place) (bytes rest : List ℕ) : Type 0 where
  pub tree : A
  pub alike : IsAlike tree
  pub stands : Stands (Line tree) place bytes rest

pub nothing : {Line : List Token → List Token → Type 0} {place : Place} {rest : List ℕ} → ((ts : List Token) → Line ts ts) → Stands Line place rest rest
nothing {place = place} line = record { behind = place; reads = λ ts lexes. (ts, lexes, line ts) }

pub a_space : {Line : List Token → List Token → Type 0} {place : Place} {b : ℕ} {bytes rest : List ℕ} → IsTrue (is_separator b) →
    Stands Line (place_past place b) bytes rest → Stands Line place (b ∷ bytes) rest
a_space separator stands = record {
  behind = stands.behind;
  reads = λ ts lexes. let r = stands.reads ts lexes in (r.0, a_separator separator r.1, r.2);
}

pub one_token : {place : Place} {bytes text rest : List ℕ} {kind : Kind} → Takes bytes kind text rest →
    Stands (λ us ts. us ≡ token kind text place ∷ ts) place bytes rest
one_token {place = place} {text = text} {kind = kind} takes = record {
  behind = place_after place text;
  reads = λ ts lexes. (token kind text place ∷ ts, a_token takes lexes, refl);
}

-- a line that is one token
pub alone : {Line : List Token → List Token → Type 0} {place : Place} {bytes text rest : List ℕ} {kind : Kind} → Takes bytes kind text rest →
    ((ts : List Token) → Line (token kind text place ∷ ts) ts) → Stands Line place bytes rest
alone {place = place} {text = text} {kind = kind} takes line = record {
  behind = place_after place text;
  reads = λ ts lexes. (token kind text place ∷ ts, a_token takes lexes, line ts);
}

pub begun : {Line Further : List Token → List Token → Type 0} {place : Place} {bytes text mid rest : List ℕ} {kind : Kind} → Takes bytes kind text mid →
    Stands Further (place_after place text) mid rest → ((us ts : List Token) → Further us ts → Line (token kind text place ∷ us) ts) → Stands Line place bytes rest
begun {place = place} {text = text} {kind = kind} takes stands line = record {
  behind = stands.behind;
  reads = λ ts lexes. let r = stands.reads ts lexes in (token kind text place ∷ r.0, a_token takes r.1, line r.0 ts r.2);
}

pub goes_on : {First Second Line : List Token → List Token → Type 0} {place : Place} {bytes mid rest : List ℕ} →
    (first : Stands First place bytes mid) → Stands Second first.behind mid rest →
    ((us ts vs : List Token) → First us ts → Second ts vs → Line us vs) → Stands Line place bytes rest
goes_on first second line = record {
  behind = second.behind;
  reads = λ ts lexes.
      let later = second.reads ts lexes in
      let earlier = first.reads later.0 later.1 in
      (earlier.0, earlier.1, line earlier.0 later.0 ts earlier.2 later.2);
}

-- the same, where the second is one token
pub ended : {First Line : List Token → List Token → Type 0} {place at : Place} {bytes mid text rest : List ℕ} {kind : Kind} →
    (first : Stands First place bytes mid) → Stands (λ us ts. us ≡ token kind text at ∷ ts) first.behind mid rest →
    ((us ts : List Token) → First us (token kind text at ∷ ts) → Line us ts) → Stands Line place bytes rest
ended {First} first second line =
    goes_on first second (λ us ts vs h is. line us vs (subst (λ (x : List Token). First us x) is h))

pub read_as : {Line Other : List Token → List Token → Type 0} {place : Place} {bytes rest : List ℕ} → Stands Line place bytes rest →
    ((us ts : List Token) → Line us ts → Other us ts) → Stands Other place bytes rest
read_as stands line = record {
  behind = stands.behind;
  reads = λ ts lexes. let r = stands.reads ts lexes in (r.0, r.1, line r.0 ts r.2);
}

pub at_bytes : {Line : List Token → List Token → Type 0} {place : Place} {bytes others rest : List ℕ} → bytes ≡ others → Stands Line place others rest → Stands Line place bytes rest
at_bytes {Line} {place} {bytes} {others} {rest} same stands = subst (λ (x : List ℕ). Stands Line place x rest) (sym same) stands

-- where no word goes on
abbrev pub ends_word : List ℕ → Bool
ends_word = begins_failing is_word_byte

-- texts behind a separator that ends a word, and then a rest that does
pub more_end : (b : ℕ) (separator : List ℕ) (xs : List (List ℕ)) (rest : List ℕ) → IsTrue (not (is_word_byte b)) → IsTrue (ends_word rest) →
    IsTrue (ends_word (flat_map (λ y. (b ∷ separator) ++ y) xs ++ rest))
more_end b separator [] rest end also = also
more_end b separator (x ∷ xs) rest end also = end
