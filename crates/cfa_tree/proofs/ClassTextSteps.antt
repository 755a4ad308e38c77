-- The loop of the reader of class texts: what the guard becomes by the rest is the expression of the whole text.
use Rattle.std.proofs.Common.{◌≡◌, ℕ, ◌<◌, true, List, [], ◌∷◌, length, get_or, take, drop, Option, Some, None, ap, sym, ◌∙◌, subst, ⊎_elim, arith, IsUtf8}
use Rattle.std.specs.Prelude.{IsTrue, ◌==◌}
use Rattle.std.specs.Str.{IsCharBoundary}
use Rattle.std.proofs.lemmas.Bool.{eqb-true, or_cases}
use Rattle.std.proofs.lemmas.List.{nil_from_length}
use Rattle.std.proofs.lemmas.Str.{IsUtf8-drop, IsCharBoundary-after_ascii}
use Rattle.cfa_base.specs.declared.tokens.Kind.{Kind}
use Rattle.cfa_base.specs.declared.places.Place.{Place}
use Rattle.cfa_base.specs.Lexing.{first_place, place_past, place_after}
use Rattle.cfa_base.specs.lemmas.Boundaries.{boundary_behind}
use Rattle.cfa_tree.specs.Grammar.{depth_limit}
use Rattle.cfa_tree.specs.Guards.{GuardState, guard_start, guard_step}
use Rattle.cfa_tree.specs.ClassTexts.{state_of, whole_guard, guard_by_bytes, expression_of}
use Rattle.cfa_tree.specs.ClassFronts.{is_blank, IsFront, EndsNone}
use Rattle.cfa_tree.proofs.ClassFrontLemmas.{by_blank, by_next, by_token}

pub record ReadTo (text : List ℕ) (g : GuardState) (rest : List ℕ) : Type 0 where
  pub place : Place
  pub same : guard_by_bytes place rest g ≡ expression_of text
  pub utf8 : IsUtf8 rest

pub read_none : (text rest : List ℕ) (g : GuardState) → rest ≡ text → g ≡ guard_start → IsUtf8 rest → ReadTo text g rest
unfolding expression_of
read_none text rest g rest_is g_is utf8 = record {
  place = first_place 0;
  same = ap (λ x. guard_by_bytes (first_place 0) x g) rest_is ∙ ap (guard_by_bytes (first_place 0) text) g_is;
  utf8 = utf8;
}

blank_is_ascii : (b : ℕ) → IsTrue (is_blank b) → b < 128
blank_is_ascii b blank = ⊎_elim (λ space. omega (arith, eqb-true b 32 space)) (λ tab. omega (arith, eqb-true b 9 tab)) (or_cases (b == 32) (b == 9) blank)

pub blank_boundary : (rest : List ℕ) → IsUtf8 rest → 0 < length rest → is_blank (get_or rest 0 0) ≡ true → IsCharBoundary rest 1
blank_boundary [] utf8 some blank = absurd (omega arith)
blank_boundary (b ∷ bs) utf8 some blank = IsCharBoundary-after_ascii (b ∷ bs) 0 utf8 (omega arith) (blank_is_ascii b blank)

pub front_boundary : (rest : List ℕ) (kind : Kind) (n : ℕ) → IsFront rest kind n → IsUtf8 rest → IsCharBoundary rest n
front_boundary rest kind n front utf8 = boundary_behind rest kind n utf8 front.within front.takes.spelled

read_one : {text : List ℕ} {g : GuardState} (b : ℕ) (bs : List ℕ) → ReadTo text g (b ∷ bs) → is_blank b ≡ true → ReadTo text g bs
read_one {text} {g} b bs read blank = record {
  place = place_past read.place b;
  same = sym (by_blank read.place b bs g blank) ∙ read.same;
  utf8 = IsUtf8-drop (b ∷ bs) 1 read.utf8 (blank_boundary (b ∷ bs) read.utf8 (omega arith) blank);
}

pub read_blank : {text : List ℕ} {g : GuardState} (rest after : List ℕ) → ReadTo text g rest → 0 < length rest → is_blank (get_or rest 0 0) ≡ true → after ≡ drop 1 rest → ReadTo text g after
read_blank [] after read some blank after_is = absurd (omega arith)
read_blank {text} {g} (b ∷ bs) after read some blank after_is = subst (λ (x : List ℕ). ReadTo text g x) (sym after_is) (read_one b bs read blank)

module _ {text : List ℕ} {g : GuardState} (rest : List ℕ) (kind : Kind) (n : ℕ) (read : ReadTo text g rest) (front : IsFront rest kind n) (token : List ℕ) (token_is : token ≡ take n rest) where
  goes : (next : Option GuardState) → state_of (guard_step depth_limit g kind token) ≡ next → by_next (place_after read.place (take n rest)) (drop n rest) next ≡ expression_of text
  goes next is =
      ap (by_next (place_after read.place (take n rest)) (drop n rest)) (sym is ∙ ap (λ x. state_of (guard_step depth_limit g kind x)) token_is)
      ∙ (sym (by_token read.place rest kind n g front) ∙ read.same)

  pub read_token : (next : GuardState) (after : List ℕ) → after ≡ drop n rest → state_of (guard_step depth_limit g kind token) ≡ Some next → ReadTo text next after
  read_token next after after_is is = subst (λ (x : List ℕ). ReadTo text next x) (sym after_is) (record {
    place = place_after read.place (take n rest);
    same = goes (Some next) is;
    utf8 = IsUtf8-drop rest n read.utf8 (front_boundary rest kind n front read.utf8);
  })

  pub read_refused : state_of (guard_step depth_limit g kind token) ≡ None → expression_of text ≡ None
  read_refused is = sym (goes None is)

pub read_foreign : {text rest : List ℕ} {g : GuardState} → ReadTo text g rest → EndsNone rest → expression_of text ≡ None
read_foreign {text} {rest} {g} read none = sym read.same ∙ none read.place g

pub read_all : {text rest : List ℕ} {g : GuardState} → ReadTo text g rest → length rest ≡ 0 → whole_guard g ≡ expression_of text
read_all {text} {rest} {g} read none = ap (λ x. guard_by_bytes read.place x g) (sym (nil_from_length rest none)) ∙ read.same
