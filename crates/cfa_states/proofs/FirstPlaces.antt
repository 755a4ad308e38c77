-- The first place of the names of instances, where they are added one after the other.
use Rattle.std.proofs.Common.{◌≡◌, ℕ, ◌+◌, Bool, cond, List, [], ◌∷◌, map, Option, Some, position, refl, sym, ap, ◌∙◌, ◌<◌, true, false, ◌&&◌, ◌++◌, length, take, drop, get_or, is_none, None, unwrap_or}
use Rattle.std.specs.List.{position_from}
use Rattle.std.proofs.lemmas.Iterator.Adapters.{position_from-zero}
use Rattle.cfa_base.specs.Index.{same_pair, pair_place_of, Text}
use Rattle.cfa_resolve.specs.declared.instances.Instance.{Instance}
use Rattle.cfa_states.specs.History.{is_named}
use Rattle.cfa_states.specs.Names.{name_of, names_of}
use Rattle.cfa_states.specs.lemmas.Names.{same_instance}
use Rattle.std.specs.Option.{option_or}
use Rattle.std.proofs.lemmas.Bool.{false≢true}
use Rattle.std.specs.Str.{bytes_eq}
use Rattle.std.proofs.lemmas.List.{map-append, take_more, take-append-drop, drop_more}
use Rattle.cfa_base.specs.lemmas.EqualTexts.{same_text}
use Rattle.cfa_base.specs.lemmas.Lists.{place_push}
use Rattle.cfa_states.specs.Logs.{first_place}

place_from : (path text : List ℕ) (instances : List Instance) (i : ℕ) →
    position_from (same_pair (path, text)) i (map name_of instances) ≡ position_from (is_named path text) i instances
place_from path text [] i = refl
place_from path text (x ∷ xs) i =
    ap (λ (b : Bool). cond b (Some i) (position_from (same_pair (path, text)) (i + 1) (map name_of xs))) (same_instance path text x)
    ∙ ap (λ (o : Option ℕ). cond (is_named path text x) (Some i) o) (place_from path text xs (i + 1))

pub place_is : (path text : List ℕ) (instances : List Instance) → pair_place_of (map name_of instances) (path, text) ≡ position (is_named path text) instances
place_is path text instances =
    position_from-zero (same_pair (path, text)) (map name_of instances)
    ∙ (place_from path text instances 0 ∙ sym (position_from-zero (is_named path text) instances))

module _ {X : Type 0} (p : X → Bool) where
  stays_from : (xs ys : List X) (x : X) (i : ℕ) → p x ≡ true → position_from p i (xs ++ x ∷ []) ≡ position_from p i (xs ++ x ∷ ys)
  stays_from [] ys x i is = ap (λ t. cond t (Some i) None) is ∙ sym (ap (λ t. cond t (Some i) (position_from p (i + 1) ys)) is)
  stays_from (z ∷ zs) ys x i is = ap (cond (p z) (Some i)) (stays_from zs ys x (i + 1) is)

  stays : (xs ys : List X) (x : X) → p x ≡ true → position p (xs ++ x ∷ []) ≡ position p (xs ++ x ∷ ys)
  stays xs ys x is = position_from-zero p (xs ++ x ∷ []) ∙ stays_from xs ys x 0 is ∙ sym (position_from-zero p (xs ++ x ∷ ys))

same_name : (name : Text × Text) → same_pair name name ≡ true
same_name name = ap (λ b. b && bytes_eq name.1 name.1) (same_text name.0) ∙ same_text name.1

first_new : (before : Option ℕ) (is : Bool) (place : ℕ) → is_none before ≡ true → is ≡ true → place ≡ unwrap_or (option_or before (cond is (Some place) None)) 0
first_new None true place none here = refl
first_new None false place none here = absurd (false≢true here)
first_new (Some other) is place none here = absurd (false≢true none)

-- names that are new have the place behind all others
pub new_is_first : (names : List (Text × Text)) (name : Text × Text) (place : ℕ) → length names ≡ place → is_none (pair_place_of names name) ≡ true
    → place ≡ unwrap_or (pair_place_of (names ++ name ∷ []) name) 0
new_is_first names name place long none =
    first_new (pair_place_of names name) (same_pair name name) place none (same_name name)
    ∙ sym (ap (λ o. unwrap_or o 0) (place_push (same_pair name) names name place (sym long)))

-- the place stays where more are added
first_is : (instances : List Instance) (place : ℕ) (instance : Instance) (names : List (Text × Text))
    → drop place instances ≡ instance ∷ drop (place + 1) instances → names ≡ names_of (take place instances)
    → unwrap_or (pair_place_of (names ++ name_of instance ∷ []) (name_of instance)) 0 ≡ first_place instances instance
first_is instances place instance names at are =
    let whole : names_of (take place instances) ++ name_of instance ∷ names_of (drop (place + 1) instances) ≡ names_of instances
    = sym (map-append name_of (take place instances) (instance ∷ drop (place + 1) instances))
    ∙ ap names_of (ap (λ t. take place instances ++ t) (sym at) ∙ take-append-drop place instances) in
    ap (λ o. unwrap_or o 0)
    (ap (λ ns. pair_place_of (ns ++ name_of instance ∷ []) (name_of instance)) are
    ∙ stays (same_pair (name_of instance)) (names_of (take place instances)) (names_of (drop (place + 1) instances)) (name_of instance) (same_name (name_of instance))
    ∙ ap (λ ns. pair_place_of ns (name_of instance)) whole
    ∙ place_is instance.path instance.text instances)

-- one instance more
module _ (instances : List Instance) (place : ℕ) (instance d : Instance) (names : List (Text × Text)) where
  pub names_more : (new : List (Text × Text)) → place < length instances → instance ≡ get_or instances place d
      → names ≡ names_of (take place instances) → new ≡ names ++ name_of instance ∷ [] → new ≡ names_of (take (place + 1) instances)
  names_more new within is are e =
      e ∙ ap (λ ns. ns ++ name_of instance ∷ []) are ∙ ap (λ x. names_of (take place instances) ++ name_of x ∷ []) is
      ∙ sym (map-append name_of (take place instances) (get_or instances place d ∷ [])) ∙ ap names_of (sym (take_more instances place d within))

  pub firsts_more : (firsts new : List ℕ) (first : ℕ) → place < length instances → instance ≡ get_or instances place d
      → names ≡ names_of (take place instances) → firsts ≡ map (first_place instances) (take place instances) → new ≡ firsts ++ first ∷ []
      → first ≡ unwrap_or (pair_place_of (names ++ name_of instance ∷ []) (name_of instance)) 0
      → new ≡ map (first_place instances) (take (place + 1) instances)
  firsts_more firsts new first within is are so_far e answer =
      let at = drop_more instances place d within ∙ ap (λ x. x ∷ drop (place + 1) instances) (sym is) in
      let here = answer ∙ first_is instances place instance names at are ∙ ap (first_place instances) is in
      e ∙ ap (λ fs. fs ++ first ∷ []) so_far ∙ ap (λ n. map (first_place instances) (take place instances) ++ n ∷ []) here
      ∙ sym (map-append (first_place instances) (take place instances) (get_or instances place d ∷ []))
      ∙ ap (map (first_place instances)) (sym (take_more instances place d within))
