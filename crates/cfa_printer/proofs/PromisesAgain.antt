-- What is printed of promises and sections is read as them, places aside.
use Rattle.std.proofs.Common.{◌≡◌, refl, sym, ◌∙◌, ap, subst, ℕ, Bool, true, false, List, [], ◌∷◌, ◌++◌, map, Option, Some, None}
use Rattle.std.specs.Prelude.{IsTrue, codes, option_map, if◌then◌else◌}
use Rattle.std.specs.List.{flat_map}
use Rattle.std.proofs.lemmas.Bool.{false≢true}
use Rattle.std.proofs.lemmas.List.{append_assoc}
use Rattle.cfa_base.specs.declared.places.Place.{Place}
use Rattle.cfa_base.specs.declared.tokens.Kind.TheVariants.{Word, DoubleColon, Comma, Semicolon}
use Rattle.cfa_base.specs.Tokens.{Token}
use Rattle.cfa_base.specs.Lexing.{content_of, place_past, place_after}
use Rattle.cfa_base.specs.lemmas.Taking.{takes_word, takes_text, takes_comma, takes_semicolon, takes_colon, takes_double_colon, takes_fat_arrow, takes_thin_arrow}
use Rattle.cfa_tree.specs.Grammar.{token, Levels, Guard, Attribute, Attributes, no_attribute, last_attribute, next_attribute, Promisee, no_promisee, a_promisee, Promises, no_promise, new_guard, a_promise, Sections, no_section, a_section, BodyAttributes, no_more, one_more}
use Rattle.cfa_tree.specs.Grammar.Attribute.{attribute}
use Rattle.cfa_tree.specs.Tree.{ExprTree, ValueTree, AttributeTree, PromiseTree, SectionTree}
use Rattle.cfa_tree.specs.Unplaced.{no_place, unplaced_value, unplaced_attribute, unplaced_promise, unplaced_section}
use Rattle.cfa_printer.specs.declared.expressions.Around.TheVariants.{Nothing}
use Rattle.cfa_printer.specs.SameExpr.{same_guard}
use Rattle.cfa_printer.specs.Printing.{quoted, printed_expr, printed_value, printed_attribute, printed_promisee, printed_attributes, printed_promise, printed_guard, guard_line, printed_promises, printed_section, printed_body_attribute}
use Rattle.cfa_printer.proofs.ExprsAgain.{expr_stands}
use Rattle.cfa_printer.proofs.Quoted.{quoted_is_quoted, content_of_quoted}
use Rattle.cfa_printer.proofs.Readable.{ReadableAttribute, EachAttribute, ReadablePromisee, Follows, ReadablePromises, ReadableSections}
use Rattle.cfa_printer.proofs.SameExprs.{same_guard_is}
use Rattle.cfa_printer.proofs.Standing.{Stands, Again, nothing, one_token, alone, begun, goes_on, ended, a_space, at_bytes, ends_word}
use Rattle.cfa_printer.proofs.ValuesAgain.{value_again, further}

-- Attributes.

abbrev unplaced_with : (name : List ℕ) → ValueTree → AttributeTree
unplaced_with name value = record { name = name; value = value; place = no_place }

pub attribute_again : (levels : Levels) (a : AttributeTree) → ReadableAttribute levels a → (place : Place) (rest : List ℕ) → IsTrue (ends_word rest) →
    Again (λ b. unplaced_attribute b ≡ unplaced_attribute a) (λ b us ts. Attribute levels us b ts) place (printed_attribute a ++ rest) rest
attribute_again levels a r place rest end =
    let value = value_again levels a.value r.1 (place_past (place_after (place_past (place_after place a.name) 32) (61 ∷ 62 ∷ [])) 32) rest end in
    let tree : AttributeTree = record { name = a.name; value = value.tree; place = place } in
    record {
      tree = tree;
      alike = ap (unplaced_with a.name) value.alike;
      stands = at_bytes (append_assoc a.name (codes " => " ++ printed_value a.value) rest)
          (begun (takes_word a.name _ r.0 refl)
          (a_space refl (begun {Line = λ us ts. Attribute levels (token Word a.name place ∷ us) tree ts} (takes_fat_arrow _) (a_space refl value.stands) (λ us ts v. attribute v)))
          (λ us ts h. h));
    }

abbrev AttributesAgain : (List AttributeTree → List Token → List Token → Type 0) → List AttributeTree → Place → (bytes rest : List ℕ) → Type 0
AttributesAgain Line all place bytes rest = Again (λ bs. map unplaced_attribute bs ≡ map unplaced_attribute all) Line place bytes rest

attributes_alike : (a b : AttributeTree) (xs ys : List AttributeTree) → unplaced_attribute a ≡ unplaced_attribute b → map unplaced_attribute xs ≡ map unplaced_attribute ys →
    map unplaced_attribute (a ∷ xs) ≡ map unplaced_attribute (b ∷ ys)
attributes_alike a b xs ys same also = cc

some_attributes_again : (levels : Levels) (a : AttributeTree) (more : List AttributeTree) → ReadableAttribute levels a → EachAttribute levels more → (place : Place) (rest : List ℕ) →
    AttributesAgain (λ bs us ts. Attributes levels us bs ts) (a ∷ more) place (printed_attribute a ++ (further (map printed_attribute more) ++ (59 ∷ rest))) rest
some_attributes_again levels a [] here there place rest =
    let first = attribute_again levels a here place (59 ∷ rest) refl in
    record {
      tree = first.tree ∷ [];
      alike = attributes_alike first.tree a [] [] first.alike refl;
      stands = ended first.stands (one_token (takes_semicolon rest)) (λ us ts h. last_attribute h);
    }
some_attributes_again levels a (b ∷ more) here there place rest =
    let first = attribute_again levels a here place (further (map printed_attribute (b ∷ more)) ++ (59 ∷ rest)) refl in
    let later = some_attributes_again levels b more there.0 there.1 (place_past (place_after first.stands.behind (44 ∷ [])) 32) rest in
    record {
      tree = first.tree ∷ later.tree;
      alike = attributes_alike first.tree a later.tree (b ∷ more) first.alike later.alike;
      stands = goes_on first.stands
          (begun {Line = λ us ts. (vs : List Token) × (us ≡ token Comma (44 ∷ []) first.stands.behind ∷ vs) × Attributes levels vs later.tree ts} (takes_comma _)
          (a_space refl (at_bytes (append_assoc (printed_attribute b) (further (map printed_attribute more)) (59 ∷ rest)) later.stands))
          (λ us ts h. (us, refl, h)))
          (λ us ts vs h k. next_attribute (subst (λ (x : List Token). Attribute levels us first.tree x) k.1 h) k.2);
    }

attributes_again : (levels : Levels) (all : List AttributeTree) → EachAttribute levels all → (place : Place) (rest : List ℕ) →
    AttributesAgain (λ bs us ts. Attributes levels us bs ts) all place (printed_attributes all ++ (59 ∷ rest)) rest
attributes_again levels [] r place rest = record { tree = []; alike = refl; stands = alone (takes_semicolon rest) (λ ts. no_attribute) }
attributes_again levels (a ∷ more) r place rest =
    let some = some_attributes_again levels a more r.0 r.1 (place_past place 32) rest in
    record {
      tree = some.tree;
      alike = some.alike;
      stands = a_space refl (at_bytes (append_assoc (printed_attribute a) (further (map printed_attribute more)) (59 ∷ rest)) some.stands);
    }

attributes_end : (all : List AttributeTree) (rest : List ℕ) → IsTrue (ends_word (printed_attributes all ++ (59 ∷ rest)))
attributes_end [] rest = refl
attributes_end (a ∷ more) rest = refl

pub body_attributes_again : (levels : Levels) (all : List AttributeTree) → EachAttribute levels all → (place : Place) (rest : List ℕ) →
    AttributesAgain (λ bs us ts. BodyAttributes levels us bs ts) all place (flat_map printed_body_attribute all ++ rest) rest
body_attributes_again levels [] r place rest = record { tree = []; alike = refl; stands = nothing (λ ts. no_more) }
body_attributes_again levels (a ∷ more) r place rest =
    let inner : List ℕ = flat_map printed_body_attribute more ++ rest in
    let first = attribute_again levels a r.0 (place_past (place_past place 32) 32) (59 ∷ 10 ∷ inner) refl in
    let later = body_attributes_again levels more r.1 (place_past (place_after first.stands.behind (59 ∷ [])) 10) rest in
    record {
      tree = first.tree ∷ later.tree;
      alike = attributes_alike first.tree a later.tree more first.alike later.alike;
      stands = at_bytes (append_assoc (printed_body_attribute a) (flat_map printed_body_attribute more) rest)
          (a_space refl (a_space refl (at_bytes (append_assoc (printed_attribute a) (codes ";\n") inner)
          (goes_on {Line = λ us ts. BodyAttributes levels us (first.tree ∷ later.tree) ts} first.stands
          (begun {Line = λ us ts. (vs : List Token) × (us ≡ token Semicolon (59 ∷ []) first.stands.behind ∷ vs) × BodyAttributes levels vs later.tree ts} (takes_semicolon _)
          (a_space refl later.stands)
          (λ us ts h. (us, refl, h)))
          (λ us ts vs h k. one_more (subst (λ (x : List Token). Attribute levels us first.tree x) k.1 h) k.2)))));
    }

-- Promises.

promisee_again : (levels : Levels) (v : Option ValueTree) → ReadablePromisee levels v → (place : Place) (rest : List ℕ) → IsTrue (ends_word rest) →
    Again (λ w. option_map unplaced_value w ≡ option_map unplaced_value v) (λ w us ts. Promisee levels us w ts) place (printed_promisee v ++ rest) rest
promisee_again levels None r place rest end = record { tree = None; alike = refl; stands = nothing (λ ts. no_promisee) }
promisee_again levels (Some v) r place rest end =
    let value = value_again levels v r (place_past (place_after (place_past place 32) (45 ∷ 62 ∷ [])) 32) rest end in
    record {
      tree = Some value.tree;
      alike = ap Some value.alike;
      stands = a_space refl (begun (takes_thin_arrow _) (a_space refl value.stands) (λ us ts h. a_promisee h));
    }

abbrev PromisesAgain : Levels → (before : Option ExprTree) → List PromiseTree → Place → (bytes rest : List ℕ) → Type 0
PromisesAgain levels before ps place bytes rest = Again (λ qs. map unplaced_promise qs ≡ map unplaced_promise ps) (λ qs us ts. Promises levels us before qs ts) place bytes rest

promise_bytes : (promiser promisee attributes rest : List ℕ) → (promiser ++ (promisee ++ (attributes ++ codes ";\n"))) ++ rest ≡ promiser ++ (promisee ++ (attributes ++ (59 ∷ 10 ∷ rest)))
promise_bytes promiser promisee attributes rest =
    append_assoc promiser _ rest ∙ ap (λ x. promiser ++ x) (append_assoc promisee _ rest ∙ ap (λ x. promisee ++ x) (append_assoc attributes (codes ";\n") rest))

promises_alike : (p q : PromiseTree) (ps qs : List PromiseTree) → p.guard ≡ q.guard → p.promiser ≡ q.promiser → option_map unplaced_value p.promisee ≡ option_map unplaced_value q.promisee →
    map unplaced_attribute p.attributes ≡ map unplaced_attribute q.attributes → map unplaced_promise ps ≡ map unplaced_promise qs → map unplaced_promise (p ∷ ps) ≡ map unplaced_promise (q ∷ qs)
promises_alike p q ps qs guard promiser promisee attributes more = cc

-- a promise under its guard, where what is behind it is read again from any place
one_promise : (levels : Levels) (p : PromiseTree) (more : List PromiseTree) → ReadablePromisee levels p.promisee → EachAttribute levels p.attributes → (inner rest : List ℕ) →
    ((at : Place) → PromisesAgain levels p.guard more at inner rest) → (place : Place) → PromisesAgain levels p.guard (p ∷ more) place (printed_promise p ++ inner) rest
one_promise levels p more r each inner rest further_promises place =
    let at : Place = place_past (place_past (place_past (place_past place 32) 32) 32) 32 in
    let promisee = promisee_again levels p.promisee r (place_after at (quoted p.promiser)) (printed_attributes p.attributes ++ (59 ∷ 10 ∷ inner)) (attributes_end p.attributes (10 ∷ inner)) in
    let attributes = attributes_again levels p.attributes each promisee.stands.behind (10 ∷ inner) in
    let later = further_promises (place_past attributes.stands.behind 10) in
    let again : PromiseTree = record { guard = p.guard; promiser = content_of (quoted p.promiser); promisee = promisee.tree; attributes = attributes.tree; place = at } in
    record {
      tree = again ∷ later.tree;
      alike = promises_alike again p later.tree more refl (content_of_quoted p.promiser) promisee.alike attributes.alike later.alike;
      stands = a_space refl (a_space refl (a_space refl (a_space refl
          (at_bytes (promise_bytes (quoted p.promiser) (printed_promisee p.promisee) (printed_attributes p.attributes) inner)
          (begun (takes_text (quoted p.promiser) _ (quoted_is_quoted p.promiser))
          (goes_on {Line = λ us ts. (vs : List Token) × (ws : List Token) × Promisee levels us promisee.tree vs × Attributes levels vs attributes.tree ws × Promises levels ws p.guard later.tree ts} promisee.stands
          (goes_on {Line = λ us ts. (vs : List Token) × Attributes levels us attributes.tree vs × Promises levels vs p.guard later.tree ts} attributes.stands (a_space refl later.stands)
          (λ us ts vs h k. (ts, h, k)))
          (λ us ts vs h k. (ts, k.0, h, k.1, k.2)))
          (λ us ts h. a_promise h.2 h.3 h.4))))));
    }

line_of_same : (before guard : Option ExprTree) (bytes : List ℕ) → IsTrue (same_guard before guard) → guard_line before guard ++ bytes ≡ bytes
line_of_same before guard bytes same = ap (λ s. (if s then [] else codes "    " ++ (printed_guard guard ++ codes "::\n")) ++ bytes) same

line_of_other : (before : Option ExprTree) (e : ExprTree) (bytes : List ℕ) → same_guard before (Some e) ≡ false →
    guard_line before (Some e) ++ bytes ≡ codes "    " ++ (printed_expr Nothing e ++ (58 ∷ 58 ∷ 10 ∷ bytes))
line_of_other before e bytes other =
    ap (λ s. (if s then [] else codes "    " ++ (printed_expr Nothing e ++ codes "::\n")) ++ bytes) other
    ∙ ap (λ x. codes "    " ++ x) (append_assoc (printed_expr Nothing e) (codes "::\n") bytes)

-- promises under the guard that held before
held_on : (levels : Levels) (before guard : Option ExprTree) → IsTrue (same_guard before guard) → (ps : List PromiseTree) (bytes rest : List ℕ) (place : Place) →
    PromisesAgain levels guard ps place bytes rest → PromisesAgain levels before ps place (guard_line before guard ++ bytes) rest
held_on levels before guard same ps bytes rest place again = record {
  tree = again.tree;
  alike = again.alike;
  stands = at_bytes (line_of_same before guard bytes same)
      (subst (λ (g : Option ExprTree). Stands (λ us ts. Promises levels us g again.tree ts) place bytes rest) (sym (same_guard_is before guard same)) again.stands);
}

-- promises behind the line of their guard
behind_line : (levels : Levels) (before : Option ExprTree) (e : ExprTree) → same_guard before (Some e) ≡ false → Follows levels before (Some e) → (ps : List PromiseTree) (bytes rest : List ℕ) →
    ((at : Place) → PromisesAgain levels (Some e) ps at bytes rest) → (place : Place) → PromisesAgain levels before ps place (guard_line before (Some e) ++ bytes) rest
behind_line levels before e other follows ps bytes rest under place =
    let at : Place = place_past (place_past (place_past (place_past place 32) 32) 32) 32 in
    let first = expr_stands levels Nothing e follows at (58 ∷ 58 ∷ 10 ∷ bytes) refl in
    let later = under (place_past (place_after first.behind (58 ∷ 58 ∷ [])) 10) in
    record {
      tree = later.tree;
      alike = later.alike;
      stands = at_bytes (line_of_other before e bytes other)
          (a_space refl (a_space refl (a_space refl (a_space refl
          (goes_on {Line = λ us ts. Promises levels us before later.tree ts} first
          (begun {Line = λ us ts. (vs : List Token) × (us ≡ token DoubleColon (58 ∷ 58 ∷ []) first.behind ∷ vs) × Promises levels vs (Some e) later.tree ts} (takes_double_colon _)
          (a_space refl later.stands)
          (λ us ts h. (us, refl, h)))
          (λ us ts vs h k. new_guard (subst (λ (x : List Token). Guard levels us e x) k.1 h) k.2))))));
    }

-- promises behind the line of their guard, where there is one
guarded : (levels : Levels) (s : Bool) (before guard : Option ExprTree) → same_guard before guard ≡ s → Follows levels before guard → (ps : List PromiseTree) (bytes rest : List ℕ) →
    ((at : Place) → PromisesAgain levels guard ps at bytes rest) → (place : Place) → PromisesAgain levels before ps place (guard_line before guard ++ bytes) rest
guarded levels true before guard is follows ps bytes rest under place = held_on levels before guard is ps bytes rest place (under place)
guarded levels false before (Some e) is follows ps bytes rest under place = behind_line levels before e is follows ps bytes rest under place
guarded levels false None None is follows ps bytes rest under place = absurd (false≢true (sym is))
guarded levels false (Some e) None is follows ps bytes rest under place = absurd follows

pub promises_again : (levels : Levels) (before : Option ExprTree) (ps : List PromiseTree) → ReadablePromises levels before ps → (place : Place) (rest : List ℕ) →
    PromisesAgain levels before ps place (printed_promises before ps ++ rest) rest
promises_again levels before [] r place rest = record { tree = []; alike = refl; stands = nothing (λ ts. no_promise) }
promises_again levels before (p ∷ more) r place rest =
    let inner : List ℕ = printed_promises p.guard more ++ rest in
    let all = guarded levels (same_guard before p.guard) before p.guard refl r.0 (p ∷ more) (printed_promise p ++ inner) rest
    (one_promise levels p more r.1 r.2 inner rest (λ at. promises_again levels p.guard more r.3 at rest)) place in
    record {
      tree = all.tree;
      alike = all.alike;
      stands = at_bytes (append_assoc (guard_line before p.guard) (printed_promise p ++ printed_promises p.guard more) rest
          ∙ ap (λ x. guard_line before p.guard ++ x) (append_assoc (printed_promise p) (printed_promises p.guard more) rest)) all.stands;
    }

-- Sections.

sections_alike : (s t : SectionTree) (ss us : List SectionTree) → s.kind ≡ t.kind → map unplaced_promise s.promises ≡ map unplaced_promise t.promises →
    map unplaced_section ss ≡ map unplaced_section us → map unplaced_section (s ∷ ss) ≡ map unplaced_section (t ∷ us)
sections_alike s t ss us kind promises more = cc

section_bytes : (kind promises more rest : List ℕ) → ((codes "  " ++ (kind ++ (codes ":\n" ++ promises))) ++ more) ++ rest ≡ codes "  " ++ (kind ++ (58 ∷ 10 ∷ (promises ++ (more ++ rest))))
section_bytes kind promises more rest =
    append_assoc (codes "  " ++ (kind ++ (codes ":\n" ++ promises))) more rest
    ∙ ap (λ x. codes "  " ++ x) (append_assoc kind (codes ":\n" ++ promises) (more ++ rest))

pub sections_again : (levels : Levels) (ss : List SectionTree) → ReadableSections levels ss → (place : Place) (rest : List ℕ) →
    Again (λ qs. map unplaced_section qs ≡ map unplaced_section ss) (λ qs us ts. Sections levels us qs ts) place (flat_map printed_section ss ++ rest) rest
sections_again levels [] r place rest = record { tree = []; alike = refl; stands = nothing (λ ts. no_section) }
sections_again levels (s ∷ more) r place rest =
    let at : Place = place_past (place_past place 32) 32 in
    let inner : List ℕ = flat_map printed_section more ++ rest in
    let promises = promises_again levels None s.promises r.1 (place_past (place_after (place_after at s.kind) (58 ∷ [])) 10) inner in
    let later = sections_again levels more r.2 promises.stands.behind rest in
    let again : SectionTree = record { kind = s.kind; promises = promises.tree; place = at } in
    record {
      tree = again ∷ later.tree;
      alike = sections_alike again s later.tree more refl promises.alike later.alike;
      stands = at_bytes (section_bytes s.kind (printed_promises None s.promises) (flat_map printed_section more) rest)
          (a_space refl (a_space refl
          (begun (takes_word s.kind _ r.0 refl)
          (begun {Line = λ us ts. Sections levels (token Word s.kind at ∷ us) (again ∷ later.tree) ts} (takes_colon _ refl)
          (a_space refl
          (goes_on {Line = λ us ts. (vs : List Token) × Promises levels us None promises.tree vs × Sections levels vs later.tree ts} promises.stands later.stands (λ us ts vs h k. (ts, h, k))))
          (λ us ts h. a_section h.1 h.2))
          (λ us ts h. h))));
    }
