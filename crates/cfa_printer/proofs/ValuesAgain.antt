-- What is printed of a value is read as that value, places aside.
use Rattle.std.proofs.Common.{◌≡◌, refl, ◌∙◌, ap, ℕ, List, [], ◌∷◌, ◌++◌}
use Rattle.std.specs.Prelude.{IsTrue, codes}
use Rattle.std.specs.List.{flat_map}
use Rattle.std.proofs.lemmas.List.{append_assoc}
use Rattle.cfa_base.specs.Joined.{joined}
use Rattle.cfa_base.specs.declared.places.Place.{Place}
use Rattle.cfa_base.specs.declared.tokens.Kind.TheVariants.{OpenParen, OpenBrace}
use Rattle.cfa_base.specs.Tokens.{Token}
use Rattle.cfa_base.specs.Lexing.{is_word, is_name, content_of, name_of, place_past, place_after}
use Rattle.cfa_base.specs.lemmas.Taking.{takes_word, takes_text, takes_ref, takes_list_ref, takes_comma, takes_open_paren, takes_close_paren, takes_open_brace, takes_close_brace, parentheses, name_is, reference_from}
use Rattle.cfa_tree.specs.Grammar.{token, Levels, Opens, Value, Item, Args, MoreArgs, MoreItems, a_list, an_item, a_text, a_reference, a_list_reference, a_word, a_call, no_args, some_args, args_end, next_arg, no_items, some_items, items_end, next_item}
use Rattle.cfa_tree.specs.Tree.{ValueTree, text, word, reference, list_reference, list, call, ValueTrees, no_value, more_values, value_trees}
use Rattle.cfa_tree.specs.Unplaced.{no_place, unplaced_value, unplaced_values}
use Rattle.cfa_printer.specs.Printing.{quoted, in_parentheses, printed_value, printed_values}
use Rattle.cfa_printer.proofs.Quoted.{quoted_is_quoted, content_of_quoted}
use Rattle.cfa_printer.proofs.Readable.{IsItem, ReadableValue, EachItem, EachValue}
use Rattle.cfa_printer.proofs.Standing.{Again, alone, begun, goes_on, a_space, read_as, at_bytes, ends_word, more_end}

abbrev pub ValueAgain : Levels → ValueTree → Place → (bytes rest : List ℕ) → Type 0
ValueAgain levels v place bytes rest = Again (λ w. unplaced_value w ≡ unplaced_value v) (λ w us ts. Value levels us w ts) place bytes rest

abbrev ItemAgain : Levels → ValueTree → Place → (bytes rest : List ℕ) → Type 0
ItemAgain levels v place bytes rest = Again (λ w. unplaced_value w ≡ unplaced_value v) (λ w us ts. Item levels us w ts) place bytes rest

abbrev AllAgain : (List ValueTree → List Token → List Token → Type 0) → ValueTrees → Place → (bytes rest : List ℕ) → Type 0
AllAgain Line vs place bytes rest = Again (λ ws. unplaced_values (value_trees ws) ≡ unplaced_values vs) Line place bytes rest

-- the further texts of a list
abbrev pub further : List (List ℕ) → List ℕ
further xs = flat_map (λ y. codes ", " ++ y) xs

as_value : (levels : Levels) (v : ValueTree) {place : Place} {bytes rest : List ℕ} → ItemAgain levels v place bytes rest → ValueAgain levels v place bytes rest
as_value levels v again = record { tree = again.tree; alike = again.alike; stands = read_as again.stands (λ us ts item. an_item item) }

both_alike : (a b : ValueTree) (xs ys : ValueTrees) → a ≡ b → xs ≡ ys → more_values a xs ≡ more_values b ys
both_alike a b xs ys same also = cc

-- the bytes of a call with parentheses around its arguments
call_bytes : (function arguments rest : List ℕ) → (function ++ in_parentheses arguments) ++ rest ≡ function ++ (40 ∷ (arguments ++ (41 ∷ rest)))
call_bytes function arguments rest = append_assoc function _ rest ∙ ap (λ x. function ++ (40 ∷ x)) (append_assoc arguments (41 ∷ []) rest)

-- the bytes of a list with its first item apart
list_bytes : (first more rest : List ℕ) → ((first ++ more) ++ codes " }") ++ rest ≡ first ++ (more ++ (32 ∷ 125 ∷ rest))
list_bytes first more rest = append_assoc (first ++ more) (codes " }") rest ∙ append_assoc first more _

text_again : (levels : Levels) (content : List ℕ) (p place : Place) (rest : List ℕ) → ItemAgain levels (text content p) place (quoted content ++ rest) rest
text_again levels content p place rest = record {
  tree = text (content_of (quoted content)) place;
  alike = ap (λ x. text x no_place) (content_of_quoted content);
  stands = alone (takes_text (quoted content) rest (quoted_is_quoted content)) (λ ts. a_text);
}

word_again : (levels : Levels) (name : List ℕ) (p place : Place) (rest : List ℕ) → IsTrue (is_word name) → IsTrue (ends_word rest) → ItemAgain levels (word name p) place (name ++ rest) rest
word_again levels name p place rest r end = record {
  tree = word name place;
  alike = refl;
  stands = alone (takes_word name rest r end) (λ ts. a_word);
}

reference_again : (levels : Levels) (name : List ℕ) (p place : Place) (rest : List ℕ) → IsTrue (is_name name) → ItemAgain levels (reference name p) place ((36 ∷ in_parentheses name) ++ rest) rest
reference_again levels name p place rest r = record {
  tree = reference (name_of (36 ∷ in_parentheses name)) place;
  alike = ap (λ x. reference x no_place) (name_is 36 40 41 name);
  stands = alone (takes_ref (36 ∷ in_parentheses name) rest (reference_from 36 40 41 name parentheses r)) (λ ts. a_reference);
}

list_reference_again : (levels : Levels) (name : List ℕ) (p place : Place) (rest : List ℕ) → IsTrue (is_name name) → ItemAgain levels (list_reference name p) place ((64 ∷ in_parentheses name) ++ rest) rest
list_reference_again levels name p place rest r = record {
  tree = list_reference (name_of (64 ∷ in_parentheses name)) place;
  alike = ap (λ x. list_reference x no_place) (name_is 64 40 41 name);
  stands = alone (takes_list_ref (64 ∷ in_parentheses name) rest (reference_from 64 40 41 name parentheses r)) (λ ts. a_list_reference);
}

-- a call, where its arguments are read again
call_again : (levels : Levels) (function : List ℕ) (arguments : ValueTrees) (p place : Place) (rest : List ℕ) → IsTrue (is_word function) →
    AllAgain (λ ws us ts. Args levels us ws ts) arguments (place_after place function) (40 ∷ (joined (codes ", ") (printed_values arguments) ++ (41 ∷ rest))) rest →
    ItemAgain levels (call function arguments p) place (printed_value (call function arguments p) ++ rest) rest
call_again levels function arguments p place rest named args = record {
  tree = call function (value_trees args.tree) place;
  alike = ap (λ x. call function x no_place) args.alike;
  stands = at_bytes (call_bytes function (joined (codes ", ") (printed_values arguments)) rest)
      (begun (takes_word function _ named refl) args.stands (λ us ts h. a_call h));
}

mutual
  pub value_again : (levels : Levels) (v : ValueTree) → ReadableValue levels v → (place : Place) (rest : List ℕ) → IsTrue (ends_word rest) →
      ValueAgain levels v place (printed_value v ++ rest) rest
  value_again levels (text content p) r place rest end = as_value levels (text content p) (text_again levels content p place rest)
  value_again levels (word name p) r place rest end = as_value levels (word name p) (word_again levels name p place rest r end)
  value_again levels (reference name p) r place rest end = as_value levels (reference name p) (reference_again levels name p place rest r)
  value_again levels (list_reference name p) r place rest end = as_value levels (list_reference name p) (list_reference_again levels name p place rest r)
  value_again levels (list items p) r place rest end = list_again levels items r p place rest
  value_again levels (call function arguments p) (named, (inside, opens, r)) place rest end =
      as_value levels (call function arguments p)
      (call_again levels function arguments p place rest named (args_again levels inside opens arguments r (place_after place function) rest))

  item_again : (levels : Levels) (v : ValueTree) → IsItem v → ReadableValue levels v → (place : Place) (rest : List ℕ) → IsTrue (ends_word rest) →
      ItemAgain levels v place (printed_value v ++ rest) rest
  item_again levels (text content p) item r place rest end = text_again levels content p place rest
  item_again levels (word name p) item r place rest end = word_again levels name p place rest r end
  item_again levels (reference name p) item r place rest end = reference_again levels name p place rest r
  item_again levels (list_reference name p) item r place rest end = list_reference_again levels name p place rest r
  item_again levels (list items p) item r place rest end = absurd item
  item_again levels (call function arguments p) item (named, (inside, opens, r)) place rest end =
      call_again levels function arguments p place rest named (args_again levels inside opens arguments r (place_after place function) rest)

  args_again : (levels inside : Levels) → Opens levels inside → (vs : ValueTrees) → EachValue inside vs → (place : Place) (rest : List ℕ) →
      AllAgain (λ ws us ts. Args levels us ws ts) vs place (40 ∷ (joined (codes ", ") (printed_values vs) ++ (41 ∷ rest))) rest
  args_again levels inside opens no_value r place rest = record {
    tree = [];
    alike = refl;
    stands = begun (takes_open_paren _) (alone {Line = λ us ts. Args levels (token OpenParen (40 ∷ []) place ∷ us) [] ts} (takes_close_paren rest) (λ ts. no_args opens)) (λ us ts h. h);
  }
  args_again levels inside opens (more_values v vs) r place rest =
      let first = value_again inside v r.0 (place_after place (40 ∷ [])) (further (printed_values vs) ++ (41 ∷ rest)) (more_end 44 (32 ∷ []) (printed_values vs) (41 ∷ rest) refl refl) in
      let more = more_args_again inside vs r.1 first.stands.behind rest in
      record {
        tree = first.tree ∷ more.tree;
        alike = both_alike _ _ _ _ first.alike more.alike;
        stands = begun (takes_open_paren _)
            (at_bytes (append_assoc (printed_value v) (further (printed_values vs)) (41 ∷ rest))
            (goes_on {Line = λ us ts. (ws : List Token) × Value inside us first.tree ws × MoreArgs inside ws more.tree ts} first.stands more.stands (λ us ts ws a b. (ts, a, b))))
            (λ us ts h. some_args opens h.1 h.2);
      }

  more_args_again : (levels : Levels) (vs : ValueTrees) → EachValue levels vs → (place : Place) (rest : List ℕ) →
      AllAgain (λ ws us ts. MoreArgs levels us ws ts) vs place (further (printed_values vs) ++ (41 ∷ rest)) rest
  more_args_again levels no_value r place rest = record { tree = []; alike = refl; stands = alone (takes_close_paren rest) (λ ts. args_end) }
  more_args_again levels (more_values v vs) r place rest =
      let first = value_again levels v r.0 (place_past (place_after place (44 ∷ [])) 32) (further (printed_values vs) ++ (41 ∷ rest)) (more_end 44 (32 ∷ []) (printed_values vs) (41 ∷ rest) refl refl) in
      let more = more_args_again levels vs r.1 first.stands.behind rest in
      record {
        tree = first.tree ∷ more.tree;
        alike = both_alike _ _ _ _ first.alike more.alike;
        stands = begun (takes_comma _)
            (a_space refl (at_bytes (append_assoc (printed_value v) (further (printed_values vs)) (41 ∷ rest))
            (goes_on {Line = λ us ts. (ws : List Token) × Value levels us first.tree ws × MoreArgs levels ws more.tree ts} first.stands more.stands (λ us ts ws a b. (ts, a, b)))))
            (λ us ts h. next_arg h.1 h.2);
      }

  list_again : (levels : Levels) (vs : ValueTrees) → EachItem levels vs → (p : Place) (place : Place) (rest : List ℕ) →
      ValueAgain levels (list vs p) place (printed_value (list vs p) ++ rest) rest
  list_again levels no_value r p place rest = record {
    tree = list (value_trees []) place;
    alike = refl;
    stands = begun (takes_open_brace _) (a_space refl (alone {Line = λ us ts. Value levels (token OpenBrace (123 ∷ []) place ∷ us) (list (value_trees []) place) ts} (takes_close_brace rest) (λ ts. a_list no_items))) (λ us ts h. h);
  }
  list_again levels (more_values v vs) r p place rest =
      let first = item_again levels v r.0 r.1 (place_past (place_after place (123 ∷ [])) 32) (further (printed_values vs) ++ (32 ∷ 125 ∷ rest)) (more_end 44 (32 ∷ []) (printed_values vs) (32 ∷ 125 ∷ rest) refl refl) in
      let more = more_items_again levels vs r.2 first.stands.behind rest in
      record {
        tree = list (value_trees (first.tree ∷ more.tree)) place;
        alike = ap (λ x. list x no_place) (both_alike _ _ _ _ first.alike more.alike);
        stands = begun (takes_open_brace _)
            (a_space refl (at_bytes (list_bytes (printed_value v) (further (printed_values vs)) rest)
            (goes_on {Line = λ us ts. (ws : List Token) × Item levels us first.tree ws × MoreItems levels ws more.tree ts} first.stands more.stands (λ us ts ws a b. (ts, a, b)))))
            (λ us ts h. a_list (some_items h.1 h.2));
      }

  more_items_again : (levels : Levels) (vs : ValueTrees) → EachItem levels vs → (place : Place) (rest : List ℕ) →
      AllAgain (λ ws us ts. MoreItems levels us ws ts) vs place (further (printed_values vs) ++ (32 ∷ 125 ∷ rest)) rest
  more_items_again levels no_value r place rest = record { tree = []; alike = refl; stands = a_space refl (alone (takes_close_brace rest) (λ ts. items_end)) }
  more_items_again levels (more_values v vs) r place rest =
      let first = item_again levels v r.0 r.1 (place_past (place_after place (44 ∷ [])) 32) (further (printed_values vs) ++ (32 ∷ 125 ∷ rest)) (more_end 44 (32 ∷ []) (printed_values vs) (32 ∷ 125 ∷ rest) refl refl) in
      let more = more_items_again levels vs r.2 first.stands.behind rest in
      record {
        tree = first.tree ∷ more.tree;
        alike = both_alike _ _ _ _ first.alike more.alike;
        stands = begun (takes_comma _)
            (a_space refl (at_bytes (append_assoc (printed_value v) (further (printed_values vs)) (32 ∷ 125 ∷ rest))
            (goes_on {Line = λ us ts. (ws : List Token) × Item levels us first.tree ws × MoreItems levels ws more.tree ts} first.stands more.stands (λ us ts ws a b. (ts, a, b)))))
            (λ us ts h. next_item h.1 h.2);
      }
