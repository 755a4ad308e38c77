-- The table of clashes at edits worked by hand.
use Rattle.std.proofs.Common.{◌≡◌, ℕ, true, false, List, [], ◌∷◌, refl}
use Rattle.std.specs.Prelude.{codes, encode_utf8_all}
use Rattle.std.specs.Str.{chars}
use lib.Utf8.{encode}
use Rattle.cfa_base.specs.Patterns.{pattern_of}
use Rattle.cfa_base.specs.declared.patterns.How.TheVariants.{Whole, Part}
use Rattle.cfa_edits.specs.declared.edits.Edit.{Edit}
use Rattle.cfa_edits.specs.declared.edits.Edit.TheVariants.{Delete, Field, Insert, Replace}
use Rattle.cfa_edits.specs.declared.edits.Spot.TheVariants.{End}
use Rattle.cfa_edit_proof.specs.Plain.{is_plain, contains, shares_character}
use Rattle.cfa_edit_proof.specs.Clashes.{has_field, clashes_alone, clash_by}

abbrev deletes : List ℕ → Edit
deletes text = Delete (pattern_of Whole text)

abbrev sets : (text : List ℕ) (number : ℕ) (value : List ℕ) → Edit
sets text number value = Field (pattern_of Whole text) 58 number value

abbrev inserts : List (List ℕ) → Edit
inserts block = Insert block End

abbrev replaces : (text value : List ℕ) → Edit
replaces text value = Replace (pattern_of Part text) value true

-- ---- plain texts

words_are_plain : is_plain (codes "Port 22_a") ≡ true
words_are_plain = refl

dots_are_not : is_plain (codes "a.b") ≡ false
dots_are_not = refl

nothing_is_not : is_plain [] ≡ false
nothing_is_not = refl

umlauts_are_not : is_plain (encode_utf8_all (codes "ö")) ≡ false
unfolding encode
umlauts_are_not = refl

contained : contains (codes "banana") (codes "nan") ≡ true
contained = refl

not_contained : contains (codes "banana") (codes "nab") ≡ false
not_contained = refl

-- the two characters have their first byte in common
bytes_are_no_characters : shares_character (encode_utf8_all (codes "é")) (encode_utf8_all (codes "è")) ≡ false
unfolding chars encode
bytes_are_no_characters = refl

characters_shared : shares_character (encode_utf8_all (codes "né")) (encode_utf8_all (codes "éa")) ≡ true
unfolding chars encode
characters_shared = refl

-- ---- an edit by itself

grows : clashes_alone (replaces (codes "a") (codes "aa")) ≡ true
unfolding chars
grows = refl

changes_once : clashes_alone (replaces (codes "a") (codes "b")) ≡ false
unfolding chars
changes_once = refl

first_match_alone : clashes_alone (Replace (pattern_of Part (codes "a")) (codes "b") false) ≡ true
unfolding chars
first_match_alone = refl

pattern_not_plain : clashes_alone (replaces (codes "a.c") (codes "b")) ≡ true
unfolding chars
pattern_not_plain = refl

empty_value : clashes_alone (replaces (codes "a") []) ≡ true
unfolding chars
empty_value = refl

value_holds_separator : clashes_alone (sets (codes "root:.*") 2 (codes "x:y")) ≡ true
unfolding chars
value_holds_separator = refl

value_without_separator : clashes_alone (sets (codes "root:.*") 2 (codes "*")) ≡ false
unfolding chars
value_without_separator = refl

-- ---- two edits

replaced_insert : clash_by 3 (inserts (codes "b" ∷ codes "xay" ∷ [])) (replaces (codes "a") (codes "b")) ≡ true
replaced_insert = refl

left_insert : clash_by 3 (inserts (codes "b" ∷ codes "xby" ∷ [])) (replaces (codes "a") (codes "b")) ≡ false
left_insert = refl

-- a pattern that isn't plain is taken as its text
pattern_as_text : clash_by 3 (inserts (codes "abc" ∷ [])) (replaces (codes "a.c") (codes "x")) ≡ false
pattern_as_text = refl

text_of_pattern : clash_by 3 (inserts (codes "za.cz" ∷ [])) (replaces (codes "a.c") (codes "x")) ≡ true
text_of_pattern = refl

delete_and_field : clash_by 4 (deletes (codes "a")) (sets (codes "b") 1 (codes "c")) ≡ true
delete_and_field = refl

delete_and_replace : clash_by 4 (deletes (codes "a")) (replaces (codes "b") (codes "c")) ≡ true
delete_and_replace = refl

two_fields : clash_by 4 (sets (codes "a") 1 (codes "c")) (sets (codes "b") 1 (codes "c")) ≡ true
two_fields = refl

field_and_replace : clash_by 4 (sets (codes "a") 1 (codes "c")) (replaces (codes "b") (codes "c")) ≡ true
field_and_replace = refl

two_deletes : clash_by 4 (deletes (codes "a")) (deletes (codes "a")) ≡ false
two_deletes = refl

replaced_again : clash_by 5 (replaces (codes "a") (codes "b")) (replaces (codes "c") (codes "a")) ≡ true
unfolding chars
replaced_again = refl

not_again : clash_by 5 (replaces (codes "c") (codes "a")) (replaces (codes "a") (codes "b")) ≡ false
unfolding chars
not_again = refl

-- ---- fields

second_field : has_field 58 2 (codes "x") (codes "root:x:0") ≡ true
unfolding chars encode
second_field = refl

other_value : has_field 58 2 (codes "*") (codes "root:x:0") ≡ false
unfolding chars encode
other_value = refl

no_such_field : has_field 58 4 (codes "x") (codes "root:x:0") ≡ false
unfolding chars encode
no_such_field = refl

empty_field : has_field 58 2 [] (codes "root::0") ≡ true
unfolding chars encode
empty_field = refl
