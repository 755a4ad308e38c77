-- Worked rows: spellings, and texts with their tokens or their first fault.
use Rattle.std.proofs.Common.{◌≡◌, ℕ, true, false, List, [], ◌∷◌, length, refl, subst, arith, Some, None}
use Rattle.std.specs.Prelude.{codes}
use Rattle.cfa_base.specs.declared.tokens.Kind.{Kind}
use Rattle.cfa_base.specs.declared.tokens.Kind.TheVariants.{Word, Text, Ref, ListRef, Colon, DoubleColon, Or}
use Rattle.cfa_base.specs.declared.places.Place.{Place}
use Rattle.cfa_base.specs.Tokens.{Token}
use Rattle.cfa_base.specs.Lexing.{spells, is_name, name_of, content_of, place_after, first_place, bad_byte, unclosed_text, Lexes, FirstFault}
use Rattle.cfa_base.specs.Scanned.{Scanned, scan}
use Rattle.cfa_base.specs.lemmas.Scanning.{ScansTo, scan_scans}

word : spells Word (codes "etc_09") ≡ true
word = refl

no_word : spells Word (codes "a-b") ≡ false
no_word = refl

name : is_name (codes "main.x") ≡ true
name = refl

name_of_three : is_name (codes "a.b.c") ≡ false
name_of_three = refl

name_with_an_empty_part : is_name (codes "a.") ≡ false
name_with_an_empty_part = refl

text : spells Text (codes "'a\"b'") ≡ true
text = refl

text_with_an_escaped_quote : spells Text (34 ∷ 97 ∷ 92 ∷ 34 ∷ 34 ∷ []) ≡ true
text_with_an_escaped_quote = refl

text_ended_by_an_escaped_quote : spells Text (34 ∷ 97 ∷ 92 ∷ 34 ∷ []) ≡ false
text_ended_by_an_escaped_quote = refl

unclosed : spells Text (codes "\"/etc/mo") ≡ false
unclosed = refl

empty_text : spells Text (codes "''") ≡ true
empty_text = refl

one_quote : spells Text (codes "'") ≡ false
one_quote = refl

ref : spells Ref (codes "$(a.b)") ≡ true
ref = refl

ref_in_braces : spells Ref (codes "${ab}") ≡ true
ref_in_braces = refl

mixed_brackets : spells Ref (codes "$(ab}") ≡ false
mixed_brackets = refl

ref_with_a_space : spells Ref (codes "$(a b)") ≡ false
ref_with_a_space = refl

ref_without_a_name : spells Ref (codes "$()") ≡ false
ref_without_a_name = refl

list_ref : spells ListRef (codes "@(l)") ≡ true
list_ref = refl

name_of_a_ref : name_of (codes "$(a.b)") ≡ codes "a.b"
name_of_a_ref = refl

both_bars : spells Or (codes "||") ≡ true
both_bars = refl

one_bar : spells Or (codes "|") ≡ true
one_bar = refl

three_bars : spells Or (codes "|||") ≡ false
three_bars = refl

two_colons : spells DoubleColon (codes "::") ≡ true
two_colons = refl

-- `'a\"\'\\\n'`, whose content is `a"'\\n` with one backslash before the n
content : content_of (39 ∷ 97 ∷ 92 ∷ 34 ∷ 92 ∷ 39 ∷ 92 ∷ 92 ∷ 92 ∷ 110 ∷ 39 ∷ []) ≡ 97 ∷ 34 ∷ 39 ∷ 92 ∷ 92 ∷ 110 ∷ []
content = refl

empty_content : content_of (codes "\"\"") ≡ []
empty_content = refl

after_a_newline : place_after (first_place 2) (codes "ab\nc") ≡ record { file = 2; line = 2; col = 2 }
after_a_newline = refl

-- The tokens of whole texts, and their first faults: what `scan` computes is what the bytes scan to.

abbrev at : ℕ → ℕ → Place
at line column = record { file = 0; line = line; col = column }

abbrev tok : Kind → List ℕ → Place → Token
tok kind text place = record { kind = kind; text = text; place = place }

scans_by : (bytes : List ℕ) (scanned : Scanned) → scan (length bytes) (at 1 1) bytes ≡ scanned → ScansTo (at 1 1) bytes scanned
scans_by bytes scanned is = subst (λ (s : Scanned). ScansTo (at 1 1) bytes s) is (scan_scans (length bytes) (at 1 1) bytes (omega arith))

an_unclosed_text : FirstFault (at 1 1) (codes "a \"/etc/mo") (unclosed_text (at 1 3))
an_unclosed_text = (tok Word (codes "a") (at 1 1) ∷ [], scans_by _ (record { tokens = tok Word (codes "a") (at 1 1) ∷ []; fault = Some (unclosed_text (at 1 3)) }) refl)

a_percent_sign : FirstFault (at 1 1) (codes "%") (bad_byte (at 1 1))
a_percent_sign = ([], scans_by _ (record { tokens = []; fault = Some (bad_byte (at 1 1)) }) refl)

a_reference_with_a_space : FirstFault (at 1 1) (codes "\n $(a b)") (bad_byte (at 2 2))
a_reference_with_a_space = ([], scans_by _ (record { tokens = []; fault = Some (bad_byte (at 2 2)) }) refl)

an_equals_sign_alone : FirstFault (at 1 1) (codes "= >") (bad_byte (at 1 1))
an_equals_sign_alone = ([], scans_by _ (record { tokens = []; fault = Some (bad_byte (at 1 1)) }) refl)

nothing : Lexes (at 1 1) [] []
nothing = scans_by _ (record { tokens = []; fault = None }) refl

bars : Lexes (at 1 1) (codes "|||") (tok Or (codes "||") (at 1 1) ∷ tok Or (codes "|") (at 1 3) ∷ [])
bars = scans_by _ (record { tokens = tok Or (codes "||") (at 1 1) ∷ tok Or (codes "|") (at 1 3) ∷ []; fault = None }) refl

colons : Lexes (at 1 1) (codes "x:::") (tok Word (codes "x") (at 1 1) ∷ tok DoubleColon (codes "::") (at 1 2) ∷ tok Colon (codes ":") (at 1 4) ∷ [])
colons = scans_by _ (record { tokens = tok Word (codes "x") (at 1 1) ∷ tok DoubleColon (codes "::") (at 1 2) ∷ tok Colon (codes ":") (at 1 4) ∷ []; fault = None }) refl

comments : Lexes (at 1 1) (codes "a#b\nc#") (tok Word (codes "a") (at 1 1) ∷ tok Word (codes "c") (at 2 1) ∷ [])
comments = scans_by _ (record { tokens = tok Word (codes "a") (at 1 1) ∷ tok Word (codes "c") (at 2 1) ∷ []; fault = None }) refl

a_hash_in_a_text : Lexes (at 1 1) (codes "'#\n'@(l)") (tok Text (codes "'#\n'") (at 1 1) ∷ tok ListRef (codes "@(l)") (at 2 2) ∷ [])
a_hash_in_a_text = scans_by _ (record { tokens = tok Text (codes "'#\n'") (at 1 1) ∷ tok ListRef (codes "@(l)") (at 2 2) ∷ []; fault = None }) refl

-- `"\""$(a.b)`
an_escaped_quote : Lexes (at 1 1) (34 ∷ 92 ∷ 34 ∷ 34 ∷ codes "$(a.b)") (tok Text (34 ∷ 92 ∷ 34 ∷ 34 ∷ []) (at 1 1) ∷ tok Ref (codes "$(a.b)") (at 1 5) ∷ [])
an_escaped_quote = scans_by _ (record { tokens = tok Text (34 ∷ 92 ∷ 34 ∷ 34 ∷ []) (at 1 1) ∷ tok Ref (codes "$(a.b)") (at 1 5) ∷ []; fault = None }) refl
