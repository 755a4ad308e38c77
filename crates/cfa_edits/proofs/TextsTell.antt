-- The text of a script tells its edits: no field has a separator, so the parts of a text are its fields.
use Rattle.std.proofs.Common.{◌≡◌, ℕ, ◌+◌, ◌*◌, ◌<◌, ◌≤◌, true, false, List, [], ◌∷◌, ◌++◌, length, map, get_or, codes, refl, sym, ap, ap₂, ◌∙◌, arith, All}
use Rattle.std.specs.Prelude.{encode_utf8}
use Rattle.std.specs.Fmt.{decimal}
use Rattle.std.specs.List.{join_with_byte}
use Rattle.std.specs.Str.Parse.{digits_value}
use Rattle.std.proofs.lemmas.Fmt.{decimal_is_IsNumeral}
use Rattle.std.proofs.lemmas.List.Elements.{All-head, All-tail}
use Rattle.std.proofs.lemmas.Str.{encode_same}
use Rattle.cfa_base.specs.Escapes.{escaped}
use Rattle.cfa_base.specs.lemmas.Escapes.{fields_tell_texts}
use Rattle.cfa_base.specs.Patterns.{PatternText, pattern_of}
use Rattle.cfa_edits.specs.Laws.{TextsTellScripts}
use Rattle.cfa_edits.specs.lemmas.Fields.{fields_lack, texts_lack}
use Rattle.cfa_edits.specs.lemmas.Parts.{clash, joined_tells, IsSeparator, all_escaped, all_tell, comma}
use Rattle.cfa_edits.specs.Scripts.{IsSpot, IsEdit, spot_name, spot_pattern, block_text, edit_fields, edit_text, script_text}
use Rattle.cfa_edits.specs.declared.edits.Edit.{Edit}
use Rattle.cfa_edits.specs.declared.edits.Edit.TheVariants.{Delete, Field, Insert, Replace}
use Rattle.cfa_edits.specs.declared.edits.Spot.{Spot}
use Rattle.cfa_edits.specs.declared.edits.Spot.TheVariants.{Start, End, Before, After}

-- tells the names of spots, and the kinds of edits, apart
abbrev sign : List ℕ → ℕ
sign word = 1000 * get_or word 0 0 + length word

abbrev kind_sign : List (List ℕ) → ℕ
kind_sign fields = get_or (get_or fields 0 []) 0 0

pattern_is : (p q : PatternText) → p.text ≡ q.text → p.how ≡ q.how → p ≡ q
pattern_is p q text how = ap₂ pattern_of how text

spots_tell : (s t : Spot) → IsSpot s → IsSpot t → spot_name s ≡ spot_name t → spot_pattern s ≡ spot_pattern t → s ≡ t
spots_tell Start Start is is' names patterns = refl
spots_tell End End is is' names patterns = refl
spots_tell (Before p true) (Before q true) is is' names patterns = let same = pattern_is p q patterns (is ∙ sym is') in cc
spots_tell (Before p false) (Before q false) is is' names patterns = let same = pattern_is p q patterns (is ∙ sym is') in cc
spots_tell (After p true) (After q true) is is' names patterns = let same = pattern_is p q patterns (is ∙ sym is') in cc
spots_tell (After p false) (After q false) is is' names patterns = let same = pattern_is p q patterns (is ∙ sym is') in cc
spots_tell Start End is is' names patterns = absurd (clash (sign (spot_name Start)) (sign (spot_name End)) refl (ap sign names))
spots_tell Start (Before q true) is is' names patterns = absurd (clash (sign (spot_name Start)) (sign (spot_name (Before q true))) refl (ap sign names))
spots_tell Start (Before q false) is is' names patterns = absurd (clash (sign (spot_name Start)) (sign (spot_name (Before q false))) refl (ap sign names))
spots_tell Start (After q true) is is' names patterns = absurd (clash (sign (spot_name Start)) (sign (spot_name (After q true))) refl (ap sign names))
spots_tell Start (After q false) is is' names patterns = absurd (clash (sign (spot_name Start)) (sign (spot_name (After q false))) refl (ap sign names))
spots_tell End Start is is' names patterns = absurd (clash (sign (spot_name End)) (sign (spot_name Start)) refl (ap sign names))
spots_tell End (Before q true) is is' names patterns = absurd (clash (sign (spot_name End)) (sign (spot_name (Before q true))) refl (ap sign names))
spots_tell End (Before q false) is is' names patterns = absurd (clash (sign (spot_name End)) (sign (spot_name (Before q false))) refl (ap sign names))
spots_tell End (After q true) is is' names patterns = absurd (clash (sign (spot_name End)) (sign (spot_name (After q true))) refl (ap sign names))
spots_tell End (After q false) is is' names patterns = absurd (clash (sign (spot_name End)) (sign (spot_name (After q false))) refl (ap sign names))
spots_tell (Before p true) Start is is' names patterns = absurd (clash (sign (spot_name (Before p true))) (sign (spot_name Start)) refl (ap sign names))
spots_tell (Before p true) End is is' names patterns = absurd (clash (sign (spot_name (Before p true))) (sign (spot_name End)) refl (ap sign names))
spots_tell (Before p true) (Before q false) is is' names patterns = absurd (clash (sign (spot_name (Before p true))) (sign (spot_name (Before q false))) refl (ap sign names))
spots_tell (Before p true) (After q true) is is' names patterns = absurd (clash (sign (spot_name (Before p true))) (sign (spot_name (After q true))) refl (ap sign names))
spots_tell (Before p true) (After q false) is is' names patterns = absurd (clash (sign (spot_name (Before p true))) (sign (spot_name (After q false))) refl (ap sign names))
spots_tell (Before p false) Start is is' names patterns = absurd (clash (sign (spot_name (Before p false))) (sign (spot_name Start)) refl (ap sign names))
spots_tell (Before p false) End is is' names patterns = absurd (clash (sign (spot_name (Before p false))) (sign (spot_name End)) refl (ap sign names))
spots_tell (Before p false) (Before q true) is is' names patterns = absurd (clash (sign (spot_name (Before p false))) (sign (spot_name (Before q true))) refl (ap sign names))
spots_tell (Before p false) (After q true) is is' names patterns = absurd (clash (sign (spot_name (Before p false))) (sign (spot_name (After q true))) refl (ap sign names))
spots_tell (Before p false) (After q false) is is' names patterns = absurd (clash (sign (spot_name (Before p false))) (sign (spot_name (After q false))) refl (ap sign names))
spots_tell (After p true) Start is is' names patterns = absurd (clash (sign (spot_name (After p true))) (sign (spot_name Start)) refl (ap sign names))
spots_tell (After p true) End is is' names patterns = absurd (clash (sign (spot_name (After p true))) (sign (spot_name End)) refl (ap sign names))
spots_tell (After p true) (Before q true) is is' names patterns = absurd (clash (sign (spot_name (After p true))) (sign (spot_name (Before q true))) refl (ap sign names))
spots_tell (After p true) (Before q false) is is' names patterns = absurd (clash (sign (spot_name (After p true))) (sign (spot_name (Before q false))) refl (ap sign names))
spots_tell (After p true) (After q false) is is' names patterns = absurd (clash (sign (spot_name (After p true))) (sign (spot_name (After q false))) refl (ap sign names))
spots_tell (After p false) Start is is' names patterns = absurd (clash (sign (spot_name (After p false))) (sign (spot_name Start)) refl (ap sign names))
spots_tell (After p false) End is is' names patterns = absurd (clash (sign (spot_name (After p false))) (sign (spot_name End)) refl (ap sign names))
spots_tell (After p false) (Before q true) is is' names patterns = absurd (clash (sign (spot_name (After p false))) (sign (spot_name (Before q true))) refl (ap sign names))
spots_tell (After p false) (Before q false) is is' names patterns = absurd (clash (sign (spot_name (After p false))) (sign (spot_name (Before q false))) refl (ap sign names))
spots_tell (After p false) (After q true) is is' names patterns = absurd (clash (sign (spot_name (After p false))) (sign (spot_name (After q true))) refl (ap sign names))

plus : IsSeparator 43
plus = record { low = omega arith; none = refl; no_digit = λ d lt. λ e. omega arith }

block_texts_tell : (block other : List (List ℕ)) → 0 < length block → 0 < length other → block_text block ≡ block_text other → block ≡ other
block_texts_tell [] other is is' e = absurd (omega arith)
block_texts_tell (x ∷ xs) [] is is' e = absurd (omega arith)
block_texts_tell (x ∷ xs) (y ∷ ys) is is' e =
    all_tell (x ∷ xs) (y ∷ ys)
    (joined_tells 43 (escaped x) (escaped y) (map escaped xs) (map escaped ys) (all_escaped 43 (x ∷ xs) plus) (all_escaped 43 (y ∷ ys) plus) e)

decimals_tell : (m n : ℕ) → m ≤ 999 → n ≤ 999 → decimal m ≡ decimal n → m ≡ n
decimals_tell m n h i e =
    sym (decimal_is_IsNumeral m (omega arith)).1 ∙ ap (digits_value 10) e ∙ (decimal_is_IsNumeral n (omega arith)).1

chars_tell : (c d : ℕ) → encode_utf8 c ≡ encode_utf8 d → c ≡ d
chars_tell c d e = (encode_same c d [] [] (ap (λ bs. bs ++ []) e)).0

fields_tell : (edit other : Edit) → IsEdit edit → IsEdit other → edit_fields edit ≡ edit_fields other → edit ≡ other
fields_tell (Delete p) (Delete q) is is' e =
    let text : escaped p.text ≡ escaped q.text = cc in
    let same = pattern_is p q (fields_tell_texts p.text q.text text) (is ∙ sym is') in cc
fields_tell (Field p c m v) (Field q d n w) is is' e =
    let text : escaped p.text ≡ escaped q.text = cc in
    let separator : escaped (encode_utf8 c) ≡ escaped (encode_utf8 d) = cc in
    let number : decimal m ≡ decimal n = cc in
    let value : escaped v ≡ escaped w = cc in
    let patterns = pattern_is p q (fields_tell_texts p.text q.text text) (is.0 ∙ sym is'.0) in
    let separators = chars_tell c d (fields_tell_texts (encode_utf8 c) (encode_utf8 d) separator) in
    let numbers = decimals_tell m n is.2 is'.2 number in
    let values = fields_tell_texts v w value in
    cc
fields_tell (Insert b s) (Insert d t) is is' e =
    let name : spot_name s ≡ spot_name t = cc in
    let text : escaped (spot_pattern s) ≡ escaped (spot_pattern t) = cc in
    let block : block_text b ≡ block_text d = cc in
    let spots = spots_tell s t is.0 is'.0 name (fields_tell_texts (spot_pattern s) (spot_pattern t) text) in
    let blocks = block_texts_tell b d is.1 is'.1 block in
    cc
fields_tell (Replace p v true) (Replace q w true) is is' e =
    let text : escaped p.text ≡ escaped q.text = cc in
    let value : escaped v ≡ escaped w = cc in
    let patterns = pattern_is p q (fields_tell_texts p.text q.text text) (is.0 ∙ sym is'.0) in
    let values = fields_tell_texts v w value in
    cc
fields_tell (Replace p v false) (Replace q w false) is is' e =
    let text : escaped p.text ≡ escaped q.text = cc in
    let value : escaped v ≡ escaped w = cc in
    let patterns = pattern_is p q (fields_tell_texts p.text q.text text) (is.0 ∙ sym is'.0) in
    let values = fields_tell_texts v w value in
    cc
fields_tell (Replace p v true) (Replace q w false) is is' e = absurd (clash (length (codes "all")) (length (codes "first")) refl (ap (λ fields. length (get_or fields 1 [])) e))
fields_tell (Replace p v false) (Replace q w true) is is' e = absurd (clash (length (codes "first")) (length (codes "all")) refl (ap (λ fields. length (get_or fields 1 [])) e))
fields_tell edit other is is' e = absurd (clash (kind_sign (edit_fields edit)) (kind_sign (edit_fields other)) refl (ap kind_sign e))

some_fields : (edit : Edit) → (first : List ℕ) × (more : List (List ℕ)) × (edit_fields edit ≡ first ∷ more)
some_fields (Delete pattern) = (_, _, refl)
some_fields (Field pattern separator number value) = (_, _, refl)
some_fields (Insert block spot) = (_, _, refl)
some_fields (Replace pattern value all) = (_, _, refl)

colon : IsSeparator 58
colon = record { low = omega arith; none = refl; no_digit = λ d lt. λ e. omega arith }

edits_tell : (edit other : Edit) → IsEdit edit → IsEdit other → edit_text edit ≡ edit_text other → edit ≡ other
edits_tell edit other is is' e =
    let f = some_fields edit in
    let g = some_fields other in
    let all = rw f.2 at (fields_lack 58 edit colon (λ e. omega arith) is) in
    let all' = rw g.2 at (fields_lack 58 other colon (λ e. omega arith) is') in
    let joined : join_with_byte 58 (f.0 ∷ f.1) ≡ join_with_byte 58 (g.0 ∷ g.1) = ap (join_with_byte 58) (sym f.2) ∙ e ∙ ap (join_with_byte 58) g.2 in
    fields_tell edit other is is' (f.2 ∙ joined_tells 58 f.0 g.0 f.1 g.1 all all' joined ∙ sym g.2)

all_edits_tell : (edits others : List Edit) → All IsEdit edits → All IsEdit others → map edit_text edits ≡ map edit_text others → edits ≡ others
all_edits_tell [] [] all all' e = refl
all_edits_tell [] (f ∷ fs) all all' e = absurd cc
all_edits_tell (f ∷ fs) [] all all' e = absurd cc
all_edits_tell (f ∷ fs) (g ∷ gs) all all' e =
    let heads : edit_text f ≡ edit_text g = cc in
    let tails : map edit_text fs ≡ map edit_text gs = cc in
    ap₂ (λ x xs. x ∷ xs) (edits_tell f g (All-head IsEdit f fs all) (All-head IsEdit g gs all') heads)
    (all_edits_tell fs gs (All-tail IsEdit f fs all) (All-tail IsEdit g gs all') tails)

-- the text of an edit isn't empty, nor is one that begins with it
some_text : (edit : Edit) → (b : ℕ) × (bs : List ℕ) × (edit_text edit ≡ b ∷ bs)
some_text (Delete pattern) = (_, _, refl)
some_text (Field pattern separator number value) = (_, _, refl)
some_text (Insert block spot) = (_, _, refl)
some_text (Replace pattern value all) = (_, _, refl)

not_empty : (edit : Edit) (texts : List (List ℕ)) → [] ≡ join_with_byte 44 (edit_text edit ∷ texts) → ⊥
not_empty edit [] e = let t = some_text edit in let is = t.2 in cc
not_empty edit (next ∷ texts) e = let t = some_text edit in let f : [] ≡ (t.0 ∷ t.1) ++ (44 ∷ join_with_byte 44 (next ∷ texts)) = e ∙ ap (λ x. x ++ (44 ∷ join_with_byte 44 (next ∷ texts))) t.2 in cc

pub scripts_tell : TextsTellScripts
unfolding script_text
scripts_tell [] [] is is' e = refl
scripts_tell [] (g ∷ gs) is is' e = absurd (not_empty g (map edit_text gs) e)
scripts_tell (f ∷ fs) [] is is' e = absurd (not_empty f (map edit_text fs) (sym e))
scripts_tell (f ∷ fs) (g ∷ gs) is is' e =
    all_edits_tell (f ∷ fs) (g ∷ gs) is.each is'.each
    (joined_tells 44 (edit_text f) (edit_text g) (map edit_text fs) (map edit_text gs)
    (texts_lack 44 (f ∷ fs) comma (λ x. omega arith) (λ x. omega arith) is.each) (texts_lack 44 (g ∷ gs) comma (λ x. omega arith) (λ x. omega arith) is'.each) e)
