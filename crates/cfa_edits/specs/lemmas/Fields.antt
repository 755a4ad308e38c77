-- The fields of an edit lack each separator other than a plus sign, and so do the texts of edits each other than a colon too.
use Rattle.std.proofs.Common.{◌≡◌, ◌≢◌, ℕ, ◌≤◌, true, false, List, [], ◌∷◌, map, codes, refl, arith, All}
use Rattle.std.specs.Prelude.{encode_utf8}
use Rattle.std.specs.Fmt.{decimal}
use Rattle.std.proofs.lemmas.List.Elements.{All-nil, All-cons, All-head, All-tail}
use Rattle.cfa_base.specs.Escapes.{escaped, is_field_byte}
use Rattle.cfa_base.specs.Lacking.{Lacks}
use Rattle.cfa_edits.specs.lemmas.Parts.{lacks_joined, IsSeparator, lacks_word, lacks_escaped, all_escaped, lacks_decimal}
use Rattle.cfa_edits.specs.Scripts.{IsEdit, spot_name, spot_pattern, block_text, edit_fields, edit_text}
use Rattle.cfa_edits.specs.declared.edits.Edit.{Edit}
use Rattle.cfa_edits.specs.declared.edits.Edit.TheVariants.{Delete, Field, Insert, Replace}
use Rattle.cfa_edits.specs.declared.edits.Spot.{Spot}
use Rattle.cfa_edits.specs.declared.edits.Spot.TheVariants.{Start, End, Before, After}

lacks_spot : (c : ℕ) (spot : Spot) → is_field_byte c ≡ false → Lacks c (spot_name spot)
lacks_spot c Start none = lacks_word c (codes "start") none refl
lacks_spot c End none = lacks_word c (codes "end") none refl
lacks_spot c (Before pattern true) none = lacks_word c (codes "before-first") none refl
lacks_spot c (Before pattern false) none = lacks_word c (codes "before-last") none refl
lacks_spot c (After pattern true) none = lacks_word c (codes "after-first") none refl
lacks_spot c (After pattern false) none = lacks_word c (codes "after-last") none refl

pub all_two : (c : ℕ) (x y : List ℕ) → Lacks c x → Lacks c y → All (Lacks c) (x ∷ y ∷ [])
all_two c x y h i = All-cons (Lacks c) x (y ∷ []) h (All-cons (Lacks c) y [] i (All-nil (Lacks c)))

pub all_four : (c : ℕ) (w x y z : List ℕ) → Lacks c w → Lacks c x → Lacks c y → Lacks c z → All (Lacks c) (w ∷ x ∷ y ∷ z ∷ [])
all_four c w x y z h i j k = All-cons (Lacks c) w (x ∷ y ∷ z ∷ []) h (All-cons (Lacks c) x (y ∷ z ∷ []) i (all_two c y z j k))

-- no field of an edit has a separator, other than a plus sign
pub fields_lack : (c : ℕ) (edit : Edit) → IsSeparator c → 43 ≢ c → IsEdit edit → All (Lacks c) (edit_fields edit)
fields_lack c (Delete pattern) s ne is =
    all_two c (codes "d") (escaped pattern.text) (lacks_word c (codes "d") s.none refl) (lacks_escaped c pattern.text s)
fields_lack c (Field pattern separator number value) s ne is =
    All-cons (Lacks c) (codes "f") (escaped pattern.text ∷ escaped (encode_utf8 separator) ∷ decimal number ∷ escaped value ∷ []) (lacks_word c (codes "f") s.none refl)
    (all_four c (escaped pattern.text) (escaped (encode_utf8 separator)) (decimal number) (escaped value)
    (lacks_escaped c pattern.text s) (lacks_escaped c (encode_utf8 separator) s) (let few : number ≤ 999 = is.2 in lacks_decimal c number s (omega arith)) (lacks_escaped c value s))
fields_lack c (Insert block spot) s ne is =
    all_four c (codes "i") (spot_name spot) (escaped (spot_pattern spot)) (block_text block)
    (lacks_word c (codes "i") s.none refl) (lacks_spot c spot s.none) (lacks_escaped c (spot_pattern spot) s)
    (lacks_joined c 43 (map escaped block) ne (all_escaped c block s))
fields_lack c (Replace pattern value true) s ne is =
    all_four c (codes "r") (codes "all") (escaped pattern.text) (escaped value)
    (lacks_word c (codes "r") s.none refl) (lacks_word c (codes "all") s.none refl) (lacks_escaped c pattern.text s) (lacks_escaped c value s)
fields_lack c (Replace pattern value false) s ne is =
    all_four c (codes "r") (codes "first") (escaped pattern.text) (escaped value)
    (lacks_word c (codes "r") s.none refl) (lacks_word c (codes "first") s.none refl) (lacks_escaped c pattern.text s) (lacks_escaped c value s)

-- nor does the text of an edit, other than a plus sign and a colon
pub texts_lack : (c : ℕ) (edits : List Edit) → IsSeparator c → 43 ≢ c → 58 ≢ c → All IsEdit edits → All (Lacks c) (map edit_text edits)
texts_lack c [] s plus colon all = All-nil (Lacks c)
texts_lack c (edit ∷ edits) s plus colon all =
    All-cons (Lacks c) (edit_text edit) (map edit_text edits)
    (lacks_joined c 58 (edit_fields edit) colon (fields_lack c edit s plus (All-head IsEdit edit edits all)))
    (texts_lack c edits s plus colon (All-tail IsEdit edit edits all))
