use Rattle.std.proofs.Common.{◌∙◌, sym}
use Rattle.std.proofs.lemmas.Slice.Eq.{bytes_eq-Decides, slice_eq-Decides}
use Rattle.cfa_states.proofs.ChangingLemmas.{texts_alike, lists_alike, text_no_list, list_no_text}
use Rattle.cfa_states.proofs.changing.is_same_datum.Goals as goal

pub returns-in-Text-other : goal.returns-in-Text-other
returns-in-Text-other c = texts_alike _ _ _ _ _ c.in-Text.is c.in-Text-other.is c.is_same_name.ensures

pub returns-in-List-other : goal.returns-in-List-other
returns-in-List-other c = text_no_list _ _ _ _ c.in-Text.is c.in-List-other.is

pub returns-in-Text-other-2 : goal.returns-in-Text-other-2
returns-in-Text-other-2 c = list_no_text _ _ _ _ c.in-List.is c.in-Text-other-2.is

pub returns-in-List-other-2 : goal.returns-in-List-other-2
returns-in-List-other-2 c =
    let decides = slice_eq-Decides bytes_eq-Decides c.as_slice.result.now c.as_slice-in-List-other-2.result.now c.are_same_names.result c.are_same_names.ensures in
    lists_alike _ _ c.in-List.items c.in-List-other-2.held _ c.in-List.is c.in-List-other-2.is (
      λ same. sym c.as_slice.ensures ∙ decides.0 same ∙ c.as_slice-in-List-other-2.ensures,
      λ equal. decides.1 (c.as_slice.ensures ∙ equal ∙ sym c.as_slice-in-List-other-2.ensures),
    )
