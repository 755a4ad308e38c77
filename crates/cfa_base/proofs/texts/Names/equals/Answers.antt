use Rattle.std.proofs.Common.{◌∙◌, sym}
use Rattle.std.proofs.lemmas.Slice.Eq.{bytes_eq-Decides, slice_eq-Decides}
use Rattle.cfa_base.proofs.texts.Names.equals.Goals as goal

pub returns : goal.returns
returns c =
    let decides = slice_eq-Decides bytes_eq-Decides c.as_slice.result.now c.as_slice-2.result.now c.are_same_names.result c.are_same_names.ensures in
    (λ same. sym c.as_slice.ensures ∙ decides.0 same ∙ c.as_slice-2.ensures, λ equal. decides.1 (c.as_slice.ensures ∙ equal ∙ sym c.as_slice-2.ensures))
