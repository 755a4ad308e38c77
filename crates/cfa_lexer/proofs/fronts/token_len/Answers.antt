use Rattle.std.proofs.Common.{◌≡◌, sym, ap, subst, arith, ◌∙◌, slice_index}
use Rattle.std.proofs.lemmas.List.{take_rest, get_or_past}
use Rattle.cfa_base.specs.declared.tokens.Kind.TheVariants.{Word}
use Rattle.cfa_lexer.specs.Fronts.{IsFront, TellsFront, symbol_of}
use Rattle.cfa_lexer.proofs.FrontTokens.{word_front, text_front, no_text, ref_front, no_ref, list_ref_front, no_list_ref}
use Rattle.cfa_lexer.proofs.Symbols.{symbol_front}
use Rattle.cfa_lexer.proofs.fronts.token_len.Goals as goal
use Rattle.cfa_lexer.proofs.fronts.token_len.Goals.{then-bytes-gt1, else-bytes-gt1}

pub returns-then-is_word_byte : goal.returns-then-is_word_byte
returns-then-is_word_byte c =
    subst (IsFront c.args.bytes.now Word) (sym c.word_len.ensures) (word_front c.args.bytes.now c.requires (sym c.is_word_byte.ensures ∙ c.if-is_word_byte.true))

pub returns-in_default : goal.returns-in_default
returns-in_default c = no_text c.args.bytes.now _ (take_rest c.args.bytes.now 1) c.requires (sym c.is_quote.ensures ∙ c.if-is_quote.true) c.in_default.ensures

pub returns-then-is_quote : goal.returns-then-is_quote
returns-then-is_quote c = text_front c.args.bytes.now _ c.in-Some.len (take_rest c.args.bytes.now 1) c.requires (sym c.is_quote.ensures ∙ c.if-is_quote.true) c.in-Some.ensures

pub returns-in_default-reference_len : goal.returns-in_default-reference_len
returns-in_default-reference_len c = no_ref c.args.bytes.now c.requires c.if-first-eq36.true c.in_default-reference_len.ensures

pub returns-then-first-eq36 : goal.returns-then-first-eq36
returns-then-first-eq36 c = ref_front c.args.bytes.now c.in-Some-reference_len.len c.if-first-eq36.true c.in-Some-reference_len.ensures

pub returns-in_default-reference_len-2 : goal.returns-in_default-reference_len-2
returns-in_default-reference_len-2 c = no_list_ref c.args.bytes.now c.requires c.if-first-eq64.true c.in_default-reference_len-2.ensures

pub returns-then-first-eq64 : goal.returns-then-first-eq64
returns-then-first-eq64 c = list_ref_front c.args.bytes.now c.in-Some-reference_len-2.len c.if-first-eq64.true c.in-Some-reference_len-2.ensures

pub returns : goal.returns
returns c =
    let second : c.if-bytes-gt1.second ≡ slice_index c.args.bytes.now 1 = elim c.if-bytes-gt1.branch [
      | then-bytes-gt1 w ↦ w.second-is
      | else-bytes-gt1 w ↦ w.second-is ∙ sym (get_or_past c.args.bytes.now 1 0 (omega arith))
    ] in
    let tells = symbol_front c.args.bytes.now c.requires (sym c.is_word_byte.ensures ∙ c.if-is_word_byte.false) (sym c.is_quote.ensures ∙ c.if-is_quote.false) c.if-first-eq36.false c.if-first-eq64.false in
    subst (TellsFront c.args.bytes.now) (sym (c.symbol.ensures ∙ ap (symbol_of (slice_index c.args.bytes.now 0)) second)) tells
