use Rattle.std.proofs.Common.{◌≡◌, ◌∙◌, ap, sym, subst, IfOk}
use Rattle.std.specs.List.{list_any}
use Rattle.cfa_vars.specs.Scopes.{in_scope}
use Rattle.cfa_vars.specs.Choices.{choices_of}
use Rattle.cfa_defines.specs.declared.combining.Combined.{Combined}
use Rattle.cfa_defines.specs.declared.combining.Combined.TheVariants.{Lacks as lacks}
use Rattle.cfa_defines.specs.OwnTexts.{first_lacking, is_long_list, found_or_too_long}
use Rattle.cfa_defines.specs.OfTheCode.{has_text_too_long}
use Rattle.cfa_defines.proofs.ReadLemmas.{reads_lack, long_list_is_too_many, never_unresolved, texts_are_too_many, texts_are_found}
use Rattle.cfa_defines.proofs.combining.combine_each.Goals as goal

pub returns-in-Some : goal.returns-in-Some
returns-in-Some c =
    let scopes = in_scope c.args.scopes.now in
    let here = c.in-Some.ensures ∙ ap (first_lacking scopes) c.deref.ensures.value in
    ap lacks c.in_ok-from_text.ensures ∙ reads_lack scopes c.args.reads.items c.in-Some.name.now (sym here)

pub returns-then-has_long_list : goal.returns-then-has_long_list
returns-then-has_long_list c =
    let scopes = in_scope c.args.scopes.now in
    let none = sym (c.in_default.ensures ∙ ap (first_lacking scopes) c.deref.ensures.value) in
    let long = sym (sym c.if-has_long_list.true ∙ c.has_long_list.ensures ∙ ap (list_any (is_long_list scopes)) c.deref-2.ensures.value) in
    long_list_is_too_many scopes c.args.reads.items none long

pub returns-in-Unresolved : goal.returns-in-Unresolved
returns-in-Unresolved c =
    let scopes = in_scope c.args.scopes.now in
    let none = sym (c.in_default.ensures ∙ ap (first_lacking scopes) c.deref.ensures.value) in
    let told = sym c.in-Unresolved.is ∙ c.in_ok-name.ensures ∙ ap (choices_of scopes) c.deref-3.ensures.value in
    absurd (never_unresolved scopes c.args.reads.items c.in_ok-texts.texts.items none c.in_ok-texts.ensures c.in-Unresolved.name told)

pub returns-in-TooMany : goal.returns-in-TooMany
returns-in-TooMany c =
    let scopes = in_scope c.args.scopes.now in
    let none = sym (c.in_default.ensures ∙ ap (first_lacking scopes) c.deref.ensures.value) in
    let short = sym (sym c.if-has_long_list.false ∙ c.has_long_list.ensures ∙ ap (list_any (is_long_list scopes)) c.deref-2.ensures.value) in
    let told = sym c.in-TooMany.is ∙ c.in_ok-name.ensures ∙ ap (choices_of scopes) c.deref-3.ensures.value in
    texts_are_too_many scopes c.args.reads.items c.in_ok-texts.texts.items none c.in_ok-texts.ensures short told

pub returns : goal.returns
returns c =
    let scopes = in_scope c.args.scopes.now in
    let none = sym (c.in_default.ensures ∙ ap (first_lacking scopes) c.deref.ensures.value) in
    let short = sym (sym c.if-has_long_list.false ∙ c.has_long_list.ensures ∙ ap (list_any (is_long_list scopes)) c.deref-2.ensures.value) in
    let told = sym c.in-Found.is ∙ c.in_ok-name.ensures ∙ ap (choices_of scopes) c.deref-3.ensures.value in
    let whole = texts_are_found scopes c.args.reads.items c.in_ok-texts.texts.items none c.in_ok-texts.ensures c.in-Found.choices short told in
    let same = ap (λ ts. found_or_too_long (list_any (has_text_too_long scopes ts) c.in-Found.choices) c.in-Found.choices) c.deref-in-Found.ensures.value in
    subst (λ (x : Combined). IfOk c.found_or_too_long.result (λ r. r ≡ x)) (same ∙ whole) c.found_or_too_long.ensures
