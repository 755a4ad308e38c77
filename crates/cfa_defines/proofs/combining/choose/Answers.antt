use Rattle.std.proofs.Common.{◌∙◌, ap, sym}
use Rattle.std.specs.List.{list_any}
use Rattle.cfa_vars.specs.Scopes.{in_scope}
use Rattle.cfa_vars.specs.Choices.{choices_of}
use Rattle.cfa_defines.specs.OwnTexts.{first_lacking, is_long_list}
use Rattle.cfa_defines.proofs.ReadLemmas.{none_where_lacking, none_where_long, never_unresolved, none_where_many, all_found}
use Rattle.cfa_defines.proofs.combining.choose.Goals as goal

pub returns-in-Some : goal.returns-in-Some
returns-in-Some c =
    let scopes = in_scope c.args.scopes.now in
    none_where_lacking scopes c.args.reads.items _ (sym (c.in-Some.ensures ∙ ap (first_lacking scopes) c.deref.ensures.value))

pub returns-then-has_long_list : goal.returns-then-has_long_list
returns-then-has_long_list c =
    let scopes = in_scope c.args.scopes.now in
    let none = sym (c.in_default.ensures ∙ ap (first_lacking scopes) c.deref.ensures.value) in
    let long = sym (sym c.if-has_long_list.true ∙ c.has_long_list.ensures ∙ ap (list_any (is_long_list scopes)) c.deref-2.ensures.value) in
    none_where_long scopes c.args.reads.items none long

pub returns-in-Unresolved : goal.returns-in-Unresolved
returns-in-Unresolved c =
    let scopes = in_scope c.args.scopes.now in
    let none = sym (c.in_default.ensures ∙ ap (first_lacking scopes) c.deref.ensures.value) in
    let told = sym c.in-Unresolved.is ∙ c.in_ok-combinations.ensures ∙ ap (choices_of scopes) c.deref-3.ensures.value in
    absurd (never_unresolved scopes c.args.reads.items c.in_ok-texts.texts.items none c.in_ok-texts.ensures _ told)

pub returns-in-TooMany : goal.returns-in-TooMany
returns-in-TooMany c =
    let scopes = in_scope c.args.scopes.now in
    let none = sym (c.in_default.ensures ∙ ap (first_lacking scopes) c.deref.ensures.value) in
    let short = sym (sym c.if-has_long_list.false ∙ c.has_long_list.ensures ∙ ap (list_any (is_long_list scopes)) c.deref-2.ensures.value) in
    let told = sym c.in-TooMany.is ∙ c.in_ok-combinations.ensures ∙ ap (choices_of scopes) c.deref-3.ensures.value in
    none_where_many scopes c.args.reads.items c.in_ok-texts.texts.items none c.in_ok-texts.ensures short told

pub returns : goal.returns
returns c =
    let scopes = in_scope c.args.scopes.now in
    let none = sym (c.in_default.ensures ∙ ap (first_lacking scopes) c.deref.ensures.value) in
    let short = sym (sym c.if-has_long_list.false ∙ c.has_long_list.ensures ∙ ap (list_any (is_long_list scopes)) c.deref-2.ensures.value) in
    let told = sym c.in-Found.is ∙ c.in_ok-combinations.ensures ∙ ap (choices_of scopes) c.deref-3.ensures.value in
    all_found scopes c.args.reads.items c.in_ok-texts.texts.items none c.in_ok-texts.ensures c.in-Found.choices short told
