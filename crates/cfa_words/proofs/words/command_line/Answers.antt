use Rattle.std.proofs.Common.{ap, ap₂, Bool, true, codes, ℕ, Some, ◌≡◌, ◌∙◌}
use Rattle.std.proofs.lemmas.Result.{IfOk-weaker}
use Rattle.clap.specs.Words.{App, Rule, Text, app_of, rule_of, with_rule}
use Rattle.clap.specs.Simple.{app_of_fields}
use Rattle.clap.specs.declared.builder.arg.Arg.{Arg}
use Rattle.clap.specs.declared.builder.ArgAction.TheVariants.{SetTrue}
use Rattle.cfa_words.specs.OfTheCode.{argument_rule, bare_line, command_rule, define_rule, no_lock_rule, strict_rule}
use Rattle.cfa_words.proofs.words.command_line.Goals as goal

abbrev without_name : App → App
without_name a = record a { top = record a.top { no_binary_name = true } }

abbrev without_help : App → App
without_help a = record a { top = record a.top { disable_help_flag = true } }

abbrev without_version : App → App
without_version a = record a { top = record a.top { disable_version_flag = true } }

abbrev needed : Rule → Rule
needed r = record r { required = true }

abbrev with_short : ℕ → Rule → Rule
with_short x r = record r { short = Some x }

abbrev with_long : Text → Rule → Rule
with_long name r = record r { long = Some name }

abbrev as_flag : Rule → Rule
as_flag r = record r { action = Some SetTrue }

abbrev is_global : Arg → Bool
is_global a = a.global

pub returns : goal.returns
returns c =
    let command_is : rule_of c.required.result ≡ command_rule = ap rule_of c.required.ensures ∙ ap needed c.new-2.ensures.rule in
    let argument_is : rule_of c.required-2.result ≡ argument_rule = ap rule_of c.required-2.ensures ∙ ap needed c.new-3.ensures.rule in
    let no_lock_is : rule_of c.action.result ≡ no_lock_rule = ap rule_of c.action.ensures
    ∙ ap as_flag (ap rule_of c.long.ensures ∙ ap (with_long (codes "no-lock")) (ap rule_of c.short.ensures ∙ ap (with_short 75) c.new-5.ensures.rule)) in
    let strict_is : rule_of c.action-2.result ≡ strict_rule = ap rule_of c.action-2.ensures
    ∙ ap as_flag (ap rule_of c.long-2.ensures ∙ ap (with_long (codes "strict")) c.new-6.ensures.rule) in
    let define_is : rule_of c.long-3.result ≡ define_rule = ap rule_of c.long-3.ensures
    ∙ ap (with_long (codes "define")) (ap rule_of c.short-2.ensures ∙ ap (with_short 68) c.new-7.ensures.rule) in
    let bare : app_of c.disable_version_flag.result ≡ bare_line = ap app_of_fields c.disable_version_flag.ensures
    ∙ ap without_version (ap app_of_fields c.disable_help_flag.ensures
    ∙ ap without_help (ap app_of_fields c.no_binary_name.ensures ∙ ap without_name c.new.ensures.app)) in
    let one = c.in_ok-arg.ensures.shape (ap is_global c.required.ensures ∙ c.new-2.ensures.optional.1) ∙ ap₂ with_rule bare command_is in
    let two = c.in_ok-arg-2.ensures.shape (ap is_global c.required-2.ensures ∙ c.new-3.ensures.optional.1) ∙ ap₂ with_rule one argument_is in
    let three = c.in_ok-arg-3.ensures.shape c.new-4.ensures.optional.1 ∙ ap₂ with_rule two c.new-4.ensures.rule in
    let four = c.in_ok-arg-4.ensures.shape (ap is_global c.action.ensures ∙ (ap is_global c.long.ensures ∙ (ap is_global c.short.ensures ∙ c.new-5.ensures.optional.1))) ∙ ap₂ with_rule three no_lock_is in
    let five = c.in_ok-arg-5.ensures.shape (ap is_global c.action-2.ensures ∙ (ap is_global c.long-2.ensures ∙ c.new-6.ensures.optional.1)) ∙ ap₂ with_rule four strict_is in
    IfOk-weaker c.arg-6.result _ _ (λ m h. h.shape (ap is_global c.long-3.ensures ∙ (ap is_global c.short-2.ensures ∙ c.new-7.ensures.optional.1)) ∙ ap₂ with_rule five define_is) c.arg-6.ensures
