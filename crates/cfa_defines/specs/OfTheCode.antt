-- Of the code alone: what several expressions say together and in a context, the texts among what a promise reads, and what is
-- read as it is.
use Rattle.std.specs.Prelude.{ℕ, Bool, true, not, List, [], Option, Some, None}
use Rattle.std.specs.List.{list_any}
use Rattle.cfa_statuses.specs.declared.levels.Status.{Status}
use Rattle.cfa_statuses.specs.Status.{lesser, greater}
use Rattle.cfa_defines.specs.declared.saying.Said.{Said}
use Rattle.cfa_defines.specs.declared.saying.Join.{Join}
use Rattle.cfa_defines.specs.declared.saying.Join.TheVariants.{All as of_all, One as of_one}
use Rattle.cfa_defines.specs.ClassPromises.{all_said, one_said, value_said, items_by, items_said, list_said, expressed}
use Rattle.cfa_vars.specs.Scopes.{InScope, in_scope}
use Rattle.cfa_vars.specs.Expansion.{Chosen, is_done, expanded}
use Rattle.cfa_defines.specs.declared.reads.Read.{Read}
use Rattle.cfa_defines.specs.declared.reads.Read.TheVariants.{Text as a_text, List as a_list}
use Rattle.cfa_defines.specs.OwnTexts.{is_past_limit}
use Rattle.cfa_tree.specs.Tree.{ValueTree, ValueTrees, PromiseTree}
use Rattle.cfa_statuses.specs.Raised.{greater_in}
use Rattle.cfa_functions.specs.Calls.{referred_list}
use Rattle.cfa_defines.specs.declared.expressions.Context.{Context}

-- What several expressions say together, by how they are taken.

abbrev pub operation : Join → Status → Status → Status
operation of_all = lesser
operation of_one = greater

abbrev pub together : Join → List Said → Said
together of_all said = all_said said
together of_one said = one_said said

-- The texts among what a promise reads, which alone may be too long.

abbrev pub text_read : Read → Option (List ℕ)
text_read (a_text content) = Some content
text_read (a_list name) = None

abbrev pub has_text_too_long : InScope → List (List ℕ) → Chosen → Bool
has_text_too_long scopes texts choice = list_any (λ content. is_past_limit (expanded scopes choice content)) texts

-- What is read as it is where no item of a list is chosen.

-- a list, or a text that doesn't expand where no item of a list is chosen
abbrev pub needs_choice : InScope → Read → Bool
needs_choice scopes (a_text content) = not (is_done (expanded scopes [] content))
needs_choice scopes (a_list name) = true

-- What expressions say in a context, without where it lies in memory.

abbrev pub variables_of : Context → InScope
variables_of context = in_scope context.scopes

abbrev pub status_of : Context → List ℕ → Status
status_of context = greater_in context.global.now context.local.now

abbrev pub value_in : Context → ValueTree → Said
value_in context value = value_said (status_of context) (variables_of context) context.choice.now value

abbrev pub item_in : Context → ValueTree → List Said
item_in context item = items_by (status_of context) (variables_of context) context.choice.now (referred_list item) (value_in context item)

abbrev pub items_in : Context → ValueTrees → List Said
items_in context items = items_said (status_of context) (variables_of context) context.choice.now items

abbrev pub list_in : Context → ValueTree → List Said
list_in context value = list_said (status_of context) (variables_of context) context.choice.now value

abbrev pub expressed_in : Context → PromiseTree → Said
expressed_in context promise = expressed (status_of context) (variables_of context) promise context.choice.now
