-- Of the code alone: where it takes a value to stand, a value with its parts borrowed, and the table of an attribute.
use Rattle.cfa_values.specs.declared.context.Home.{Home}
use Rattle.cfa_values.specs.declared.context.Home.TheVariants.{Bundle, Body}
use Rattle.cfa_values.specs.declared.context.Context.{Context}
use Rattle.cfa_values.specs.Scope.{Where, in_bundle, in_body}
use Rattle.cfa_values.specs.Values.{Setting}
use Rattle.std.specs.Prelude.{map, ℕ, List, Option}
use Rattle.cfa_tree.specs.Plain.{plain_value}
use Rattle.cfa_tree.specs.Tree.{ValueTree, text, word, reference, list_reference, list, call, value_trees}
use Rattle.cfa_values.specs.declared.shapes.Shape.{Shape}
use Rattle.cfa_values.specs.declared.shapes.Shape.TheVariants as shapes
use Rattle.cfa_values.specs.declared.attributes.Table.{Table}
use Rattle.cfa_values.specs.declared.attributes.Table.TheVariants.{OfPromise, OfBody}
use Rattle.cfa_kinds.specs.declared.kinds.Kind.{Kind}
use Rattle.cfa_kinds.specs.Kinds.{promise_attribute, body_attribute}

abbrev pub seen_home : Home → Where
seen_home (Bundle own) = in_bundle own.now
seen_home (Body params) = in_body params.now

abbrev pub seen_context : Context → Setting
seen_context c = record { definitions = c.definitions.now; home = seen_home c.home }

abbrev pub shaped : Shape → ValueTree
shaped (shapes.Text content place) = text content.now place
shaped (shapes.Word name place) = word name.now place
shaped (shapes.Reference name place) = reference name.now place
shaped (shapes.ListReference name place) = list_reference name.now place
shaped (shapes.List items place) = list (value_trees (map plain_value items.now)) place
shaped (shapes.Call name arguments place) = call name.now (value_trees (map plain_value arguments.now)) place

abbrev pub kind_in : Table → List ℕ → Option Kind
kind_in (OfPromise type) name = promise_attribute type name
kind_in (OfBody type) name = body_attribute type name
