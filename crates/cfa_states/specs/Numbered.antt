-- The promises of a bundle, each with its id and its type, in text order, and the order of types.
pub use Rattle.cfa_scripts.specs.Numbered.{Numbered, numbered_as, numbered_from, numbered_in, params_of, name_of, agent_types, common_types, is_type, of_type}
