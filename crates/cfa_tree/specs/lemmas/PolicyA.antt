-- A policy worked by hand: one file that is to be created.
--
--     bundle agent main
--     {
--       files:
--         "/etc/motd" create => "true";
--     }
use Rattle.std.proofs.Common.{ℕ, List, [], ◌∷◌, ◌++◌, None, codes}
use Rattle.cfa_base.specs.declared.places.Place.{Place}
use Rattle.cfa_base.specs.declared.tokens.Kind.TheVariants.{Word, Text, FatArrow, Colon, Semicolon, OpenBrace, CloseBrace}
use Rattle.cfa_base.specs.Tokens.{Token}
use Rattle.cfa_tree.specs.Tree.{PolicyTree, bundle, text}
use Rattle.cfa_tree.specs.Grammar.{token, depth_limit, ReadsWithin, no_block, a_bundle, no_params, a_section, no_section, a_promise, no_promise, no_promisee, last_attribute, attribute, an_item, a_text}

abbrev at : (line col : ℕ) → Place
at line col = record { file = 0; line = line; col = col }

abbrev quoted : List ℕ → List ℕ
quoted content = 34 ∷ content ++ 34 ∷ []

abbrev pub tokens_a : List Token
tokens_a =
    token Word (codes "bundle") (at 1 1) ∷ token Word (codes "agent") (at 1 8) ∷ token Word (codes "main") (at 1 14)
    ∷ token OpenBrace (codes "{") (at 2 1)
    ∷ token Word (codes "files") (at 3 3) ∷ token Colon (codes ":") (at 3 8)
    ∷ token Text (quoted (codes "/etc/motd")) (at 4 5) ∷ token Word (codes "create") (at 4 17) ∷ token FatArrow (codes "=>") (at 4 24) ∷ token Text (quoted (codes "true")) (at 4 27) ∷ token Semicolon (codes ";") (at 4 33)
    ∷ token CloseBrace (codes "}") (at 5 1)
    ∷ []

abbrev pub tree_a : PolicyTree
tree_a =
    bundle (record { name = codes "agent"; place = at 1 8 }) (record { name = codes "main"; place = at 1 14 }) []
    (record {
      kind = codes "files";
      place = at 3 3;
      promises =
          record {
            guard = None;
            promiser = codes "/etc/motd";
            promisee = None;
            place = at 4 5;
            attributes =
                record { name = codes "create"; value = text (codes "true") (at 4 27); place = at 4 17 } ∷ [];
          } ∷ [];
    } ∷ [])
    (at 1 1) ∷ []

pub reads_a : ReadsWithin depth_limit tokens_a tree_a
reads_a = a_bundle no_params (a_section (a_promise no_promisee (last_attribute (attribute (an_item a_text))) no_promise) no_section) no_block
