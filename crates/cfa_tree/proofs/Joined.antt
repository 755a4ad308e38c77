-- The blocks of one policy more.
use Rattle.std.proofs.Common.{◌≡◌, List, [], ◌∷◌, ◌++◌, map, ap, ◌∙◌, sym, append-nil}
use Rattle.std.specs.List.{flat_map}
use Rattle.std.proofs.lemmas.List.{map-append}
use Rattle.std.proofs.lemmas.Grind.{flat_map-append}
use Rattle.cfa_tree.specs.declared.blocks.Block.{Block}
use Rattle.cfa_tree.specs.declared.blocks.Policy.{Policy}
use Rattle.cfa_tree.specs.Plain.{plain_block, plain_policy}

pub joined_more : (old now more : List Block) (parts : List Policy) (part : Policy) → now ≡ old ++ more → more ≡ part.blocks → map plain_block old ≡ flat_map plain_policy parts →
    map plain_block now ≡ flat_map plain_policy (parts ++ part ∷ [])
joined_more old now more parts part added is so_far =
    ap (map plain_block) (added ∙ ap (λ z. old ++ z) is)
    ∙ (map-append plain_block old part.blocks
    ∙ (ap (λ z. z ++ plain_policy part) so_far
    ∙ (ap (λ z. flat_map plain_policy parts ++ z) (sym (append-nil (plain_policy part)))
    ∙ sym (flat_map-append plain_policy parts (part ∷ [])))))
