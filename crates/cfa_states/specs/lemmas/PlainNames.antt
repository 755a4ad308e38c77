-- The names of shared scopes have no newline, since they are words.
use Rattle.std.proofs.Common.{◌≡◌, ℕ, Bool, true, false, List, [], ◌∷◌, ◌++◌, map, All, refl, sym, subst}
use Rattle.std.specs.Prelude.{◌||◌, if◌then◌else◌}
use Rattle.std.specs.List.{Contains}
use Rattle.std.specs.Str.{bytes_eq}
use Rattle.std.proofs.lemmas.List.Elements.{All-append, All-cons, All-head, All-nil, All-tail}
use Rattle.std.proofs.lemmas.Slice.Eq.{bytes_eq-Decides}
use Rattle.cfa_served.specs.Control.{sequence_of}
use Rattle.cfa_schema.specs.Laws.{IsWord, HasWordName, WordsLackNewlines, CommonNamesAreWords, SequenceNamesAreWords}
use Rattle.cfa_served.specs.Served.{common_bundles_of}
use Rattle.cfa_schema.specs.Sourced.{IsSourced}
use Rattle.cfa_schema.specs.Valid.{Valid}
use Rattle.cfa_tree.specs.Tree.{BlockTree, bundle, body, PolicyTree}
use Rattle.cfa_base.specs.Index.{is_listed}
use Rattle.cfa_states.specs.Levels.{HasPlainNames}
use Rattle.cfa_states.specs.Numbered.{name_of}
use Rattle.cfa_states.specs.Views.{joined_once, shared_names}

joined_by : (b : Bool) (names : List (List ℕ)) (name : List ℕ) → All IsWord names → IsWord name → All IsWord (if b then names else names ++ name ∷ [])
joined_by true names name words word = words
joined_by false names name words word = All-append IsWord names (name ∷ []) words (All-cons IsWord name [] word (All-nil IsWord))

joined_words : (names more : List (List ℕ)) → All IsWord names → All IsWord more → All IsWord (joined_once names more)
joined_words names [] words rest = words
joined_words names (name ∷ more) words rest =
    joined_words (if is_listed names name then names else names ++ name ∷ []) more
    (joined_by (is_listed names name) names name words (All-head IsWord name more rest)) (All-tail IsWord name more rest)

named_words : (blocks : List BlockTree) → All HasWordName blocks → All IsWord (map name_of blocks)
named_words [] words = All-nil IsWord
named_words (bundle type_name named params sections place ∷ blocks) words =
    All-cons IsWord named.name (map name_of blocks) (All-head HasWordName _ blocks words) (named_words blocks (All-tail HasWordName _ blocks words))
named_words (body type_name named params attributes place ∷ blocks) words =
    All-cons IsWord named.name (map name_of blocks) (All-head HasWordName _ blocks words) (named_words blocks (All-tail HasWordName _ blocks words))

lacks_by : (b rest : Bool) → (b ≡ true → ⊥) → rest ≡ false → (b || rest) ≡ false
lacks_by true rest never more = absurd (never refl)
lacks_by false rest never more = more

not_listed : WordsLackNewlines → (names : List (List ℕ)) (path : List ℕ) → All IsWord names → Contains path 10 → is_listed names path ≡ false
not_listed lack [] path words newline = refl
not_listed lack (name ∷ names) path words newline =
    lacks_by (bytes_eq name path) (is_listed names path)
    (λ same. lack name (All-head IsWord name names words) (subst (λ (p : List ℕ). Contains p 10) (sym ((bytes_eq-Decides name path).0 same)) newline))
    (not_listed lack names path (All-tail IsWord name names words) newline)

pub plain_names : (policy : PolicyTree) → WordsLackNewlines → CommonNamesAreWords → SequenceNamesAreWords → Valid policy → IsSourced policy → HasPlainNames policy
unfolding shared_names
plain_names policy lack common sequence valid sourced = λ path newline.
    not_listed lack (joined_once [] (map name_of (common_bundles_of policy) ++ sequence_of policy)) path
    (joined_words [] (map name_of (common_bundles_of policy) ++ sequence_of policy) (All-nil IsWord)
    (All-append IsWord (map name_of (common_bundles_of policy)) (sequence_of policy)
    (named_words (common_bundles_of policy) (common policy sourced)) (sequence policy valid sourced))) newline
