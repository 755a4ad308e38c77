-- The machine is the grammar: it comes to the end of exactly the texts that the grammar reads, it stops at the first token
-- with which no policy begins, and a text has one tree.
use Rattle.std.proofs.Common.{◌≡◌, List, [], ◌∷◌, ◌++◌, Option, Some, None, refl, ap, ◌∙◌, sym, subst, append-nil}
use Rattle.cfa_base.specs.Tokens.{Token}
use Rattle.cfa_tree.specs.Tree.{PolicyTree}
use Rattle.cfa_tree.specs.Grammar.{Levels, unlimited, ReadsWithin, BeginsWithin, no_block}
use Rattle.cfa_parser.specs.Machine.{State, between_blocks, Machine, start, machine, whole, step, run}
use Rattle.cfa_parser.proofs.PolicyRuns.{reads_run}
use Rattle.cfa_parser.proofs.PolicyRest.{before_block, rest_reads, alive}
use Rattle.cfa_parser.proofs.Limits.{run_none, run_beyond}

pub run_append : (limit : Levels) (o : Option Machine) (ts us : List Token) → run limit o (ts ++ us) ≡ run limit (run limit o ts) us
run_append limit None [] us = refl
run_append limit None (t ∷ ts) us = sym (run_none limit us)
run_append limit (Some m) [] us = refl
run_append limit (Some m) (t ∷ ts) us = run_append limit (step limit m t) ts us

abbrev blocks_of : Option Machine → PolicyTree
blocks_of None = []
blocks_of (Some m) = m.blocks

-- a text has at most one tree
pub one_tree : (limit other : Levels) (ts : List Token) (a b : PolicyTree) → ReadsWithin limit ts a → ReadsWithin other ts b → a ≡ b
one_tree limit other ts a b r q =
    let first : run unlimited (Some start) ts ≡ Some (machine a between_blocks) = run_beyond limit ts start (machine a between_blocks) (reads_run r) in
    let second : run unlimited (Some start) ts ≡ Some (machine b between_blocks) = run_beyond other ts start (machine b between_blocks) (reads_run q) in
    ap blocks_of (sym first ∙ second)

whole_is : (m : Machine) (tree : PolicyTree) → whole m ≡ Some tree → m ≡ machine tree between_blocks
whole_is m tree is = by_state m.blocks m.state is
  where
    by_state : (blocks : PolicyTree) (state : State) → whole (machine blocks state) ≡ Some tree → machine blocks state ≡ machine tree between_blocks
    by_state blocks between_blocks e = cc
    by_state blocks _ e = absurd (cc)

-- what the machine reads to its end is that policy
pub whole_reads : (limit : Levels) (ts : List Token) (m : Machine) (tree : PolicyTree) → run limit (Some start) ts ≡ Some m → whole m ≡ Some tree → ReadsWithin limit ts tree
whole_reads limit ts m tree is ends =
    let there : run limit (Some start) ts ≡ Some (machine tree between_blocks) = is ∙ ap (λ z. Some z) (whole_is m tree ends) in
    let r : ReadsWithin limit (ts ++ []) (tree ++ []) = rest_reads limit ts [] (machine tree between_blocks) (tree ++ []) there (before_block no_block) in
    subst (λ z. ReadsWithin limit z tree) (append-nil ts) (subst (λ z. ReadsWithin limit (ts ++ []) z) (append-nil tree) r)

-- where the machine has come, a policy begins
pub run_begins : (limit : Levels) (ts : List Token) (m : Machine) → run limit (Some start) ts ≡ Some m → BeginsWithin limit ts
run_begins limit ts m is =
    let later = alive limit m.blocks m.state in
    (later.0, later.1, rest_reads limit ts later.0 m later.1 is later.2)

-- where it stops, none begins
pub stop_ends : (limit : Levels) (ts : List Token) (t : Token) (m : Machine) → run limit (Some start) ts ≡ Some m → step limit m t ≡ None → ¬ BeginsWithin limit (ts ++ t ∷ [])
stop_ends limit ts t m is stops = λ begins.
    let whole : run limit (Some start) ((ts ++ t ∷ []) ++ begins.0) ≡ Some (machine begins.1 between_blocks) = reads_run begins.2 in
    let stuck : run limit (Some start) ((ts ++ t ∷ []) ++ begins.0) ≡ None =
    run_append limit (Some start) (ts ++ t ∷ []) begins.0
    ∙ (ap (λ z. run limit z begins.0) (run_append limit (Some start) ts (t ∷ []) ∙ (ap (λ z. run limit z (t ∷ [])) is ∙ (ap (λ z. run limit z []) stops ∙ run_none limit [])))
    ∙ run_none limit begins.0) in
    cc

-- where it isn't at the end of a block, the tokens are no policy
pub unended : (limit : Levels) (ts : List Token) (m : Machine) (tree : PolicyTree) → run limit (Some start) ts ≡ Some m → whole m ≡ None → ¬ ReadsWithin limit ts tree
unended limit ts m tree is open_yet = λ r.
    let there : Some m ≡ Some (machine tree between_blocks) = sym is ∙ reads_run r in
    let same : m ≡ machine tree between_blocks = cc in
    let ends : whole m ≡ Some tree = ap whole same in
    cc
