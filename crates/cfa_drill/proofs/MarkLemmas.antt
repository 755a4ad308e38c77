-- The marks of one turn among those of a log.
use Rattle.std.proofs.Common.{◌≡◌, ◌∙◌, ◌==◌, ℕ, suc, Bool, true, false, List, [], ◌∷◌, ◌++◌, length, refl, sym, ap, subst, append-nil, append_assoc, arith}
use Rattle.std.specs.List.{AllByRecursion as Each}
use Rattle.cfa_outside.specs.declared.sites.Entry.{Entry}
use Rattle.cfa_outside.specs.declared.sites.Entry.TheVariants.{Did, Refused}
use Rattle.cfa_agent.specs.Actuations.{Mark}
use Rattle.cfa_agent.specs.Marks.{counted_on}
use Rattle.cfa_drill.specs.Interleaving.{TurnMark, marked_if, marks_in, turn_marks_behind, turn_marks_of}
use Rattle.cfa_drill.specs.Marking.{ArePaired, AreOthers, TurnsHaveTheirMarks, counted_behind, refusals_in}

-- the refused calls of two parts, each with its turns
marks_both : (changes : ℕ) (a b : List Entry) (turns more : List ℕ) → ArePaired a turns →
    turn_marks_behind changes (a ++ b) (turns ++ more) ≡ turn_marks_behind changes a turns ++ turn_marks_behind (counted_behind changes a) b more
marks_both changes [] b [] more paired = refl
marks_both changes [] b (turn ∷ turns) more paired = absurd (omega (arith, paired))
marks_both changes (Did change ∷ a) b turns more paired = marks_both (counted_on changes change) a b turns more paired
marks_both changes (Refused call ∷ a) b [] more paired = absurd (omega (arith, paired))
marks_both changes (Refused call ∷ a) b (turn ∷ turns) more paired =
    ap (λ (marks : List TurnMark). record { turn = turn; changes = changes; call = call } ∷ marks) (marks_both changes a b turns more (omega (arith, paired)))

in_both : (turn number : ℕ) (a b : List TurnMark) → marks_in turn number (a ++ b) ≡ marks_in turn number a ++ marks_in turn number b
in_both turn number [] b = refl
in_both turn number (mark ∷ a) b =
    ap (λ (marks : List Mark). marked_if (mark.turn == turn) number mark ++ marks) (in_both turn number a b)
    ∙ sym (append_assoc (marked_if (mark.turn == turn) number mark) (marks_in turn number a) (marks_in turn number b))

-- those of other turns aren't its own
none_of_others : (turn number changes : ℕ) (log : List Entry) (turns : List ℕ) → AreOthers turn turns → marks_in turn number (turn_marks_behind changes log turns) ≡ []
none_of_others turn number changes [] turns others = refl
none_of_others turn number changes (Did change ∷ log) turns others = none_of_others turn number (counted_on changes change) log turns others
none_of_others turn number changes (Refused call ∷ log) [] others = refl
none_of_others turn number changes (Refused call ∷ log) (other ∷ turns) others =
    let mark : TurnMark = record { turn = other; changes = changes; call = call } in
    ap (λ b. marked_if b number mark ++ marks_in turn number (turn_marks_behind changes log turns)) others.0 ∙ none_of_others turn number changes log turns others.1

pub own_marks : TurnsHaveTheirMarks
own_marks before step later first own last turn number paired paired' others others' =
    let behind : ℕ = counted_behind 0 before in
    let mine : List TurnMark = turn_marks_behind behind step own in
    let rest : List TurnMark = turn_marks_behind (counted_behind behind step) later last in
    ap (marks_in turn number) (marks_both 0 before (step ++ later) first (own ++ last) paired)
    ∙ in_both turn number (turn_marks_behind 0 before first) (turn_marks_behind behind (step ++ later) (own ++ last))
    ∙ ap (λ (marks : List Mark). marks ++ marks_in turn number (turn_marks_behind behind (step ++ later) (own ++ last))) (none_of_others turn number 0 before first others)
    ∙ ap (marks_in turn number) (marks_both behind step later own last paired')
    ∙ in_both turn number mine rest
    ∙ ap (λ (marks : List Mark). marks_in turn number mine ++ marks) (none_of_others turn number (counted_behind behind step) later last others')
    ∙ append-nil (marks_in turn number mine)
