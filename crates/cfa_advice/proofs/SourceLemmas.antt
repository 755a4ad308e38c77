-- Sources with names, of which one more may be kept.
use Rattle.std.proofs.Common.{ℕ, Bool, true, false, cond, List, [], ◌∷◌, ◌++◌, Contains}
use Rattle.std.proofs.lemmas.List.Elements.{All-push}
use Rattle.cfa_advice.specs.Sources.{AreNamed}

pub named_push : (names : List (List ℕ)) (is_kept : Bool) (texts : List (List ℕ × List ℕ)) (text : List ℕ × List ℕ) → Contains names text.0
    → AreNamed names texts → AreNamed names (cond is_kept (texts ++ text ∷ []) texts)
named_push names true texts text named all = All-push (λ (t : List ℕ × List ℕ). Contains names t.0) texts text all named
named_push names false texts text named all = all
