-- Lists to which something is added, and bytes in which a name stands.
use Rattle.std.proofs.Common.{◌≡◌, ℕ, Bool, true, false, cond, List, [], ◌∷◌, ◌++◌, length, take, drop, All, ap, sym, ◌∙◌, ◌-◌, arith}
use Rattle.std.proofs.Math.Dec.{eqb}
use Rattle.std.specs.List.{starts_with}
use Rattle.std.proofs.lemmas.List.{append_assoc, take-append-drop, take_all, length-drop}
use Rattle.std.proofs.lemmas.List.Elements.{All-push, All-append}
use Rattle.std.proofs.lemmas.Bool.Decides.{Decides-eqb}
use Rattle.std.proofs.lemmas.Slice.Eq.{starts_is}
use Rattle.cfa_hints.specs.Findings.{StandsIn}

pub all_push : {X : Type 0} (P : X → Type 0) (is_added : Bool) (xs : List X) (x : X) → P x → All P xs → All P (cond is_added (xs ++ x ∷ []) xs)
all_push P true xs x this all = All-push P xs x all this
all_push P false xs x this all = all

pub all_extended : {X : Type 0} (P : X → Type 0) (is_added : Bool) (xs ys : List X) → All P xs → All P ys → All P (cond is_added (xs ++ ys) xs)
all_extended P true xs ys all more = All-append P xs ys all more
all_extended P false xs ys all more = all

pub stands_at : (bytes name : List ℕ) (start : ℕ) (starts : Bool) → starts ≡ starts_with eqb (take (length bytes - start) (drop start bytes)) name → starts ≡ true
    → StandsIn bytes name
stands_at bytes name start starts is true_of =
    let rest = take (length bytes - start) (drop start bytes) in
    let whole : rest ≡ drop start bytes = take_all (length bytes - start) (drop start bytes) (omega (arith, length-drop start bytes)) in
    let split : rest ≡ name ++ drop (length name) rest = (starts_is Decides-eqb rest name starts is).0 true_of in
    record {
      before = take start bytes;
      behind = drop (length name) rest;
      parts = sym (take-append-drop start bytes) ∙ (ap (λ l. take start bytes ++ l) (sym whole ∙ split) ∙ sym (append_assoc (take start bytes) name (drop (length name) rest)));
    }
