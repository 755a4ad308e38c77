use Rattle.std.proofs.Common.{◌≡◌, ℕ, List, map, length, slice_index, sym, ap, subst, ◌∙◌, arith}
use Rattle.std.proofs.lemmas.List.{map_push}
use Rattle.std.proofs.lemmas.Bool.{eqb-true, eqb-false}
use Rattle.cfa_base.specs.Lexing.{BeginsNone, place_after, fault_at}
use Rattle.cfa_lexer.specs.Fronts.{gap_len, IsFront}
use Rattle.cfa_lexer.specs.Lexed.{plain, IsFaultOf, err_of}
use Rattle.cfa_lexer.proofs.ScanSteps.{ReadTo, gap_boundary, front_boundary, read_gap, read_token, read_all, read_to_fault, fault_of}
use Rattle.cfa_lexer.proofs.lexing.scan.Goals as goal

pub split_at-requires : goal.split_at-requires
split_at-requires c = gap_boundary c.loop-rest.rest.now c.gap_len-gap.result (c.gap_len-gap.ensures ∙ ap gap_len c.as_bytes-bytes.ensures.value) c.if-gap-gt0.true c.loop-rest.invariant.utf8

pub loop-rest-preserved-then-gap-gt0 : goal.loop-rest-preserved-then-gap-gt0
loop-rest-preserved-then-gap-gt0 c =
    read_gap c.loop-rest.invariant c.gap_len-gap.result (c.gap_len-gap.ensures ∙ ap gap_len c.as_bytes-bytes.ensures.value) c.if-gap-gt0.true
    c.as_bytes.result.now c.split_at.result.1.now (c.as_bytes.ensures.value ∙ c.split_at.ensures.front) c.split_at.ensures.back c.place_after-place.result c.place_after-place.ensures

pub returns-in_default-clause-err : goal.returns-in_default-clause-err
returns-in_default-clause-err c =
    let rest = c.loop-rest.rest.now in
    let bytes_are_rest = c.as_bytes-bytes.ensures.value in
    let none = subst BeginsNone bytes_are_rest c.in_default.ensures in
    let no_gap : gap_len rest ≡ 0 = omega (arith, ap gap_len bytes_are_rest, c.gap_len-gap.ensures, c.if-gap-gt0.false) in
    let fault = read_to_fault c.loop-rest.invariant (omega (arith, eqb-false (length rest) 0 (sym c.loop-rest-test.ensures))) no_gap none in
    subst (IsFaultOf c.args.text.now c.args.file) (sym (c.fault_at.ensures ∙ ap (λ (x : List ℕ). err_of (fault_at c.loop-rest.place (slice_index x 0))) bytes_are_rest))
    (fault_of c.args.text.now c.args.file (fault_at c.loop-rest.place (slice_index rest 0)) fault)

pub split_at-requires-in-loop-rest : goal.split_at-requires-in-loop-rest
split_at-requires-in-loop-rest c =
    front_boundary c.loop-rest.rest.now c.in-Some.kind c.in-Some.len (subst (λ (x : List ℕ). IsFront x c.in-Some.kind c.in-Some.len) c.as_bytes-bytes.ensures.value c.in-Some.ensures) c.loop-rest.invariant.utf8

pub returns-clause-ok : goal.returns-clause-ok
returns-clause-ok c = read_all c.loop-rest.invariant (eqb-true (length c.loop-rest.rest.now) 0 (sym c.is_empty.ensures ∙ c.loop-rest-test.false))

pub loop-rest-preserved : goal.loop-rest-preserved
loop-rest-preserved c =
    let front = subst (λ (x : List ℕ). IsFront x c.in-Some.kind c.in-Some.len) c.as_bytes-bytes.ensures.value c.in-Some.ensures in
    let read = read_token c.loop-rest.invariant c.in-Some.kind c.in-Some.len front
    c.split_at-in-loop-rest.result.0.now c.split_at-in-loop-rest.result.1.now c.split_at-in-loop-rest.ensures.front c.split_at-in-loop-rest.ensures.back
    c.place_after-place-in-loop-rest.result (c.place_after-place-in-loop-rest.ensures ∙ ap (place_after c.loop-rest.place) c.as_bytes-in-loop-rest.ensures.value) in
    subst (λ x. ReadTo c.args.text.now c.args.file x c.place_after-place-in-loop-rest.result c.split_at-in-loop-rest.result.1.now)
    (sym (ap (map plain) c.in_ok-push.ensures.items ∙ map_push plain c.loop-rest.tokens.items _)) read
