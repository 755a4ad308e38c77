use Rattle.std.proofs.Common.{◌≡◌, ℕ, List, sym, ap, ◌∙◌, subst}
use Rattle.std.specs.FinMap.{put}
use Rattle.std.specs.Rc.{rc_str_bytes}
use Rattle.cfa_base.specs.declared.places.PromiseId.{PromiseId}
use Rattle.cfa_history.specs.Ids.{id_cmp}
use Rattle.cfa_history.specs.Rows.{with_instance}
use Rattle.cfa_history.specs.Tables.{IsRoom, id_at, by_id, counts_in, tally}
use Rattle.cfa_history.proofs.TableLemmas.{by_id-insert_entry}
use Rattle.cfa_history.proofs.rows.note.Goals as goal

pub count-counts-requires : goal.count-counts-requires
count-counts-requires c =
    let id = c.args.id.now in
    let entries = by_id rc_str_bytes c.args.table.now.entries in
    let same : id_at rc_str_bytes ((c.into_key-bundle.result, id.number), id.line) ≡ id = ap (λ (b : List ℕ). record { bundle = b; number = id.number; line = id.line }) (c.into_key-bundle.ensures ∙ c.in_ok-copy.ensures) in
    subst IsRoom (sym (c.counts_at.ensures ∙ ap (λ (q : PromiseId). counts_in q entries) same)) c.requires

pub returns : goal.returns
returns c =
    let id = c.args.id.now in
    let entries = by_id rc_str_bytes c.args.table.now.entries in
    let same : id_at rc_str_bytes ((c.into_key-bundle.result, id.number), id.line) ≡ id = ap (λ (b : List ℕ). record { bundle = b; number = id.number; line = id.line }) (c.into_key-bundle.ensures ∙ c.in_ok-copy.ensures) in
    ap (by_id rc_str_bytes) c.in_ok-insert.ensures.entries
    ∙ by_id-insert_entry rc_str_bytes ((c.into_key-bundle.result, id.number), id.line) c.count-counts.result c.args.table.now.entries
    ∙ ap (λ v. put id_cmp (id_at rc_str_bytes ((c.into_key-bundle.result, id.number), id.line)) v entries) (c.count-counts.ensures ∙ ap (λ k. with_instance k c.args.moment c.args.ending) c.counts_at.ensures)
    ∙ ap (λ (q : PromiseId). tally entries q c.args.moment c.args.ending) same
